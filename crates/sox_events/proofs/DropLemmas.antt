-- What is left when the dead are dropped.
use Rattle.std.proofs.Common.{ℕ, ◌≡◌, ◌≢◌, ◌<◌, ◌≤◌, ◌+◌, inl, inr, Bool, true, false, cond, List, Option, None, refl, sym, ◌∙◌, ap, arith}
use Rattle.std.proofs.lemmas.Bool.{cases_eq, cases_Bool, cond-false, eq-eqb, ne_eqb, ltb-true, ltb-false, lt-ltb, le-ltb, and_right}
use Rattle.std.specs.Prelude.{◌==◌, ◌&&◌, not, nat_lt, if◌then◌else◌}
use Rattle.sed_engine.specs.declared.engine.Engine.{Ghosts}
use Rattle.link_prop.specs.Linked.{Linked}
use Rattle.sub_table.specs.declared.part.Part.{Part}
use Rattle.sub_table.specs.declared.table.SubTable.{SubTable}
use Rattle.sub_table.specs.Table.{at, kept_of, number_of}
use Rattle.sub_table.specs.Events.{kept_at}
use Rattle.sox_events.specs.Due.{lives}
use Rattle.std.proofs.Math.Bool.{and-true as and_true}

abbrev pub Last : Type 0
Last = Option (Option (List ℕ))

-- nothing of the dead below an id is subscribed any more
abbrev pub Dropped : {E : Type 0} → Ghosts E → Linked E → ℕ → SubTable → SubTable → Type 0
Dropped g a done before now = (p i : ℕ) (part : Part) → at now p i part ≡ (if nat_lt i done && not (lives g a i) then None else at before p i part)

same_below : (i done : ℕ) → i ≢ done → nat_lt i done ≡ nat_lt i (done + 1)
same_below i done apart = elim (cases_Bool (nat_lt i done)) [
  | inl less ↦ let l : i < done = ltb-true i done less in less ∙ sym (lt-ltb i (done + 1) (omega arith))
  | inr more ↦ let l : done ≤ i = ltb-false i done more in more ∙ sym (le-ltb i (done + 1) (omega (arith, apart)))
]

pub one_more : (live : ℕ → Bool) (done i : ℕ) (dead : Bool) (before now after : Last) → dead ≡ not (live done)
    → now ≡ (if nat_lt i done && not (live i) then None else before) → after ≡ (if dead && (i == done) then None else now)
    → after ≡ (if nat_lt i (done + 1) && not (live i) then None else before)
one_more live done i dead before now after ed en ea = elim (cases_eq i done) [
  | inl same ↦
      let below : nat_lt i (done + 1) ≡ true = lt-ltb i (done + 1) (omega arith) in
      let past : nat_lt i done ≡ false = le-ltb i done (omega arith) in
      let kept : now ≡ before = en ∙ ap (λ (b : Bool). cond (b && not (live i)) None before) past in
      let verdict : (dead && (i == done)) ≡ (nat_lt i (done + 1) && not (live i)) =
      ap (λ (b : Bool). dead && b) (eq-eqb i done same) ∙ and_true dead ∙ ed ∙ ap (λ (k : ℕ). not (live k)) (sym same)
      ∙ sym (ap (λ (b : Bool). b && not (live i)) below) in
      ea ∙ ap (λ (b : Bool). cond b None now) verdict ∙ ap (λ (o : Last). cond (nat_lt i (done + 1) && not (live i)) None o) kept
  | inr apart ↦
      ea ∙ cond-false (dead && (i == done)) None now (and_right dead (i == done) (ne_eqb i done apart))
      ∙ en ∙ ap (λ (b : Bool). cond (b && not (live i)) None before) (same_below i done apart)
]

either : (l : Bool) (o : Last) → cond (true && not l) None o ≡ cond l o None
either true o = refl
either false o = refl

neither : (l : Bool) (o : Last) → o ≡ None → cond (false && not l) None o ≡ cond l o None
neither true o e = refl
neither false o e = e

pub all_dead : (l : Bool) (now before : SubTable) (p i : ℕ) (part : Part)
    → at now p i part ≡ (if nat_lt i 4096 && not l then None else at before p i part) → at now p i part ≡ (if l then at before p i part else None)
all_dead l now before p i part is = elim (cases_Bool (nat_lt i 4096)) [
  | inl inside ↦ is ∙ ap (λ (b : Bool). cond (b && not l) None (at before p i part)) inside ∙ either l (at before p i part)
  | inr out ↦
      is ∙ ap (λ (b : Bool). cond (b && not l) None (at before p i part)) out
      ∙ neither l (at before p i part)
      (cond-false (nat_lt p 16 && nat_lt i 4096) (kept_at (kept_of before part) (number_of p i)) None (and_right (nat_lt p 16) (nat_lt i 4096) out))
]
