-- The components, one after another.
use Rattle.std.proofs.Common.{ℕ, ◌≡◌, ◌⊎◌, ◌<◌, ◌≤◌, ◌+◌, inl, inr, Bool, true, false, cond, List, Option, Some, None, refl, sym, ◌∙◌, ap, subst, arith}
use Rattle.std.proofs.lemmas.Bool.{and_right, cases_Bool, cases_eq, eqb-true, eq-eqb, ne_eqb, ltb-true, ltb-false, lt-ltb, le-ltb}
use Rattle.std.specs.Prelude.{◌==◌, ◌&&◌, ◌||◌, not, nat_eq, nat_lt, is_some, MatchOption}
use Rattle.std.specs.Option.{option_map_or}
use Rattle.std.specs.Cmp.Lexicographic.{pointwise}
use Rattle.sed_engine.specs.declared.engine.Engine.{Ghosts}
use Rattle.link_prop.specs.Linked.{Linked}
use Rattle.sub_table.specs.declared.part.Part.{Part}
use Rattle.sub_table.specs.declared.part.Part.TheVariants.{Tree, Config, Runtime, Links}
use Rattle.sub_table.specs.Table.{Subscriptions, at, is_subscribed, IsNextId}
use Rattle.sub_table.specs.declared.table.SubTable.{SubTable}
use Rattle.sox_events.specs.Due.{Gives, Passes, Those, all_of_them, before_it, bytes_of, none_of_them, is_due_after, is_watched, lives, marked, rank}
use Rattle.sox_events.proofs.Passing.{gives_later, passes_more, passes_none, passes_same}
pub use Rattle.std.proofs.lemmas.Bool.{not-true as not_true}

not_due : (f : Option (List ℕ) → Bool) (o : Option (Option (List ℕ))) → is_some o ≡ false → option_map_or f o false ≡ false
not_due f None e = refl
not_due f (Some last) e = absurd (let wrong : true ≡ false = e in cc)

unwatched : (p s u w m : Bool) → w ≡ false → cond ((p && s) && w) false m ≡ cond ((p && u) && w) false m
unwatched p s u w m e =
    ap (λ (b : Bool). cond ((p && s) && b) false m) e ∙ ap (λ (b : Bool). cond b false m) (and_right (p && s) false refl)
    ∙ sym (ap (λ (b : Bool). cond ((p && u) && b) false m) e ∙ ap (λ (b : Bool). cond b false m) (and_right (p && u) false refl))

none_of_four : (t c r l : Bool) → (t || c || r || l) ≡ false → (t ≡ false) × (c ≡ false) × (r ≡ false) × (l ≡ false)
none_of_four false false false false e = (refl, refl, refl, refl)
none_of_four true c r l e = absurd (let wrong : true ≡ false = e in cc)
none_of_four false true r l e = absurd (let wrong : true ≡ false = e in cc)
none_of_four false false true l e = absurd (let wrong : true ≡ false = e in cc)
none_of_four false false false true e = absurd (let wrong : true ≡ false = e in cc)

none_of_id : (subs : Subscriptions) (place id : ℕ) → is_subscribed subs place id ≡ false
    → (is_some (subs place id Tree) ≡ false) × (is_some (subs place id Config) ≡ false) × (is_some (subs place id Runtime) ≡ false) × (is_some (subs place id Links) ≡ false)
none_of_id subs place id e = none_of_four (is_some (subs place id Tree)) (is_some (subs place id Config)) (is_some (subs place id Runtime)) (is_some (subs place id Links)) e

none_there : (subs : Subscriptions) (place id : ℕ) → is_subscribed subs place id ≡ false → (q : Part) → is_some (subs place id q) ≡ false
none_there subs place id e Tree = (none_of_id subs place id e).0
none_there subs place id e Config = (none_of_id subs place id e).1
none_there subs place id e Runtime = (none_of_id subs place id e).2
none_there subs place id e Links = (none_of_id subs place id e).3

module _ {E : Type 0} (g : Ghosts E) (a b : Linked E) (subs : Subscriptions) (place : ℕ) where
  pub passes_skip : (s u : Those) → ((i : ℕ) (q : Part) → (s i q ≡ u i q) ⊎ (is_some (subs place i q) ≡ false)) → Passes g a b subs place s → Passes g a b subs place u
  passes_skip s u same w = record {
    stays = w.stays;
    meaning = w.meaning;
    steady = w.steady;
    none = λ i q inside. elim (same i q) [
      | inl e ↦ w.none i q (e ∙ inside)
      | inr e ↦ not_due (is_due_after g a place i q) (subs place i q) e
    ];
    marks = λ p i q. elim (same i q) [
      | inl e ↦ w.marks p i q ∙ ap (λ (k : Bool). cond ((p == place && k) && is_watched g a subs place i q) false (marked a p i q)) e
      | inr e ↦ w.marks p i q ∙ unwatched (p == place) (s i q) (u i q) (is_watched g a subs place i q) (marked a p i q) (ap (λ (k : Bool). k && lives g a i) e)
    ];
  }

  -- ids of which nothing is subscribed are passed
  pub to_next : (from next : ℕ) → ((i : ℕ) → from ≤ i → i < next → is_subscribed subs place i ≡ false) → from ≤ next
      → Passes g a b subs place (λ i q. nat_lt i from) → Passes g a b subs place (λ i q. nat_lt i next)
  to_next from next least le w = passes_skip (λ i q. nat_lt i from) (λ i q. nat_lt i next) (λ i q. one i q) w
    where
      one : (i : ℕ) (q : Part) → (nat_lt i from ≡ nat_lt i next) ⊎ (is_some (subs place i q) ≡ false)
      one i q = elim (cases_Bool (nat_lt i from)) [
        | inl less ↦ let l : i < from = ltb-true i from less in inl (less ∙ sym (lt-ltb i next (omega (arith, le, l))))
        | inr more ↦ elim (cases_Bool (nat_lt i next)) [
          | inl inside ↦ inr (none_there subs place i (least i (ltb-false i from more) (ltb-true i next inside)) q)
          | inr out ↦ inl (more ∙ sym out)
        ]
      ]

  pub to_end : (from : ℕ) → ((i : ℕ) → from ≤ i → is_subscribed subs place i ≡ false)
      → Passes g a b subs place (λ i q. nat_lt i from) → Passes g a b subs place all_of_them
  to_end from none w = passes_skip (λ i q. nat_lt i from) all_of_them (λ i q. one i q) w
    where
      one : (i : ℕ) (q : Part) → (nat_lt i from ≡ true) ⊎ (is_some (subs place i q) ≡ false)
      one i q = elim (cases_Bool (nat_lt i from)) [
        | inl less ↦ inl less
        | inr more ↦ inr (none_there subs place i (none i (ltb-false i from more)) q)
      ]

below_or : (i id : ℕ) → (nat_lt i id || (i == id)) ≡ nat_lt i (id + 1)
below_or i id = elim (cases_Bool (nat_lt i id)) [
  | inl less ↦ let l : i < id = ltb-true i id less in ap (λ (b : Bool). b || (i == id)) less ∙ sym (lt-ltb i (id + 1) (omega (arith, l)))
  | inr more ↦ let l : id ≤ i = ltb-false i id more in ap (λ (b : Bool). b || (i == id)) more ∙ elim (cases_eq i id) [
    | inl same ↦ eq-eqb i id same ∙ sym (lt-ltb i (id + 1) (omega (arith, same)))
    | inr apart ↦ ne_eqb i id apart ∙ sym (le-ltb i (id + 1) (omega (arith, l, apart)))
  ]
]

module _ {E : Type 0} (g : Ghosts E) (a b c : Linked E) (subs : Subscriptions) (place from id : ℕ) (next : IsNextId subs place from id)
    (w : Passes g a b subs place (λ i q. nat_lt i from)) where
  before_id : Passes g a b subs place (λ i q. nat_lt i id)
  before_id = to_next g a b subs place from id next.least next.from w

  pub id_passed : Passes g b c subs place (λ i q. i == id) → Passes g a c subs place (λ i q. nat_lt i (id + 1))
  id_passed v = passes_more g a b c subs place (λ i q. nat_lt i id) (λ i q. i == id) (λ i q. nat_lt i (id + 1)) before_id v (λ i q. below_or i id)

  pub id_gives : (after : Subscriptions) (part : Part) (count : ℕ) (into now : List ℕ)
      → Gives g b c subs after place (λ i q. i == id && nat_lt (rank q) (rank part)) id part count into now
      → Gives g a c subs after place (before_it id part) id part count into now
  id_gives after part count into now e =
      gives_later g a b c subs place (λ i q. nat_lt i id) (λ i q. i == id && nat_lt (rank q) (rank part)) (before_it id part) after id part count into now
      before_id e (le-ltb id id (omega arith)) (λ i q. refl)

-- ---- what is not live

pub not_false : (b : Bool) → not b ≡ false → b ≡ true
not_false true e = refl
not_false false e = absurd (let wrong : true ≡ false = e in cc)

dead_due : (o : Option (Option (List ℕ))) (l : Bool) (f : Option (List ℕ) → Bool) → l ≡ false → option_map_or (λ (last : Option (List ℕ)). l && f last) o false ≡ false
dead_due None l f e = refl
dead_due (Some last) l f e = ap (λ (b : Bool). b && f last) e

dead_marks : (p e s l m : Bool) → (e ≡ true → l ≡ false) → m ≡ cond ((p && e) && (s && l)) false m
dead_marks false e s l m k = refl
dead_marks true false s l m k = refl
dead_marks true true false l m k = refl
dead_marks true true true l m k = sym (ap (λ (b : Bool). cond b false m) (k refl))

pub passes_dead : {E : Type 0} (g : Ghosts E) (a : Linked E) (subs : Subscriptions) (place id : ℕ) → lives g a id ≡ false → Passes g a a subs place (λ i q. i == id)
passes_dead g a subs place id dead = record {
  stays = refl;
  meaning = refl;
  steady = refl;
  none = λ i q inside.
      dead_due (subs place i q) (lives g a i) (λ (last : Option (List ℕ)). option_map_or (λ (bytes : List ℕ). marked a place i q && not (pointwise nat_eq bytes (bytes_of g a i q))) last true)
      (ap (λ (k : ℕ). lives g a k) (eqb-true i id inside) ∙ dead);
  marks = λ p i q. dead_marks (p == place) (i == id) (is_some (subs place i q)) (lives g a i) (marked a p i q) (λ e. ap (λ (k : ℕ). lives g a k) (eqb-true i id e) ∙ dead);
}

-- ---- a turn of the walk over the ids

module _ {E : Type 0} (g : Ghosts E) (place : ℕ) where
  pub first_turn : (a : Linked E) (subs : Subscriptions) → Passes g a a subs place (λ i q. nat_lt i 0)
  first_turn a subs =
      passes_same g place a a subs none_of_them (λ i q. nat_lt i 0) (λ i q. sym (le-ltb i 0 (omega arith))) (passes_none g place a subs)

  pub turn_passes : (from id : ℕ) (a b c : Linked E) (t u v : SubTable) (into now end : List ℕ) (result : Option ℕ) (Q : ℕ → Type 0) → IsNextId (at u) place from id
      → Passes g a b (at t) place (λ i q. nat_lt i from) → u ≡ t → now ≡ into → is_some result ≡ false
      → MatchOption result (Passes g b c (at u) place (λ i q. i == id) × (v ≡ u) × (end ≡ now)) Q
      → Passes g a c (at t) place (λ i q. nat_lt i (id + 1)) × (v ≡ t) × (end ≡ into)
  turn_passes from id a b c t u v into now end None Q next w eu en none m = (
    id_passed g a b c (at t) place from id (subst (λ (x : SubTable). IsNextId (at x) place from id) eu next) w
        (subst (λ (x : SubTable). Passes g b c (at x) place (λ i q. i == id)) eu m.0),
    m.1 ∙ eu,
    m.2 ∙ en,
  )
  turn_passes from id a b c t u v into now end (Some count) Q next w eu en none m = absurd (let wrong : true ≡ false = none in cc)

  pub turn_gives : (P : Type 0) (from id : ℕ) (a b c : Linked E) (t u v : SubTable) (into now end : List ℕ) (result : Option ℕ) → IsNextId (at u) place from id
      → Passes g a b (at t) place (λ i q. nat_lt i from) → u ≡ t → now ≡ into → is_some result ≡ true
      → MatchOption result (Passes g b c (at u) place (λ i q. i == id) × (v ≡ u) × (end ≡ now))
      (λ count. (part : Part) × Gives g b c (at u) (at v) place (λ i q. i == id && nat_lt (rank q) (rank part)) id part count now end)
      → MatchOption result P (λ count. (i : ℕ) × (part : Part) × Gives g a c (at t) (at v) place (before_it i part) i part count into end)
  turn_gives P from id a b c t u v into now end None next w eu en some m = absurd (let wrong : false ≡ true = some in cc)
  turn_gives P from id a b c t u v into now end (Some count) next w eu en some m = (
    id,
    m.0,
    id_gives g a b c (at t) place from id (subst (λ (x : SubTable). IsNextId (at x) place from id) eu next) w (at v) m.0 count into end
        (subst (λ (x : SubTable). Gives g b c (at x) (at v) place (λ i q. i == id && nat_lt (rank q) (rank m.0)) id m.0 count into end) eu
        (subst (λ (x : List ℕ). Gives g b c (at u) (at v) place (λ i q. i == id && nat_lt (rank q) (rank m.0)) id m.0 count x end) en m.1)),
  )

  pub last_turn : (from : ℕ) (a b : Linked E) (t u : SubTable) → Passes g a b (at t) place (λ i q. nat_lt i from) → u ≡ t
      → ((i : ℕ) → from ≤ i → is_subscribed (at u) place i ≡ false) → Passes g a b (at t) place all_of_them
  last_turn from a b t u w eu none =
      to_end g a b (at t) place from (λ i le. ap (λ (x : SubTable). is_subscribed (at x) place i) (sym eu) ∙ none i le) w
