-- Marks on places: one more set, and how many are left.
use Rattle.std.proofs.Common.{◌≡◌, ℕ, ◌+◌, ◌<◌, Bool, true, false, not, cond, List, [], ◌∷◌, ◌++◌, length, get_or, replicate, Some, refl, sym, ap, ◌∙◌, inl, inr, subst, arith, length-append}
use Rattle.std.specs.Prelude.{All, Contains, ◌⊎◌}
use Rattle.std.proofs.Math.ListN.{set}
use Rattle.std.proofs.lemmas.Bool.{cases_eq, cases_Bool, cases_lt, false≢true}
use Rattle.std.proofs.lemmas.List.{get_or-set_same, get_or-set_other, get_or_past, get_or-replicate, length-set, length-replicate}
use Rattle.std.proofs.lemmas.List.Elements.{All-append, All-weaker, All-cons, All-nil, Contains-get_or, Contains-push, Contains-push_cases, Contains-append_left, Contains-append_right}
use Rattle.std.proofs.lemmas.List.Sums.{sum_by-set}
use Rattle.std.proofs.lemmas.Option.{slice_get-get_or}
use Rattle.kit_manifest.specs.Links.{is_marked, unmarked_count, Reaches}

pub All-from_each : {X : Type 0} (P : X → Type 0) (xs : List X) → ((x : X) → Contains xs x → P x) → All P xs
All-from_each P xs each k d within = each (get_or xs k d) (Contains-get_or xs k d within)

-- what an index reads
pub is_marked-read : (marks : List Bool) (i : ℕ) (mark : Bool) → i < length marks → mark ≡ get_or marks i mark → is_marked marks i ≡ mark
is_marked-read marks i mark within read =
    let same : Some (get_or marks i false) ≡ Some (get_or marks i mark) = sym (slice_get-get_or marks i false within) ∙ slice_get-get_or marks i mark within in
    let equal : get_or marks i false ≡ get_or marks i mark = cc in
    equal ∙ sym read

pub marked_within : (marks : List Bool) (i : ℕ) → is_marked marks i ≡ true → i < length marks
marked_within marks i marked =
    elim (cases_lt i (length marks)) [ inl within ↦ within | inr past ↦ absurd (false≢true (sym (get_or_past marks i false past) ∙ marked)) ]

pub is_marked-set : (marks : List Bool) (i : ℕ) → i < length marks → is_marked (set marks i true) i ≡ true
is_marked-set marks i within = get_or-set_same marks i true false within

pub is_marked-set_kept : (marks : List Bool) (i j : ℕ) → i < length marks → is_marked marks j ≡ true → is_marked (set marks i true) j ≡ true
is_marked-set_kept marks i j within marked =
    elim (cases_eq j i) [
      | inl same ↦ ap (is_marked (set marks i true)) same ∙ is_marked-set marks i within
      | inr other ↦ get_or-set_other marks i j true false other ∙ marked
    ]

pub is_marked-set_cases : (marks : List Bool) (i j : ℕ) → is_marked (set marks i true) j ≡ true → (is_marked marks j ≡ true) ⊎ (j ≡ i)
is_marked-set_cases marks i j marked =
    elim (cases_eq j i) [
      | inl same ↦ inr same
      | inr other ↦ inl (sym (get_or-set_other marks i j true false other) ∙ marked)
    ]

pub unmarked_count-set : (marks : List Bool) (i : ℕ) → i < length marks → is_marked marks i ≡ false → unmarked_count (set marks i true) + 1 ≡ unmarked_count marks
unmarked_count-set marks i within left =
    let f : Bool → ℕ = λ mark. cond (not mark) 1 0 in
    let one : f (get_or marks i false) ≡ 1 = ap f left in
    omega (arith, sum_by-set f marks i true false within, one)

pub is_marked-replicate : (n i : ℕ) → is_marked (replicate n false) i ≡ false
is_marked-replicate n i =
    elim (cases_lt i n) [
      | inl within ↦ get_or-replicate n i false false within
      | inr past ↦ get_or_past (replicate n false) i false (omega (arith, length-replicate {A = Bool} n false))
    ]

pub not_marked : (marks : List Bool) (i : ℕ) → (is_marked marks i ≡ true → ⊥) → is_marked marks i ≡ false
not_marked marks i never = elim (cases_Bool (is_marked marks i)) [ inl marked ↦ absurd (never marked) | inr left ↦ left ]

-- nothing was reached yet
pub Reaches-none : (marks : List Bool) (waiting : List ℕ) → Reaches [] marks marks waiting waiting
Reaches-none marks waiting = record {
  same_length = refl;
  kept = λ i marked. marked;
  all = λ k d within. absurd (omega (arith, within));
  from_places = λ i marked. inl marked;
  new_wait = λ i marked. inl marked;
  still_wait = λ i waits. waits;
  from_new = λ i waits. inl waits;
  size = refl;
}

-- a place that was marked before
pub Reaches-again : (place : ℕ) (marks : List Bool) (waiting : List ℕ) → is_marked marks place ≡ true → Reaches (place ∷ []) marks marks waiting waiting
Reaches-again place marks waiting marked = record {
  same_length = refl;
  kept = λ i is. is;
  all = All-cons (λ i. is_marked marks i ≡ true) place [] marked (All-nil (λ i. is_marked marks i ≡ true));
  from_places = λ i is. inl is;
  new_wait = λ i is. inl is;
  still_wait = λ i waits. waits;
  from_new = λ i waits. inl waits;
  size = refl;
}

-- a place that is marked now
pub Reaches-new : (place : ℕ) (marks : List Bool) (waiting : List ℕ) → place < length marks → is_marked marks place ≡ false
    → Reaches (place ∷ []) marks (set marks place true) waiting (waiting ++ place ∷ [])
Reaches-new place marks waiting within left = record {
  same_length = length-set marks place true;
  kept = λ i is. is_marked-set_kept marks place i within is;
  all = All-cons (λ i. is_marked (set marks place true) i ≡ true) place [] (is_marked-set marks place within) (All-nil (λ i. is_marked (set marks place true) i ≡ true));
  from_places = λ i is. elim (is_marked-set_cases marks place i is) [ inl before ↦ inl before | inr same ↦ inr (subst (Contains (place ∷ [])) (sym same) (Contains-push [] place)) ];
  new_wait = λ i is. elim (is_marked-set_cases marks place i is) [ inl before ↦ inl before | inr same ↦ inr (subst (Contains (waiting ++ place ∷ [])) (sym same) (Contains-push waiting place)) ];
  still_wait = λ i waits. Contains-append_left waiting (place ∷ []) i waits;
  from_new = λ i waits. elim (Contains-push_cases waiting place i waits) [
    | inl before ↦ inl before
    | inr same ↦ inr (subst (λ j. is_marked (set marks place true) j ≡ true) same (is_marked-set marks place within))
  ];
  size = omega (arith, unmarked_count-set marks place within left, length-append {A = ℕ} waiting (place ∷ []));
}

-- places reached one after another
pub Reaches-more : (places : List ℕ) (place : ℕ) (a b c : List Bool) (w v u : List ℕ) → Reaches places a b w v → Reaches (place ∷ []) b c v u → Reaches (places ++ place ∷ []) a c w u
Reaches-more places place a b c w v u first then_ = record {
  same_length = then_.same_length ∙ first.same_length;
  kept = λ i is. then_.kept i (first.kept i is);
  all = All-append (λ i. is_marked c i ≡ true) places (place ∷ []) (All-weaker (λ i. is_marked b i ≡ true) (λ i. is_marked c i ≡ true) (λ i is. then_.kept i is) places first.all) then_.all;
  from_places = λ i is. elim (then_.from_places i is) [
    | inl at_b ↦ elim (first.from_places i at_b) [ inl at_a ↦ inl at_a | inr here ↦ inr (Contains-append_left places (place ∷ []) i here) ]
    | inr here ↦ inr (Contains-append_right places (place ∷ []) i here)
  ];
  new_wait = λ i is. elim (then_.new_wait i is) [
    | inl at_b ↦ elim (first.new_wait i at_b) [ inl at_a ↦ inl at_a | inr waits ↦ inr (then_.still_wait i waits) ]
    | inr waits ↦ inr waits
  ];
  still_wait = λ i waits. then_.still_wait i (first.still_wait i waits);
  from_new = λ i waits. elim (then_.from_new i waits) [
    | inl at_v ↦ elim (first.from_new i at_v) [ inl at_w ↦ inl at_w | inr is ↦ inr (then_.kept i is) ]
    | inr is ↦ inr is
  ];
  size = then_.size ∙ first.size;
}
