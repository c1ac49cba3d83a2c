-- Lists of taken indexes: their first gap, and what a new index makes of them.
use Rattle.std.proofs.Common.{◌≡◌, ℕ, suc, ◌+◌, ◌<◌, ◌≤◌, Bool, true, false, ◌||◌, ◌&&◌, not, cond, eqb, ltb, leb, List, [], ◌∷◌, ◌++◌, refl, sym, ◌∙◌, ap, subst, inl, inr, arith, ltb-true, ltb-false, eqb-true, eq-eqb, ne_eqb, leb-true}
use Rattle.std.specs.Prelude.{Option, Some, None}
use Rattle.std.proofs.lemmas.Bool.{or_cases, or_parts, or_from, or_left, or_right, cases_Bool, and_parts, not-true, eqb-false, both_ways, cond_both, cases_eq, cases_lt, cases_order}
use Rattle.std.proofs.lemmas.List.Folds.{list_any-append}
use Rattle.dasp_msg.specs.Numbers.{index_of}
use Rattle.dasp_msg.specs.TakenIndexes.{is_taken, gap_from, first_gap, AscendsFrom, IsTakenList, is_new, with_index, with_new, new_at, delivered, EachOnce}

or_swap : (a b c : Bool) → (a || (b || c)) ≡ (b || (a || c))
or_swap true true c = refl
or_swap true false c = refl
or_swap false true c = refl
or_swap false false c = refl

pub is_taken-with_index : (index : ℕ) (taken : List ℕ) (other : ℕ) → is_taken (with_index index taken) other ≡ (eqb index other || is_taken taken other)
is_taken-with_index index [] other = refl
is_taken-with_index index (first ∷ later) other =
    elim (ltb index first) as (λ v. is_taken (cond v (index ∷ first ∷ later) (first ∷ with_index index later)) other ≡ (eqb index other || is_taken (first ∷ later) other)) [
      | true ↦ refl
      | false ↦ ap (λ (b : Bool). eqb first other || b) (is_taken-with_index index later other) ∙ or_swap (eqb first other) (eqb index other) (is_taken later other)
    ]

pub AscendsFrom-with_index : (least index : ℕ) (taken : List ℕ) → AscendsFrom least taken → least ≤ index → is_taken taken index ≡ false → AscendsFrom least (with_index index taken)
AscendsFrom-with_index least index [] ascends le fresh = (le, tt)
AscendsFrom-with_index least index (first ∷ later) ascends le fresh =
    elim (cases_Bool (ltb index first)) [
      | inl below ↦
          let next : suc index ≤ first = let lt : index < first = ltb-true index first below in omega arith in
          subst (λ (v : Bool). AscendsFrom least (cond v (index ∷ first ∷ later) (first ∷ with_index index later))) (sym below) (le, (next, ascends.1))
      | inr above ↦
          let parts = or_parts (eqb first index) (is_taken later index) fresh in
          let past : suc first ≤ index = let ge : first ≤ index = ltb-false index first above in let other : first ≡ index → ⊥ = eqb-false first index parts.0 in omega arith in
          subst (λ (v : Bool). AscendsFrom least (cond v (index ∷ first ∷ later) (first ∷ with_index index later))) (sym above) (ascends.0, AscendsFrom-with_index (suc first) index later ascends.1 past parts.1)
    ]

pub gap_from-above : (least : ℕ) (taken : List ℕ) → least ≤ gap_from least taken
gap_from-above least [] = omega arith
gap_from-above least (index ∷ later) =
    cond_both (eqb index least) (gap_from (suc least) later) least (λ gap. least ≤ gap) (λ here. omega (arith, gap_from-above (suc least) later)) (λ there. omega arith)

-- what lies between was taken
pub gap_from-below : (least : ℕ) (taken : List ℕ) (index : ℕ) → least ≤ index → index < gap_from least taken → is_taken taken index ≡ true
gap_from-below least [] index le = λ lt. absurd (omega arith)
gap_from-below least (first ∷ later) index le =
    cond_both (eqb first least) (gap_from (suc least) later) least (λ gap. index < gap → is_taken (first ∷ later) index ≡ true)
    (λ here lt. elim (cases_eq least index) [
      | inl same ↦ or_left (eqb first index) (is_taken later index) (eq-eqb first index (eqb-true first least here ∙ same))
      | inr other ↦ or_right (eqb first index) (is_taken later index) (gap_from-below (suc least) later index (omega arith) lt)
    ])
    (λ there lt. absurd (omega arith))

pub is_taken-below : (least : ℕ) (taken : List ℕ) (index : ℕ) → AscendsFrom least taken → index < least → is_taken taken index ≡ false
is_taken-below least [] index ascends lt = refl
is_taken-below least (first ∷ later) index ascends lt =
    let le : least ≤ first = ascends.0 in
    or_from (eqb first index) (is_taken later index) (ne_eqb first index (λ same. omega arith)) (is_taken-below (suc first) later index ascends.1 (omega arith))

-- the gap was not
pub gap_from-free : (least : ℕ) (taken : List ℕ) → AscendsFrom least taken → is_taken taken (gap_from least taken) ≡ false
gap_from-free least [] ascends = refl
gap_from-free least (first ∷ later) ascends =
    cond_both (eqb first least) (gap_from (suc least) later) least (λ gap. is_taken (first ∷ later) gap ≡ false)
    (λ here.
    let same : first ≡ least = eqb-true first least here in
    let above : suc least ≤ gap_from (suc least) later = gap_from-above (suc least) later in
    let next : AscendsFrom (suc least) later = subst (λ (n : ℕ). AscendsFrom (suc n) later) same ascends.1 in
    or_from (eqb first (gap_from (suc least) later)) (is_taken later (gap_from (suc least) later)) (ne_eqb first (gap_from (suc least) later) (λ e. omega arith)) (gap_from-free (suc least) later next))
    (λ there.
    let other : first ≡ least → ⊥ = eqb-false first least there in
    let le : least ≤ first = ascends.0 in
    or_from (eqb first least) (is_taken later least) there (is_taken-below (suc first) later least ascends.1 (omega arith)))

-- the first gap is the index of which this holds
pub first_gap_is : (taken : List ℕ) (gap : ℕ) → AscendsFrom 0 taken → ((index : ℕ) → index < gap → is_taken taken index ≡ true) → is_taken taken gap ≡ false → first_gap taken ≡ gap
first_gap_is taken gap ascends below free =
    elim (cases_order (first_gap taken) gap) [
      | inl same ↦ same
      | inr other ↦ elim other [
        | inl low ↦ absurd (both_ways (is_taken taken (first_gap taken)) (gap_from-free 0 taken ascends) (below (first_gap taken) low))
        | inr high ↦ absurd (both_ways (is_taken taken gap) free (gap_from-below 0 taken gap (omega arith) high))
      ]
    ]

pub first_gap-grows : (taken : List ℕ) (index : ℕ) → AscendsFrom 0 (with_index index taken) → first_gap taken ≤ first_gap (with_index index taken)
first_gap-grows taken index ascends =
    let after : ℕ = first_gap (with_index index taken) in
    elim (cases_lt after (first_gap taken)) [
      | inr le ↦ le
      | inl lt ↦ absurd (both_ways (is_taken (with_index index taken) after) (gap_from-free 0 (with_index index taken) ascends)
          (is_taken-with_index index taken after ∙ or_right (eqb index after) (is_taken taken after) (gap_from-below 0 taken after (omega arith) lt)))
    ]

-- what a new index is
pub record NewIndex (taken : List ℕ) (index : ℕ) : Type 0 where
  pub least : first_gap taken ≤ index
  pub most : index < first_gap taken + 31
  pub fresh : is_taken taken index ≡ false

pub new_index : (taken : List ℕ) (index : ℕ) → is_new taken index ≡ true → NewIndex taken index
new_index taken index new =
    let both = and_parts (leb (first_gap taken) index && ltb index (first_gap taken + 31)) (not (is_taken taken index)) new in
    let ends = and_parts (leb (first_gap taken) index) (ltb index (first_gap taken + 31)) both.0 in
    record { least = leb-true (first_gap taken) index ends.0; most = ltb-true index (first_gap taken + 31) ends.1; fresh = not-true (is_taken taken index) both.1 }

pub IsTakenList-with_index : (taken : List ℕ) (index : ℕ) → IsTakenList taken → NewIndex taken index → IsTakenList (with_index index taken)
IsTakenList-with_index taken index list new =
    let ascends : AscendsFrom 0 (with_index index taken) = AscendsFrom-with_index 0 index taken list.ascends (omega arith) new.fresh in
    let grows : first_gap taken ≤ first_gap (with_index index taken) = first_gap-grows taken index ascends in
    record {
      ascends = ascends;
      near = λ other is. elim (or_cases (eqb index other) (is_taken taken other) (sym (is_taken-with_index index taken other) ∙ is)) [
        | inl here ↦ let same : index ≡ other = eqb-true index other here in let most : index < first_gap taken + 31 = new.most in omega arith
        | inr there ↦ let near : other < first_gap taken + 31 = list.near other there in omega arith
      ];
    }

pub IsTakenList-with_new : (taken : List ℕ) (index : Option ℕ) → IsTakenList taken → IsTakenList (with_new taken index)
IsTakenList-with_new taken None list = list
IsTakenList-with_new taken (Some index) list =
    cond_both (is_new taken index) (with_index index taken) taken IsTakenList (λ new. IsTakenList-with_index taken index list (new_index taken index new)) (λ old. list)

pub is_taken-with_new : (taken : List ℕ) (new : Option ℕ) (index : ℕ) → is_taken taken index ≡ true → is_taken (with_new taken new) index ≡ true
is_taken-with_new taken None index is = is
is_taken-with_new taken (Some new) index is =
    cond_both (is_new taken new) (with_index new taken) taken (λ after. is_taken after index ≡ true) (λ fits. is_taken-with_index new taken index ∙ or_right (eqb new index) (is_taken taken index) is) (λ other. is)

new_at-fresh : (taken : List ℕ) (new : Option ℕ) (index : ℕ) → is_taken taken index ≡ true → is_taken (new_at taken new) index ≡ false
new_at-fresh taken None index is = refl
new_at-fresh taken (Some new) index is =
    cond_both (is_new taken new) (new ∷ []) [] (λ indexes. is_taken indexes index ≡ false)
    (λ fits. or_from (eqb new index) false (ne_eqb new index (λ same. both_ways (is_taken taken new) (new_index taken new fits).fresh (subst (λ (n : ℕ). is_taken taken n ≡ true) (sym same) is))) refl)
    (λ other. refl)

pub delivered-fresh : (numbers taken : List ℕ) (index : ℕ) → is_taken taken index ≡ true → is_taken (delivered taken numbers) index ≡ false
delivered-fresh [] taken index is = refl
delivered-fresh (number ∷ later) taken index is =
    let new : Option ℕ = index_of (first_gap taken) number in
    list_any-append (λ each. eqb each index) (new_at taken new) (delivered (with_new taken new) later)
    ∙ or_from (is_taken (new_at taken new) index) (is_taken (delivered (with_new taken new) later) index)
    (new_at-fresh taken new index is) (delivered-fresh later (with_new taken new) index (is_taken-with_new taken new index is))

once_after : (taken : List ℕ) (new : Option ℕ) (later : List ℕ) → ((after : List ℕ) → EachOnce (delivered after later)) → EachOnce (new_at taken new ++ delivered (with_new taken new) later)
once_after taken None later once = once taken
once_after taken (Some index) later once =
    let family : Bool → Type 0 = λ v. EachOnce (cond v (index ∷ []) [] ++ delivered (cond v (with_index index taken) taken) later) in
    elim (cases_Bool (is_new taken index)) [
      | inl fits ↦
          let is : is_taken (with_index index taken) index ≡ true = is_taken-with_index index taken index ∙ or_left (eqb index index) (is_taken taken index) (eq-eqb index index refl) in
          subst family (sym fits) (delivered-fresh later (with_index index taken) index is, once (with_index index taken))
      | inr other ↦ subst family (sym other) (once taken)
    ]

pub delivered-once : (numbers taken : List ℕ) → EachOnce (delivered taken numbers)
delivered-once [] taken = tt
delivered-once (number ∷ later) taken = once_after taken (index_of (first_gap taken) number) later (λ after. delivered-once later after)
