-- Places of rows by their ids.
use Rattle.std.proofs.Common.{◌≡◌, ℕ, zero, suc, ◌<◌, ◌≤◌, ◌+◌, ◌-◌, Bool, true, false, List, [], ◌∷◌, length, refl, sym, ◌∙◌, ap, arith, eqb-true}
use Rattle.std.specs.Prelude.{Option, Some, None, ◌==◌, nat_lt, if◌then◌else◌, slice_get}
use Rattle.std.specs.Option.{option_map}
use Rattle.std.proofs.lemmas.Bool.Decides.{nat_tests}
use Rattle.std.proofs.lemmas.Option.{slice_get_within}
use Rattle.row_tree.specs.TreeRows.{Ascend, place_of}
use Rattle.row_tree.specs.declared.tree_rows.TreeRow.{TreeRow}

tail_ascends : (x : TreeRow) (rows : List TreeRow) → Ascend (x ∷ rows) → Ascend rows
tail_ascends x rows ascend i j r s lt at at' = ascend (suc i) (suc j) r s (omega arith) at at'

pub found_place : (rows : List TreeRow) (id k : ℕ) (r : TreeRow) → Ascend rows → slice_get rows k ≡ Some r → r.id ≡ id → place_of rows id ≡ Some k
found_place [] id k r ascend at is = absurd (let no : ◌≡◌ {A = Option TreeRow} None (Some r) = at in cc)
found_place (x ∷ rows) id zero r ascend at is =
    let same : x ≡ r = cc in
    let same_id : x.id ≡ id = ap (λ (r : TreeRow). r.id) same ∙ is in
    let test : (x.id == id) ≡ true = grind (arith, nat_tests) in
    rw test refl
found_place (x ∷ rows) id (suc k) r ascend at is =
    let less : x.id < r.id = ascend 0 (suc k) x r (omega arith) refl at in
    let test : (x.id == id) ≡ false = grind (arith, nat_tests) in
    rw test (ap (λ (o : Option ℕ). option_map suc o) (found_place rows id k r (tail_ascends x rows ascend) at is))

-- the row with an id stands there
pub record IsAt (rows : List TreeRow) (id k : ℕ) : Type 0 where
  pub row : TreeRow
  pub is : slice_get rows k ≡ Some row
  pub same : row.id ≡ id

pub at_place : (rows : List TreeRow) (id k : ℕ) → place_of rows id ≡ Some k → IsAt rows id k
at_place [] id k e = absurd (let no : ◌≡◌ {A = Option ℕ} None (Some k) = e in cc)
at_place (x ∷ rows) id k e = by_test (x.id == id) refl e (at_place rows id)
  where
    by_place : (o : Option ℕ) → place_of rows id ≡ o → option_map suc o ≡ Some k → ((j : ℕ) → place_of rows id ≡ Some j → IsAt rows id j) → IsAt (x ∷ rows) id k
    by_place None at e later = absurd (let no : ◌≡◌ {A = Option ℕ} None (Some k) = e in cc)
    by_place (Some j) at e later =
        let there = later j at in
        let next : suc j ≡ k = let both : ◌≡◌ {A = Option ℕ} (Some (suc j)) (Some k) = e in cc in
        record { row = there.row; is = ap (slice_get (x ∷ rows)) (sym next) ∙ there.is; same = there.same }

    by_test : (b : Bool) → (x.id == id) ≡ b → (if b then Some 0 else option_map suc (place_of rows id)) ≡ Some k
        → ((j : ℕ) → place_of rows id ≡ Some j → IsAt rows id j) → IsAt (x ∷ rows) id k
    by_test true is e later =
        let here : 0 ≡ k = let both : ◌≡◌ {A = Option ℕ} (Some 0) (Some k) = e in cc in
        record { row = x; is = ap (slice_get (x ∷ rows)) (sym here); same = eqb-true x.id id is }
    by_test false is e later = by_place (place_of rows id) refl e later

pub no_place : (rows : List TreeRow) (id : ℕ) → ((k : ℕ) (r : TreeRow) → slice_get rows k ≡ Some r → r.id ≡ id → ⊥) → place_of rows id ≡ None
no_place [] id none = refl
no_place (x ∷ rows) id none = by_test (x.id == id) refl (no_place rows id (λ k r. none (suc k) r))
  where
    by_test : (b : Bool) → (x.id == id) ≡ b → place_of rows id ≡ None → (if b then Some 0 else option_map suc (place_of rows id)) ≡ None
    by_test true is later = absurd (none 0 x refl (eqb-true x.id id is))
    by_test false is later = ap (λ (o : Option ℕ). option_map suc o) later

pub one_place : (rows : List TreeRow) (j k : ℕ) (r s : TreeRow) → Ascend rows → slice_get rows j ≡ Some r → slice_get rows k ≡ Some s → r.id ≡ s.id → j ≡ k
one_place rows j k r s ascend at at' same =
    let both : ◌≡◌ {A = Option ℕ} (Some j) (Some k) = sym (found_place rows s.id j r ascend at same) ∙ found_place rows s.id k s ascend at' refl in
    cc

-- ---- neighbours

pub AscendTo : ℕ → List TreeRow → Type 0
AscendTo n rows = (i j : ℕ) (r s : TreeRow) → i < j → j < n → slice_get rows i ≡ Some r → slice_get rows j ≡ Some s → r.id < s.id

pub ascend_more : (rows : List TreeRow) (n : ℕ) (last next : TreeRow) → 1 ≤ n → slice_get rows (n - 1) ≡ Some last → slice_get rows n ≡ Some next → last.id < next.id
    → AscendTo n rows → AscendTo (n + 1) rows
unfolding AscendTo
ascend_more rows n last next some at at' less to i j r s lt below is is' = by_order (j == n) refl
  where
    by_last : (b : Bool) → (i == n - 1) ≡ b → j ≡ n → r.id < s.id
    by_last true tie here =
        let place : i ≡ n - 1 = eqb-true i (n - 1) tie in
        let first : ◌≡◌ {A = Option TreeRow} (Some r) (Some last) = sym is ∙ ap (slice_get rows) place ∙ at in
        let second : ◌≡◌ {A = Option TreeRow} (Some s) (Some next) = sym is' ∙ ap (slice_get rows) here ∙ at' in
        let same : r ≡ last = cc in
        let same' : s ≡ next = cc in
        let ids : r.id ≡ last.id = ap (λ (r : TreeRow). r.id) same in
        let ids' : s.id ≡ next.id = ap (λ (r : TreeRow). r.id) same' in
        omega arith
    by_last false apart here =
        let before : i < n - 1 = grind (arith, nat_tests) in
        let one : r.id < last.id = to i (n - 1) r last before (omega arith) is at in
        let second : ◌≡◌ {A = Option TreeRow} (Some s) (Some next) = sym is' ∙ ap (slice_get rows) here ∙ at' in
        let same' : s ≡ next = cc in
        let ids' : s.id ≡ next.id = ap (λ (r : TreeRow). r.id) same' in
        omega arith

    by_order : (b : Bool) → (j == n) ≡ b → r.id < s.id
    by_order true tie = by_last (i == n - 1) refl (eqb-true j n tie)
    by_order false apart = let before : j < n = grind (arith, nat_tests) in to i j r s lt before is is'

pub ascend_none : (rows : List TreeRow) → AscendTo 1 rows
unfolding AscendTo
ascend_none rows i j r s lt below is is' = absurd (omega arith)

pub ascend_all : (rows : List TreeRow) (n : ℕ) → length rows ≤ n → AscendTo n rows → Ascend rows
unfolding AscendTo
ascend_all rows n all to i j r s lt is is' = let within = slice_get_within rows j s is' in to i j r s lt (omega arith) is is'

-- ---- what a search finds

pub not_found : (rows : List TreeRow) (id low high : ℕ) → high ≤ low → ((k : ℕ) (r : TreeRow) → k < low → slice_get rows k ≡ Some r → r.id < id)
    → ((k : ℕ) (r : TreeRow) → high ≤ k → slice_get rows k ≡ Some r → id < r.id) → None ≡ place_of rows id
not_found rows id low high met below above = sym (no_place rows id (λ k r at same. by_order k r at same (nat_lt k low) refl))
  where
    by_order : (k : ℕ) (r : TreeRow) → slice_get rows k ≡ Some r → r.id ≡ id → (b : Bool) → nat_lt k low ≡ b → ⊥
    by_order k r at same true lt = let less = below k r (grind (arith, nat_tests)) at in omega (arith, less, same)
    by_order k r at same false ge = let more = above k r (grind (arith, nat_tests)) at in omega (arith, more, same)

pub at_id : (rows : List TreeRow) (id k : ℕ) (r : TreeRow) → Some k ≡ place_of rows id → slice_get rows k ≡ Some r → r.id ≡ id
at_id rows id k r found at =
    let there = at_place rows id k (sym found) in
    let both : ◌≡◌ {A = Option TreeRow} (Some there.row) (Some r) = sym there.is ∙ at in
    let row : there.row ≡ r = cc in
    sym (ap (λ (r : TreeRow). r.id) row) ∙ there.same
