-- Chains of siblings.
use Rattle.std.proofs.Common.{◌≡◌, ℕ, zero, suc, ◌<◌, ◌≤◌, ◌+◌, Bool, true, false, List, [], ◌∷◌, ◌++◌, length, drop, refl, sym, subst, ◌∙◌, ap, arith, eqb-true, append_assoc, length-append, length-drop}
use Rattle.std.specs.Prelude.{Option, Some, None, ◌==◌, ◌||◌, nat_eq, slice_get}
use Rattle.std.specs.Option.{option_map_or}
use Rattle.std.specs.List.{AllByRecursion, IsDistinct, list_any}
use Rattle.std.proofs.lemmas.Bool.Decides.{nat_tests}
use Rattle.std.proofs.lemmas.List.{append-nil}
use Rattle.std.proofs.lemmas.Option.{slice_get_within}
use Rattle.std.proofs.lemmas.Map.Steps.{length-le_from_distinct_below}
use Rattle.row_tree.specs.Chains.{AreLists, IsChain, IsChild, next_at}
use Rattle.row_tree.specs.TreeRows.{Ascend, place_of}
use Rattle.row_tree.specs.Tree.{list_at}
use Rattle.row_tree.specs.declared.tree_rows.TreeRow.{TreeRow}
use Rattle.row_tree.proofs.TreePlaces.{at_id, found_place, one_place}

-- ---- lists

pub all_from_each : (P : ℕ → Type 0) (xs : List ℕ) → ((j x : ℕ) → slice_get xs j ≡ Some x → P x) → AllByRecursion P xs
all_from_each P [] each = tt
all_from_each P (x ∷ xs) each = (each 0 x refl, all_from_each P xs (λ j. each (suc j)))

pub apart_test : (x y : ℕ) → (x ≡ y → ⊥) → nat_eq x y ≡ false
apart_test x y ne = by_test (nat_eq x y) refl
  where
    by_test : (b : Bool) → nat_eq x y ≡ b → nat_eq x y ≡ false
    by_test false is = is
    by_test true is = absurd (ne (eqb-true x y is))

any_is_there : (q : ℕ) (xs : List ℕ) → list_any (nat_eq q) xs ≡ true → (j : ℕ) × (slice_get xs j ≡ Some q)
any_is_there q [] any = absurd (let no : false ≡ true = any in cc)
any_is_there q (x ∷ xs) any = by_test (nat_eq q x) refl any (any_is_there q xs)
  where
    by_test : (b : Bool) → nat_eq q x ≡ b → (b || list_any (nat_eq q) xs) ≡ true → (list_any (nat_eq q) xs ≡ true → (j : ℕ) × (slice_get xs j ≡ Some q))
        → (j : ℕ) × (slice_get (x ∷ xs) j ≡ Some q)
    by_test true is any later = (0, ap (λ (y : ℕ). Some y) (sym (eqb-true q x is)))
    by_test false is any later = let there = later any in (suc there.0, there.1)

-- ---- chains

module _ (rows : List TreeRow) (ascend : Ascend rows) where
  pub same_child : (up up' : ℕ) (at : Option ℕ) (x y : ℕ) → IsChild rows up at x → IsChild rows up' at y → x ≡ y
  same_child up up' at x y is is' =
      let both : ◌≡◌ {A = Option ℕ} (Some is.row.id) (Some is'.row.id) = sym is.here ∙ is'.here in
      one_place rows x y is.row is'.row ascend is.is is'.is (let ids : is.row.id ≡ is'.row.id = cc in ids)

  pub chain_one : (up : ℕ) (at : Option ℕ) (xs ys : List ℕ) → IsChain rows up at xs → IsChain rows up at ys → xs ≡ ys
  chain_one up at [] [] is is' = refl
  chain_one up at [] (y ∷ ys) is is' = absurd (let no : ◌≡◌ {A = Option ℕ} None (Some is'.0.row.id) = sym is ∙ is'.0.here in cc)
  chain_one up at (x ∷ xs) [] is is' = absurd (let no : ◌≡◌ {A = Option ℕ} None (Some is.0.row.id) = sym is' ∙ is.0.here in cc)
  chain_one up at (x ∷ xs) (y ∷ ys) is is' =
      let here = same_child up up at x y is.0 is'.0 in
      let rest = chain_one up (next_at rows x) xs ys is.1 (subst (λ (p : ℕ). IsChain rows up (next_at rows p) ys) (sym here) is'.1) in
      λ i. here i ∷ rest i

  chain_drop : (up : ℕ) (at : Option ℕ) (ps : List ℕ) (j q : ℕ) → IsChain rows up at ps → slice_get ps j ≡ Some q → IsChain rows up (next_at rows q) (drop (suc j) ps)
  chain_drop up at [] j q is there = absurd (let no : ◌≡◌ {A = Option ℕ} None (Some q) = there in cc)
  chain_drop up at (p ∷ ps) zero q is there =
      let same : p ≡ q = let both : ◌≡◌ {A = Option ℕ} (Some p) (Some q) = there in cc in
      subst (λ (p : ℕ). IsChain rows up (next_at rows p) ps) same is.1
  chain_drop up at (p ∷ ps) (suc j) q is there = chain_drop up (next_at rows p) ps j q is.1 there

  pub chain_apart : (up : ℕ) (at : Option ℕ) (p : ℕ) (ps : List ℕ) (j : ℕ) → IsChain rows up at (p ∷ ps) → slice_get ps j ≡ Some p → ⊥
  chain_apart up at p ps j is there =
      let same : ps ≡ drop (suc j) ps = chain_one up (next_at rows p) ps (drop (suc j) ps) is.1 (chain_drop up (next_at rows p) ps j p is.1 there) in
      let within = slice_get_within ps j p there in
      let sizes : length ps ≡ length (drop (suc j) ps) = ap (λ (xs : List ℕ). length xs) same in
      omega (arith, sizes, length-drop (suc j) ps, within)

  -- each place is that of a child
  pub chain_child : (up : ℕ) (at : Option ℕ) (ps : List ℕ) (j q : ℕ) → IsChain rows up at ps → slice_get ps j ≡ Some q → (from : Option ℕ) × IsChild rows up from q
  chain_child up at [] j q is there = absurd (let no : ◌≡◌ {A = Option ℕ} None (Some q) = there in cc)
  chain_child up at (p ∷ ps) zero q is there =
      let same : p ≡ q = let both : ◌≡◌ {A = Option ℕ} (Some p) (Some q) = there in cc in
      (at, subst (IsChild rows up at) same is.0)
  chain_child up at (p ∷ ps) (suc j) q is there = chain_child up (next_at rows p) ps j q is.1 there

  chain_distinct : (up : ℕ) (at : Option ℕ) (ps : List ℕ) → IsChain rows up at ps → IsDistinct nat_eq ps
  unfolding IsDistinct
  chain_distinct up at [] is = tt
  chain_distinct up at (p ∷ ps) is = (
    all_from_each (λ y. nat_eq p y ≡ false) ps
        (λ j y there. apart_test p y (λ same. chain_apart up at p ps j is (there ∙ ap (λ (x : ℕ). Some x) (sym same)))),
    chain_distinct up (next_at rows p) ps is.1,
  )

  chain_within : (up : ℕ) (at : Option ℕ) (ps : List ℕ) (q : ℕ) → IsChain rows up at ps → list_any (nat_eq q) ps ≡ true → q < length rows
  chain_within up at ps q is any =
      let there = any_is_there q ps any in
      let child = chain_child up at ps there.0 q is there.1 in
      slice_get_within rows q child.1.row child.1.is

  pub chain_few : (up : ℕ) (at : Option ℕ) (ps : List ℕ) → IsChain rows up at ps → length ps ≤ length rows
  chain_few up at ps is = length-le_from_distinct_below ps (length rows) (chain_distinct up at ps is) (λ q. chain_within up at ps q is)

-- ---- one child

module _ (rows : List TreeRow) (ascend : Ascend rows) (up id : ℕ) where
  pub no_child : place_of rows id ≡ None → (p : ℕ) → IsChild rows up (Some id) p → ⊥
  no_child none p child =
      let same : id ≡ child.row.id = let both : ◌≡◌ {A = Option ℕ} (Some id) (Some child.row.id) = child.here in cc in
      let no : ◌≡◌ {A = Option ℕ} None (Some p) = sym none ∙ found_place rows id p child.row ascend child.is (sym same) in
      absurd (cc)

  pub is_child : (k : ℕ) (r : TreeRow) → place_of rows id ≡ Some k → slice_get rows k ≡ Some r → r.parent ≡ Some up → IsChild rows up (Some id) k
  is_child k r found at under = record { row = r; is = at; here = ap (λ (n : ℕ). Some n) (sym (at_id rows id k r (sym found) at)); under = under }

  pub other_child : (k : ℕ) (r : TreeRow) → place_of rows id ≡ Some k → slice_get rows k ≡ Some r → (r.parent ≡ Some up → ⊥) → (p : ℕ) → IsChild rows up (Some id) p → ⊥
  other_child k r found at not_under p child =
      let same : id ≡ child.row.id = let both : ◌≡◌ {A = Option ℕ} (Some id) (Some child.row.id) = child.here in cc in
      let both : ◌≡◌ {A = Option ℕ} (Some k) (Some p) = sym found ∙ found_place rows id p child.row ascend child.is (sym same) in
      let place : k ≡ p = cc in
      let rows_same : ◌≡◌ {A = Option TreeRow} (Some r) (Some child.row) = sym at ∙ ap (slice_get rows) place ∙ child.is in
      let row : r ≡ child.row = cc in
      not_under (ap (λ (r : TreeRow). r.parent) row ∙ child.under)

-- ---- a chain that is walked

-- these places, and then what goes on from there, are the chain from the first, and nothing else is
pub record Walked (rows : List TreeRow) (up : ℕ) (first : Option ℕ) (ps : List ℕ) (at : Option ℕ) : Type 0 where
  pub on : (ys : List ℕ) → IsChain rows up at ys → IsChain rows up first (ps ++ ys)
  pub only : (zs : List ℕ) → IsChain rows up first zs → (ys : List ℕ) × (zs ≡ ps ++ ys) × IsChain rows up at ys

pub walked_begin : (rows : List TreeRow) (up : ℕ) (first : Option ℕ) → Walked rows up first [] first
walked_begin rows up first = record { on = λ ys is. is; only = λ zs is. (zs, refl, is) }

module _ (rows : List TreeRow) (up : ℕ) (first at : Option ℕ) (ps : List ℕ) (walked : Walked rows up first ps at) where
  pub walked_more : Ascend rows → (p : ℕ) → IsChild rows up at p → Walked rows up first (ps ++ p ∷ []) (next_at rows p)
  walked_more ascend p child = record {
    on = λ ys is. subst (IsChain rows up first) (sym (append_assoc ps (p ∷ []) ys)) (walked.on (p ∷ ys) (child, is));
    only = λ zs is. let rest = walked.only zs is in by_rest zs rest.0 rest.1 rest.2;
  }
    where
      by_rest : (zs ys : List ℕ) → zs ≡ ps ++ ys → IsChain rows up at ys → (rest : List ℕ) × (zs ≡ (ps ++ p ∷ []) ++ rest) × IsChain rows up (next_at rows p) rest
      by_rest zs [] e none = absurd (let no : ◌≡◌ {A = Option ℕ} None (Some child.row.id) = sym none ∙ child.here in cc)
      by_rest zs (q ∷ ys) e is =
          let same : q ≡ p = same_child rows ascend up up at q p is.0 child in (
            ys,
            e ∙ ap (λ (x : ℕ). ps ++ x ∷ ys) same ∙ sym (append_assoc ps (p ∷ []) ys),
            subst (λ (x : ℕ). IsChain rows up (next_at rows x) ys) same is.1,
          )

  pub walked_end : at ≡ None → IsChain rows up first ps
  walked_end none = subst (IsChain rows up first) (append-nil ps) (walked.on [] none)

  pub walked_stuck : (id : ℕ) → at ≡ Some id → ((p : ℕ) → IsChild rows up (Some id) p → ⊥) → (zs : List ℕ) → IsChain rows up first zs → ⊥
  walked_stuck id here none zs is = let rest = walked.only zs is in by_rest rest.0 rest.2
    where
      by_rest : (ys : List ℕ) → IsChain rows up at ys → ⊥
      by_rest [] is = let no : ◌≡◌ {A = Option ℕ} None (Some id) = sym is ∙ here in absurd (cc)
      by_rest (q ∷ ys) is = none q (subst (λ (o : Option ℕ). IsChild rows up o q) here is.0)

  pub walked_over : Ascend rows → length rows ≤ length ps → (id : ℕ) → at ≡ Some id → (zs : List ℕ) → IsChain rows up first zs → ⊥
  walked_over ascend many id here zs is = let rest = walked.only zs is in by_rest rest.0 rest.1 rest.2
    where
      by_rest : (ys : List ℕ) → zs ≡ ps ++ ys → IsChain rows up at ys → ⊥
      by_rest [] e is' = let no : ◌≡◌ {A = Option ℕ} None (Some id) = sym is' ∙ here in absurd (cc)
      by_rest (q ∷ ys) e is' =
          let few = chain_few rows ascend up first zs is in
          let sizes : length zs ≡ length (ps ++ q ∷ ys) = ap (λ (xs : List ℕ). length xs) e in
          absurd (omega (arith, few, sizes, length-append ps (q ∷ ys), many))

-- ---- the lists of all rows

pub record AreListsTo (n : ℕ) (rows : List TreeRow) (lists : List (List ℕ)) : Type 0 where
  pub size : length lists ≡ n
  pub each : (place : ℕ) (r : TreeRow) → place < n → slice_get rows place ≡ Some r → IsChain rows r.id r.first_child (list_at lists place)

got_before : (lists : List (List ℕ)) (l : List ℕ) (k : ℕ) → k < length lists → slice_get (lists ++ l ∷ []) k ≡ slice_get lists k
got_before [] l k lt = absurd (omega arith)
got_before (x ∷ lists) l zero lt = refl
got_before (x ∷ lists) l (suc k) lt = got_before lists l k (omega arith)

got_last : (lists : List (List ℕ)) (l : List ℕ) → slice_get (lists ++ l ∷ []) (length lists) ≡ Some l
got_last [] l = refl
got_last (x ∷ lists) l = got_last lists l

pub lists_begin : (rows : List TreeRow) → AreListsTo 0 rows []
lists_begin rows = record { size = refl; each = λ place r lt is. absurd (omega arith) }

pub lists_more : (rows : List TreeRow) (n : ℕ) (lists : List (List ℕ)) (r : TreeRow) (l : List ℕ) → AreListsTo n rows lists → slice_get rows n ≡ Some r
    → IsChain rows r.id r.first_child l → AreListsTo (n + 1) rows (lists ++ l ∷ [])
lists_more rows n lists r l to here is = record {
  size = omega (arith, length-append lists (l ∷ []), to.size);
  each = λ place s lt at. by_place place s lt at (place == n) refl;
}
  where
    by_place : (place : ℕ) (s : TreeRow) → place < n + 1 → slice_get rows place ≡ Some s → (b : Bool) → (place == n) ≡ b
        → IsChain rows s.id s.first_child (list_at (lists ++ l ∷ []) place)
    by_place place s lt at true tie =
        let same : place ≡ n = eqb-true place n tie in
        let both : ◌≡◌ {A = Option TreeRow} (Some r) (Some s) = sym here ∙ ap (slice_get rows) (sym same) ∙ at in
        let row : r ≡ s = cc in
        let got : slice_get (lists ++ l ∷ []) place ≡ Some l = ap (slice_get (lists ++ l ∷ [])) (same ∙ sym to.size) ∙ got_last lists l in
        subst (IsChain rows s.id s.first_child) (sym (ap (λ (o : Option (List ℕ)). option_map_or (λ list. list) o []) got))
        (subst (λ (r : TreeRow). IsChain rows r.id r.first_child l) row is)
    by_place place s lt at false apart =
        let before : place < n = grind (arith, nat_tests) in
        let inside : place < length lists = omega (arith, before, to.size) in
        let got : slice_get (lists ++ l ∷ []) place ≡ slice_get lists place = got_before lists l place inside in
        subst (IsChain rows s.id s.first_child) (sym (ap (λ (o : Option (List ℕ)). option_map_or (λ list. list) o []) got)) (to.each place s before at)

pub lists_end : (rows : List TreeRow) (n : ℕ) (lists : List (List ℕ)) → n ≡ length rows → AreListsTo n rows lists → AreLists rows lists
lists_end rows n lists all to = record {
  size = to.size ∙ all;
  each = λ place r is. let within = slice_get_within rows place r is in to.each place r (omega (arith, within, all)) is;
}
