-- The tree of rows, from the chains of all of them, and back.
use Rattle.std.proofs.Common.{◌≡◌, ℕ, zero, suc, ◌<◌, ◌≤◌, ◌+◌, Bool, true, false, List, [], ◌∷◌, length, get_or, refl, sym, subst, ◌∙◌, ap, arith}
use Rattle.std.specs.Prelude.{Option, Some, None, ◌==◌, nat_eq, is_some, if◌then◌else◌, slice_get, map as map_list}
use Rattle.std.specs.Option.{option_and_then, option_map, option_map_or}
use Rattle.std.specs.List.{Contains, IsDistinct}
use Rattle.std.proofs.lemmas.Bool.Decides.{nat_tests}
use Rattle.std.proofs.lemmas.Option.{slice_get_within, slice_get-get_or, slice_get_past, slice_get-map, same_Some as some_is}
use Rattle.comp_tree.specs.Shape.{up_by}
use Rattle.comp_tree.specs.Shape.{IsRooted}
use Rattle.app_file.specs.Rows.{behind, sibling_behind}
use Rattle.app_file.proofs.Children.{next_item}
use Rattle.row_tree.specs.Chains.{AreLists, IsChain, IsChild, LacksChain, next_at}
use Rattle.row_tree.specs.Reached.{AllReached, LacksOne, Reached, StayWithin, root, below}
use Rattle.row_tree.specs.Root.{HasRoot}
use Rattle.row_tree.specs.TreeRows.{Ascend, id_at, is_row, parent_in, place_of}
use Rattle.row_tree.specs.Tree.{IsTreeOf, children_in, list_at}
use Rattle.row_tree.specs.declared.tree_rows.TreeRow.{TreeRow}
use Rattle.row_tree.proofs.Chaining.{all_from_each, apart_test, chain_apart, chain_child, chain_one}
use Rattle.row_tree.proofs.Meeting.{at_of, contains_at}
use Rattle.row_tree.proofs.TreePlaces.{at_place, found_place, one_place}
use Rattle.sed_value.proofs.Lists.{at_place as at_each}

-- ---- lists and options

none_listed : {A : Type 0} (x : A) → Contains {X = A} [] x → ⊥
none_listed x there = let lt = there.1 in omega arith

-- ---- rows by their ids

record Under (rows : List TreeRow) (id above : ℕ) : Type 0 where
  place : ℕ
  found : place_of rows id ≡ Some place
  row : TreeRow
  is : slice_get rows place ≡ Some row
  same : row.id ≡ id
  under : row.parent ≡ Some above

under_of : (rows : List TreeRow) (id above : ℕ) → parent_in rows id ≡ Some above → Under rows id above
under_of rows id above is = by_place (place_of rows id) refl is
  where
    by_place : (o : Option ℕ) → place_of rows id ≡ o → option_and_then (λ (r : TreeRow). r.parent) (option_and_then (slice_get rows) o) ≡ Some above → Under rows id above
    by_place None at is = absurd (let no : ◌≡◌ {A = Option ℕ} None (Some above) = is in cc)
    by_place (Some k) at is =
        let there = at_place rows id k at in
        record {
          place = k;
          found = at;
          row = there.row;
          is = there.is;
          same = there.same;
          under = sym (ap (λ (o : Option TreeRow). option_and_then (λ (r : TreeRow). r.parent) o) there.is) ∙ is;
        }

id_is : (rows : List TreeRow) (k : ℕ) (r : TreeRow) → slice_get rows k ≡ Some r → id_at rows k ≡ r.id
id_is rows k r is = ap (λ (o : Option TreeRow). option_map_or (λ (r : TreeRow). r.id) o 0) is

parent_is : (rows : List TreeRow) (id k : ℕ) (r : TreeRow) → place_of rows id ≡ Some k → slice_get rows k ≡ Some r → parent_in rows id ≡ r.parent
parent_is rows id k r found is =
    ap (λ (o : Option ℕ). option_and_then (λ (r : TreeRow). r.parent) (option_and_then (slice_get rows) o)) found
    ∙ ap (λ (o : Option TreeRow). option_and_then (λ (r : TreeRow). r.parent) o) is

-- ---- a tree has chains

abbrev place_at : List TreeRow → ℕ → ℕ
place_at rows id = option_map_or (λ k. k) (place_of rows id) 0

module _ (rows : List TreeRow) (ascend : Ascend rows) (others : ℕ → List ℕ) (tree : IsTreeOf rows others) where
  told_first : (k : ℕ) (r : TreeRow) → slice_get rows k ≡ Some r → slice_get (others r.id) 0 ≡ r.first_child
  told_first k r is = at_each (λ (r : TreeRow). slice_get (others r.id) 0 ≡ r.first_child) rows k r tree.first is

  told_next : (k : ℕ) (r : TreeRow) → slice_get rows k ≡ Some r → sibling_behind others r.id r.parent ≡ r.next_sibling
  told_next k r is = at_each (λ (r : TreeRow). sibling_behind others r.id r.parent ≡ r.next_sibling) rows k r tree.next is

  from_start : (up k : ℕ) → slice_get (others up) k ≡ slice_get (others up) (0 + k)
  from_start up k = ap (slice_get (others up)) (let e : k ≡ 0 + k = omega arith in e)

  child_under : (up id n : ℕ) → slice_get (others up) n ≡ Some id → Under rows id up
  child_under up id n at = under_of rows id up (tree.rooted.down id up (contains_at (others up) n id at))

  chain_of : (up n : ℕ) (ids : List ℕ) → ((k : ℕ) → slice_get ids k ≡ slice_get (others up) (n + k)) → IsChain rows up (slice_get (others up) n) (map_list (place_at rows) ids)
  chain_of up n [] each = let same : n + 0 ≡ n = omega arith in sym (each 0 ∙ ap (slice_get (others up)) same)
  chain_of up n (c ∷ cs) each =
      let start : n + 0 ≡ n = omega arith in
      let at : slice_get (others up) n ≡ Some c = sym (each 0 ∙ ap (slice_get (others up)) start) in
      let child = child_under up c n at in
      let place : place_at rows c ≡ child.place = ap (λ (o : Option ℕ). option_map_or (λ k. k) o 0) child.found in
      let behind_it : slice_get (others up) (suc n) ≡ behind c (others up) =
      next_item (others up) n (tree.rooted.once up) ∙ ap (λ (o : Option ℕ). option_and_then (λ x. behind x (others up)) o) at in
      let told : sibling_behind others child.row.id child.row.parent ≡ child.row.next_sibling = told_next child.place child.row child.is in
      let is : behind c (others up) ≡ sibling_behind others child.row.id child.row.parent =
      ap (λ (x : ℕ). behind x (others up)) (sym child.same) ∙ ap (sibling_behind others child.row.id) (sym child.under) in
      let next : next_at rows (place_at rows c) ≡ slice_get (others up) (suc n) =
      ap (next_at rows) place ∙ ap (λ (o : Option TreeRow). option_and_then (λ (r : TreeRow). r.next_sibling) o) child.is ∙ sym told ∙ sym is ∙ sym behind_it in
      let rest = chain_of up (suc n) cs (λ k. each (suc k) ∙ ap (slice_get (others up)) (let e : n + suc k ≡ suc n + k = omega arith in e)) in (
        subst (IsChild rows up (slice_get (others up) n)) (sym place)
            (record { row = child.row; is = child.is; here = at ∙ ap (λ (x : ℕ). Some x) (sym child.same); under = child.under }),
        subst (λ (o : Option ℕ). IsChain rows up o (map_list (place_at rows) cs)) (sym next) rest,
      )

  row_chain : (k : ℕ) (r : TreeRow) → slice_get rows k ≡ Some r → IsChain rows r.id r.first_child (map_list (place_at rows) (others r.id))
  row_chain k r is =
      subst (λ (o : Option ℕ). IsChain rows r.id o (map_list (place_at rows) (others r.id))) (told_first k r is) (chain_of r.id 0 (others r.id) (from_start r.id))

  pub has_chains : LacksChain rows → ⊥
  has_chains lacks = lacks.none (map_list (place_at rows) (others lacks.row.id)) (row_chain lacks.place lacks.row lacks.is)

  ids_again : (up n : ℕ) (ids : List ℕ) → ((k : ℕ) → slice_get ids k ≡ slice_get (others up) (n + k)) → map_list (id_at rows) (map_list (place_at rows) ids) ≡ ids
  ids_again up n [] each = refl
  ids_again up n (c ∷ cs) each =
      let start : n + 0 ≡ n = omega arith in
      let child = child_under up c n (sym (each 0 ∙ ap (slice_get (others up)) start)) in
      let here : id_at rows (place_at rows c) ≡ c = ap (λ (o : Option ℕ). id_at rows (option_map_or (λ k. k) o 0)) child.found ∙ id_is rows child.place child.row child.is ∙ child.same in
      let rest = ids_again up (suc n) cs (λ k. each (suc k) ∙ ap (slice_get (others up)) (let e : n + suc k ≡ suc n + k = omega arith in e)) in
      λ i. here i ∷ rest i

  -- it has a root
  pub has_root : HasRoot rows
  has_root = by_place (place_of rows 0) refl tree.rooted.app
    where
      at_first : (k : ℕ) (r : TreeRow) → slice_get rows k ≡ Some r → r.id ≡ 0 → k ≡ 0
      at_first zero r is same = refl
      at_first (suc k) r is same =
          let lt = slice_get_within rows (suc k) r is in
          let some : 0 < length rows = omega (arith, lt) in
          let less = ascend 0 (suc k) (get_or rows 0 r) r (omega arith) (slice_get-get_or rows 0 r some) is in
          absurd (omega (arith, less, same))

      by_place : (o : Option ℕ) → place_of rows 0 ≡ o → is_some o ≡ true → HasRoot rows
      by_place None at some = absurd (let no : false ≡ true = some in cc)
      by_place (Some k) at some =
          let there = at_place rows 0 k at in
          let first = at_first k there.row there.is there.same in
          let parent : there.row.parent ≡ None = sym (parent_is rows 0 k there.row at there.is) ∙ tree.rooted.root in
          let told : sibling_behind others there.row.id there.row.parent ≡ there.row.next_sibling = told_next k there.row there.is in
          record {
            row = there.row;
            is = ap (slice_get rows) (sym first) ∙ there.is;
            app = there.same;
            root = parent;
            alone = sym told ∙ ap (sibling_behind others there.row.id) parent;
          }

  module _ (lists : List (List ℕ)) (are : AreLists rows lists) where
    list_is : (k : ℕ) (r : TreeRow) → slice_get rows k ≡ Some r → list_at lists k ≡ map_list (place_at rows) (others r.id)
    list_is k r is = chain_one rows ascend r.id r.first_child (list_at lists k) (map_list (place_at rows) (others r.id)) (are.each k r is) (row_chain k r is)

    -- and no other children
    pub only_children : (id : ℕ) → others id ≡ children_in rows lists id
    only_children id = by_place (place_of rows id) refl
      where
        by_place : (o : Option ℕ) → place_of rows id ≡ o → others id ≡ map_list (id_at rows) (option_map_or (list_at lists) o [])
        by_place None at = tree.none id (ap is_some at)
        by_place (Some k) at =
            let there = at_place rows id k at in
            ap others (sym there.same) ∙ sym (ids_again there.row.id 0 (others there.row.id) (from_start there.row.id))
            ∙ ap (map_list (id_at rows)) (sym (list_is k there.row there.is))

    up_is_row : (up id n : ℕ) → slice_get (others up) n ≡ Some id → (k : ℕ) × (place_of rows up ≡ Some k)
    up_is_row up id n at = by_place (place_of rows up) refl
      where
        by_place : (o : Option ℕ) → place_of rows up ≡ o → (k : ℕ) × (o ≡ Some k)
        by_place None found = absurd (let no : ◌≡◌ {A = Option ℕ} None (Some id) = ap (λ (xs : List ℕ). slice_get xs n) (sym (tree.none up (ap is_some found))) ∙ at in cc)
        by_place (Some k) found = (k, refl)

    reach_by : (n id k : ℕ) → place_of rows id ≡ Some k → up_by (parent_in rows) n id ≡ Some 0 → Reached lists k
    reach_by zero id k found up =
        let zero_id : id ≡ 0 = some_is id 0 up in
        let first = found_place rows id 0 has_root.row ascend has_root.is (has_root.app ∙ sym zero_id) in
        let place : 0 ≡ k = some_is 0 k (sym first ∙ found) in
        let lt = slice_get_within rows 0 has_root.row has_root.is in
        subst (Reached lists) place (root lists (let size = are.size in omega (arith, size, lt)))
    reach_by (suc n) id k found up = by_parent (parent_in rows id) refl up (reach_by n)
      where
        by_parent : (o : Option ℕ) → parent_in rows id ≡ o → option_and_then (up_by (parent_in rows) n) o ≡ Some 0
            → ((id k : ℕ) → place_of rows id ≡ Some k → up_by (parent_in rows) n id ≡ Some 0 → Reached lists k) → Reached lists k
        by_parent None is up later = absurd (let no : ◌≡◌ {A = Option ℕ} None (Some 0) = up in cc)
        by_parent (Some above) is up later =
            let listed = at_of (others above) id (tree.rooted.up id above is) in
            let row = up_is_row above id listed.0 listed.1 in
            let there = at_place rows above row.0 row.1 in
            let list : list_at lists row.0 ≡ map_list (place_at rows) (others above) = list_is row.0 there.row there.is ∙ ap (λ (x : ℕ). map_list (place_at rows) (others x)) there.same in
            let item : slice_get (list_at lists row.0) listed.0 ≡ Some k =
            ap (λ (xs : List ℕ). slice_get xs listed.0) list ∙ slice_get-map (place_at rows) (others above) listed.0
            ∙ ap (λ (o : Option ℕ). option_map (place_at rows) o) listed.1 ∙ ap (λ (o : Option ℕ). Some (option_map_or (λ k. k) o 0)) found in
            below lists row.0 k (later above row.0 row.1 up) (contains_at (list_at lists row.0) listed.0 k item)

    pub has_all : LacksOne lists → ⊥
    has_all lacks =
        let within : lacks.place < length rows = let size = are.size in let lt = lacks.within in omega (arith, size, lt) in
        by_row (slice_get rows lacks.place) refl within
      where
        by_row : (o : Option TreeRow) → slice_get rows lacks.place ≡ o → lacks.place < length rows → ⊥
        by_row None at lt = outside rows lacks.place at lt
          where
            outside : (xs : List TreeRow) (k : ℕ) → slice_get xs k ≡ None → k < length xs → ⊥
            outside [] k at lt = omega arith
            outside (x ∷ xs) zero at lt = absurd (let no : ◌≡◌ {A = Option TreeRow} (Some x) None = at in cc)
            outside (x ∷ xs) (suc k) at lt = outside xs k at (omega arith)
        by_row (Some r) at lt =
            let found = found_place rows r.id lacks.place r ascend at refl in
            let up = tree.rooted.reached r.id (ap is_some found) in
            lacks.apart (reach_by up.0 r.id lacks.place found up.1)

-- ---- chains are a tree

chain_first : (rows : List TreeRow) (up : ℕ) (at : Option ℕ) (ps : List ℕ) → IsChain rows up at ps → slice_get (map_list (id_at rows) ps) 0 ≡ at
chain_first rows up at [] is = sym is
chain_first rows up at (p ∷ ps) is = ap (λ (x : ℕ). Some x) (id_is rows p is.0.row is.0.is) ∙ sym is.0.here

module _ (rows : List TreeRow) (ascend : Ascend rows) where
  same_place : (up up' : ℕ) (from from' : Option ℕ) (p q : ℕ) → IsChild rows up from p → IsChild rows up' from' q → id_at rows p ≡ id_at rows q → p ≡ q
  same_place up up' from from' p q one other same =
      one_place rows p q one.row other.row ascend one.is other.is (sym (id_is rows p one.row one.is) ∙ same ∙ id_is rows q other.row other.is)

  chain_behind : (up : ℕ) (at : Option ℕ) (ps : List ℕ) (j q : ℕ) → IsChain rows up at ps → slice_get ps j ≡ Some q → behind (id_at rows q) (map_list (id_at rows) ps) ≡ next_at rows q
  chain_behind up at [] j q is there = absurd (let no : ◌≡◌ {A = Option ℕ} None (Some q) = there in cc)
  chain_behind up at (p ∷ ps) zero q is there =
      let same : p ≡ q = some_is p q there in
      let tie : (id_at rows p == id_at rows q) ≡ true = let e : id_at rows p ≡ id_at rows q = ap (id_at rows) same in grind (arith, nat_tests) in
      ap (λ (b : Bool). if b then slice_get (map_list (id_at rows) ps) 0 else behind (id_at rows q) (map_list (id_at rows) ps)) tie
      ∙ chain_first rows up (next_at rows p) ps is.1 ∙ ap (next_at rows) same
  chain_behind up at (p ∷ ps) (suc j) q is there =
      let child = chain_child rows ascend up (next_at rows p) ps j q is.1 there in
      let differ : id_at rows p ≡ id_at rows q → ⊥ =
      λ same. chain_apart rows ascend up at p ps j is (there ∙ ap (λ (x : ℕ). Some x) (sym (same_place up up at child.0 p q is.0 child.1 same))) in
      ap (λ (b : Bool). if b then slice_get (map_list (id_at rows) ps) 0 else behind (id_at rows q) (map_list (id_at rows) ps)) (apart_test (id_at rows p) (id_at rows q) differ)
      ∙ chain_behind up (next_at rows p) ps j q is.1 there

  record Item (ps : List ℕ) (j y : ℕ) : Type 0 where
    place : ℕ
    at : slice_get ps j ≡ Some place
    same : id_at rows place ≡ y

  item_of : (ps : List ℕ) (j y : ℕ) → slice_get (map_list (id_at rows) ps) j ≡ Some y → Item ps j y
  item_of ps j y at = by_item (slice_get ps j) refl (sym (slice_get-map (id_at rows) ps j) ∙ at)
    where
      by_item : (o : Option ℕ) → slice_get ps j ≡ o → option_map (id_at rows) o ≡ Some y → Item ps j y
      by_item None is at = absurd (let no : ◌≡◌ {A = Option ℕ} None (Some y) = at in cc)
      by_item (Some q) is at = record { place = q; at = is; same = some_is (id_at rows q) y at }

  distinct_ids : (up : ℕ) (at : Option ℕ) (ps : List ℕ) → IsChain rows up at ps → IsDistinct nat_eq (map_list (id_at rows) ps)
  unfolding IsDistinct
  distinct_ids up at [] is = tt
  distinct_ids up at (p ∷ ps) is = (
    all_from_each (λ y. nat_eq (id_at rows p) y ≡ false) (map_list (id_at rows) ps)
        (λ j y there. let item = item_of ps j y there in
        let child = chain_child rows ascend up (next_at rows p) ps j item.place is.1 item.at in
        apart_test (id_at rows p) y
        (λ same. chain_apart rows ascend up at p ps j is (item.at ∙ ap (λ (x : ℕ). Some x) (sym (same_place up up at child.0 p item.place is.0 child.1 (same ∙ sym item.same)))))),
    distinct_ids up (next_at rows p) ps is.1,
  )

  module _ (lists : List (List ℕ)) (are : AreLists rows lists) where
    -- a place that is in the list of another
    record Listed (up place : ℕ) : Type 0 where
      above : TreeRow
      is_above : slice_get rows up ≡ Some above
      from : Option ℕ
      child : IsChild rows above.id from place
      index : ℕ
      at : slice_get (list_at lists up) index ≡ Some place

    listed : (up place : ℕ) → Contains (list_at lists up) place → Listed up place
    listed up place there = by_row (slice_get rows up) refl (at_of (list_at lists up) place there)
      where
        past : (o : Option TreeRow) → slice_get rows up ≡ o → o ≡ None → (xs : List (List ℕ)) → length xs ≡ length rows → slice_get xs up ≡ None
        past o is none xs size = slice_get_past xs up (beyond rows up (is ∙ none) xs size)
          where
            beyond : (rows : List TreeRow) (k : ℕ) → slice_get rows k ≡ None → (xs : List (List ℕ)) → length xs ≡ length rows → length xs ≤ k
            beyond [] k none xs size = omega (arith, size)
            beyond (r ∷ rows) zero none xs size = absurd (let no : ◌≡◌ {A = Option TreeRow} (Some r) None = none in cc)
            beyond (r ∷ rows) (suc k) none [] size = omega arith
            beyond (r ∷ rows) (suc k) none (x ∷ xs) size = let rest = beyond rows k none xs (let e : length xs ≡ length rows = omega (arith, size) in e) in omega (arith, rest)

        by_row : (o : Option TreeRow) → slice_get rows up ≡ o → (n : ℕ) × (slice_get (list_at lists up) n ≡ Some place) → Listed up place
        by_row None is item =
            let none : list_at lists up ≡ [] = ap (λ (o : Option (List ℕ)). option_map_or (λ list. list) o []) (past None is refl lists are.size) in
            absurd (let no : ◌≡◌ {A = Option ℕ} None (Some place) = ap (λ (xs : List ℕ). slice_get xs item.0) (sym none) ∙ item.1 in cc)
        by_row (Some r) is item =
            let child = chain_child rows ascend r.id r.first_child (list_at lists up) item.0 place (are.each up r is) item.1 in
            record { above = r; is_above = is; from = child.0; child = child.1; index = item.0; at = item.1 }

    pub stay : StayWithin lists
    stay up place there =
        let l = listed up place there in
        let lt = slice_get_within rows place l.child.row l.child.is in
        let size = are.size in
        omega (arith, lt, size)

    module _ (has : HasRoot rows) (all : AllReached lists) where
      children_at : (id k : ℕ) → place_of rows id ≡ Some k → children_in rows lists id ≡ map_list (id_at rows) (list_at lists k)
      children_at id k found = ap (λ (o : Option ℕ). map_list (id_at rows) (option_map_or (list_at lists) o [])) found

      reached_at : (k : ℕ) (r : TreeRow) → slice_get rows k ≡ Some r → Reached lists k
      reached_at k r is = all k (let lt = slice_get_within rows k r is in let size = are.size in omega (arith, lt, size))

      -- a row with a parent is in the parent's list
      record InList (k above : ℕ) : Type 0 where
        place : ℕ
        found : place_of rows above ≡ Some place
        inside : Listed place k

      in_list : (k above : ℕ) (r : TreeRow) → slice_get rows k ≡ Some r → r.parent ≡ Some above → Reached lists k → InList k above
      in_list k above r is under (root _ some) =
          let row : r ≡ has.row = some_is r has.row (sym is ∙ has.is) in
          absurd (let no : ◌≡◌ {A = Option ℕ} None (Some above) = sym has.root ∙ ap (λ (r : TreeRow). r.parent) (sym row) ∙ under in cc)
      in_list k above r is under (below _ up _ reached there) =
          let l = listed up k there in
          let row : r ≡ l.child.row = some_is r l.child.row (sym is ∙ l.child.is) in
          let same : above ≡ l.above.id = some_is above l.above.id (sym under ∙ ap (λ (r : TreeRow). r.parent) row ∙ l.child.under) in
          record { place = up; found = found_place rows above up l.above ascend l.is_above (sym same); inside = l }

      goes_up : (k : ℕ) → Reached lists k → (n : ℕ) × (up_by (parent_in rows) n (id_at rows k) ≡ Some 0)
      goes_up _ (root _ some) = (0, ap (λ (x : ℕ). Some x) (id_is rows 0 has.row has.is ∙ has.app))
      goes_up k (below _ up _ reached there) =
          let l = listed up k there in
          let rest = goes_up up reached in
          let found = found_place rows (id_at rows k) k l.child.row ascend l.child.is (sym (id_is rows k l.child.row l.child.is)) in
          let parent : parent_in rows (id_at rows k) ≡ Some (id_at rows up) =
          parent_is rows (id_at rows k) k l.child.row found l.child.is ∙ l.child.under ∙ ap (λ (x : ℕ). Some x) (sym (id_is rows up l.above l.is_above)) in
          (suc rest.0, ap (λ (o : Option ℕ). option_and_then (up_by (parent_in rows) rest.0) o) parent ∙ rest.1)

      rooted : IsRooted (is_row rows) (parent_in rows) (children_in rows lists)
      unfolding IsDistinct
      rooted = record {
        app = ap is_some first;
        root = parent_is rows 0 0 has.row first has.is ∙ has.root;
        up = goes_in;
        down = λ id above there. goes_down id above there (place_of rows above) refl;
        once = λ above. is_once above (place_of rows above) refl;
        known = λ id above is. ap is_some (under_of rows id above is).found;
        reached = λ id row. reaches id (place_of rows id) refl row;
      }
        where
          first : place_of rows 0 ≡ Some 0
          first = found_place rows 0 0 has.row ascend has.is has.app

          goes_in : (id above : ℕ) → parent_in rows id ≡ Some above → Contains (children_in rows lists above) id
          goes_in id above is =
              let u = under_of rows id above is in
              let l = in_list u.place above u.row u.is u.under (reached_at u.place u.row u.is) in
              contains_at (children_in rows lists above) l.inside.index id
              (ap (λ (xs : List ℕ). slice_get xs l.inside.index) (children_at above l.place l.found)
              ∙ slice_get-map (id_at rows) (list_at lists l.place) l.inside.index ∙ ap (λ (o : Option ℕ). option_map (id_at rows) o) l.inside.at
              ∙ ap (λ (x : ℕ). Some x) (id_is rows u.place u.row u.is ∙ u.same))

          goes_down : (id above : ℕ) → Contains (children_in rows lists above) id → (o : Option ℕ) → place_of rows above ≡ o → parent_in rows id ≡ Some above
          goes_down id above there None found =
              absurd (none_listed id (subst (λ (xs : List ℕ). Contains xs id) (ap (λ (o : Option ℕ). map_list (id_at rows) (option_map_or (list_at lists) o [])) found) there))
          goes_down id above there (Some p) found =
              let at = at_of (map_list (id_at rows) (list_at lists p)) id (subst (λ (xs : List ℕ). Contains xs id) (children_at above p found) there) in
              let item = item_of (list_at lists p) at.0 id at.1 in
              let l = listed p item.place (contains_at (list_at lists p) at.0 item.place item.at) in
              let up = at_place rows above p found in
              let row : up.row ≡ l.above = some_is up.row l.above (sym up.is ∙ l.is_above) in
              let same : l.child.row.id ≡ id = sym (id_is rows item.place l.child.row l.child.is) ∙ item.same in
              parent_is rows id item.place l.child.row (found_place rows id item.place l.child.row ascend l.child.is same) l.child.is
              ∙ l.child.under ∙ ap (λ (r : TreeRow). Some r.id) (sym row) ∙ ap (λ (x : ℕ). Some x) up.same

          is_once : (above : ℕ) (o : Option ℕ) → place_of rows above ≡ o → IsDistinct nat_eq (children_in rows lists above)
          is_once above None found = subst (IsDistinct nat_eq) (sym (ap (λ (o : Option ℕ). map_list (id_at rows) (option_map_or (list_at lists) o [])) found)) tt
          is_once above (Some p) found =
              let up = at_place rows above p found in
              subst (IsDistinct nat_eq) (sym (children_at above p found)) (distinct_ids up.row.id up.row.first_child (list_at lists p) (are.each p up.row up.is))

          reaches : (id : ℕ) (o : Option ℕ) → place_of rows id ≡ o → is_row rows id ≡ true → (n : ℕ) × (up_by (parent_in rows) n id ≡ Some 0)
          reaches id None found row = absurd (let no : false ≡ true = ap is_some (sym found) ∙ row in cc)
          reaches id (Some k) found row =
              let there = at_place rows id k found in
              let up = goes_up k (reached_at k there.row there.is) in
              (up.0, ap (up_by (parent_in rows) up.0) (sym (id_is rows k there.row there.is ∙ there.same)) ∙ up.1)

      pub is_tree : IsTreeOf rows (children_in rows lists)
      is_tree = record {
        rooted = rooted;
        first = λ k d lt. first_of k (get_or rows k d) (slice_get-get_or rows k d lt);
        next = λ k d lt. next_of k (get_or rows k d) (slice_get-get_or rows k d lt) (get_or rows k d).parent refl;
        none = λ id row. no_children id (place_of rows id) refl row;
      }
        where
          first_of : (k : ℕ) (r : TreeRow) → slice_get rows k ≡ Some r → slice_get (children_in rows lists r.id) 0 ≡ r.first_child
          first_of k r is =
              ap (λ (xs : List ℕ). slice_get xs 0) (children_at r.id k (found_place rows r.id k r ascend is refl))
              ∙ chain_first rows r.id r.first_child (list_at lists k) (are.each k r is)

          alone : (k : ℕ) (r : TreeRow) → slice_get rows k ≡ Some r → r.parent ≡ None → Reached lists k → None ≡ r.next_sibling
          alone _ r is none (root _ some) = sym has.alone ∙ ap (λ (r : TreeRow). r.next_sibling) (some_is has.row r (sym has.is ∙ is))
          alone k r is none (below _ up _ reached there) =
              let l = listed up k there in
              let row : r ≡ l.child.row = some_is r l.child.row (sym is ∙ l.child.is) in
              absurd (let no : ◌≡◌ {A = Option ℕ} None (Some l.above.id) = sym none ∙ ap (λ (r : TreeRow). r.parent) row ∙ l.child.under in cc)

          next_of : (k : ℕ) (r : TreeRow) → slice_get rows k ≡ Some r → (o : Option ℕ) → r.parent ≡ o → sibling_behind (children_in rows lists) r.id r.parent ≡ r.next_sibling
          next_of k r is None none = ap (sibling_behind (children_in rows lists) r.id) none ∙ alone k r is none (reached_at k r is)
          next_of k r is (Some above) under =
              let l = in_list k above r is under (reached_at k r is) in
              ap (sibling_behind (children_in rows lists) r.id) under
              ∙ ap (λ (xs : List ℕ). behind r.id xs) (children_at above l.place l.found)
              ∙ ap (λ (x : ℕ). behind x (map_list (id_at rows) (list_at lists l.place))) (sym (id_is rows k r is))
              ∙ chain_behind l.inside.above.id l.inside.above.first_child (list_at lists l.place) l.inside.index k (are.each l.place l.inside.above l.inside.is_above) l.inside.at
              ∙ ap (λ (o : Option TreeRow). option_and_then (λ (r : TreeRow). r.next_sibling) o) is

          no_children : (id : ℕ) (o : Option ℕ) → place_of rows id ≡ o → is_row rows id ≡ false → children_in rows lists id ≡ []
          no_children id None found row = ap (λ (o : Option ℕ). map_list (id_at rows) (option_map_or (list_at lists) o [])) found
          no_children id (Some k) found row = absurd (let no : true ≡ false = ap is_some (sym found) ∙ row in cc)
