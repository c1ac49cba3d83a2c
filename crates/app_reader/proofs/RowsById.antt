-- The components that rows tell, by their ids.
use Rattle.std.proofs.Common.{◌≡◌, ℕ, zero, suc, ◌<◌, Bool, true, false, cond, List, [], ◌∷◌, refl, sym, subst, ◌∙◌, ap, arith, eqb-true}
use Rattle.std.specs.Prelude.{Option, Some, None, T, IfSome, is_some, ◌==◌, if◌then◌else◌, slice_get, map as map_list, All}
use Rattle.std.specs.Option.{option_and_then, option_map, option_map_or}
use Rattle.std.specs.List.{AllByRecursion}
use Rattle.std.specs.FinMap as map
use Rattle.std.specs.FinMap.{find, is_sorted}
use Rattle.std.specs.FinMap.Entries.{below_all}
use Rattle.std.specs.Ordering.{nat_cmp, eq_by_cmp, is_lt}
use Rattle.std.proofs.lemmas.Bool.Decides.{nat_tests}
use Rattle.std.proofs.lemmas.List.Elements.{All-from_recursion}
use Rattle.std.proofs.lemmas.Option.{slice_get-map}
use Rattle.sed_engine.specs.Code.{Meaning, property_type, slot_form}
use Rattle.comp_tree.specs.Application.{ById, Component, children_of, is_live, name_of, parent_of, type_at}
use Rattle.row_tree.specs.TreeRows.{Ascend, is_row, parent_in, place_of}
use Rattle.row_tree.specs.declared.tree_rows.TreeRow.{TreeRow}
use Rattle.app_file.specs.Telling.{told_by, told_component, told_entries}
use Rattle.app_front.specs.Rows.{number_of_id, told_row}
use Rattle.app_front.specs.declared.rows.FileRow.{FileRow}
use Rattle.row_tree.proofs.TreePlaces.{at_place, found_place}
use Rattle.app_reader.specs.FormedFile.{name_in, row_with, tree_row, tree_rows, type_in}
pub use Rattle.sed_value.proofs.Lists.{at_place as at_each}
pub use Rattle.std.proofs.lemmas.Option.{same_Some as some_is}
use Rattle.sed_value.proofs.Orders.{below_is as less_is}
use Rattle.std.proofs.lemmas.Bool.{and_from as both}
use Rattle.sed_value.proofs.Truths.{and_left as first_true, and_right as rest_true}

-- ---- lists

by_recursion : {A : Type 0} (P : A → Type 0) (xs : List A) → ((k : ℕ) (x : A) → slice_get xs k ≡ Some x → P x) → AllByRecursion P xs
by_recursion P [] each = tt
by_recursion P (x ∷ xs) each = (each 0 x refl, by_recursion P xs (λ k. each (suc k)))

pub all_of : {A : Type 0} (P : A → Type 0) (xs : List A) → ((k : ℕ) (x : A) → slice_get xs k ≡ Some x → P x) → All P xs
all_of P xs each = All-from_recursion P xs (by_recursion P xs each)

-- the same of a list that was mapped
record Mapped {A B : Type 0} (g : A → B) (xs : List A) (k : ℕ) (y : B) : Type 0 where
  item : A
  at : slice_get xs k ≡ Some item
  same : g item ≡ y

mapped : {A B : Type 0} (g : A → B) (xs : List A) (k : ℕ) (y : B) → slice_get (map_list g xs) k ≡ Some y → Mapped g xs k y
mapped {A} {B} g xs k y is = by_item (slice_get xs k) refl (sym (slice_get-map g xs k) ∙ is)
  where
    by_item : (o : Option A) → slice_get xs k ≡ o → option_map g o ≡ Some y → Mapped g xs k y
    by_item None at e = absurd (let no : ◌≡◌ {A = Option B} None (Some y) = e in cc)
    by_item (Some x) at e = record { item = x; at = at; same = some_is (g x) y e }

pub all_map : {A B : Type 0} (g : A → B) (P : B → Type 0) (xs : List A) → ((k : ℕ) (x : A) → slice_get xs k ≡ Some x → P (g x)) → All P (map_list g xs)
all_map g P xs each = all_of P (map_list g xs) (λ k y is. let item = mapped g xs k y is in subst P item.same (each k item.item item.at))

pub at_map : {A B : Type 0} (g : A → B) (P : B → Type 0) (xs : List A) (k : ℕ) (x : A) → All P (map_list g xs) → slice_get xs k ≡ Some x → P (g x)
at_map g P xs k x all is = at_each P (map_list g xs) k (g x) all (slice_get-map g xs k ∙ ap (option_map g) is)

-- ---- ids that ascend

less_of : (a b : ℕ) → a < b → is_lt (nat_cmp a b) ≡ true
less_of a b lt = grind (arith, nat_tests)

is_t : (b : Bool) → b ≡ true → T b
is_t true is = tt
is_t false is = absurd (let no : false ≡ true = is in cc)

pub if_some : {A : Type 0} (P : A → Type 0) (o : Option A) → ((x : A) → o ≡ Some x → P x) → IfSome o P
if_some P None each = tt
if_some P (Some x) each = each x refl

pub of_some : {A : Type 0} (P : A → Type 0) (o : Option A) (x : A) → IfSome o P → o ≡ Some x → P x
of_some P o x all is = subst (λ o. IfSome o P) is all

-- ---- a row by its id

pub record IsRowAt (rows : List FileRow) (id : ℕ) (r : FileRow) : Type 0 where
  pub place : ℕ
  pub found : place_of (tree_rows rows) id ≡ Some place
  pub at : slice_get rows place ≡ Some r
  pub same : r.id.0 ≡ id

pub row_at : (rows : List FileRow) (id : ℕ) (r : FileRow) → row_with rows id ≡ Some r → IsRowAt rows id r
row_at rows id r is = by_place (place_of (tree_rows rows) id) refl is
  where
    same_id : (rows : List FileRow) (k : ℕ) (r : FileRow) → place_of (tree_rows rows) id ≡ Some k → slice_get rows k ≡ Some r → r.id.0 ≡ id
    same_id rows k r found at =
        let there = at_place (tree_rows rows) id k found in
        let both : ◌≡◌ {A = Option TreeRow} (Some there.row) (Some (tree_row r)) = sym there.is ∙ slice_get-map tree_row rows k ∙ ap (option_map tree_row) at in
        let row : there.row ≡ tree_row r = some_is there.row (tree_row r) both in
        sym (ap (λ (r : TreeRow). r.id) row) ∙ there.same

    by_place : (o : Option ℕ) → place_of (tree_rows rows) id ≡ o → option_and_then (slice_get rows) o ≡ Some r → IsRowAt rows id r
    by_place None found e = absurd (let no : ◌≡◌ {A = Option FileRow} None (Some r) = e in cc)
    by_place (Some k) found e = record { place = k; found = found; at = e; same = same_id rows k r found e }

-- the row with id 0 is the first
pub at_first : (rows : List FileRow) → Ascend (tree_rows rows) → (place : ℕ) (r : FileRow) → slice_get rows place ≡ Some r → r.id.0 ≡ 0 → place ≡ 0
at_first rows ascend zero r at zero_id = refl
at_first rows ascend (suc place) r at zero_id = by_row (slice_get rows 0) refl
  where
    some_first : (rows : List FileRow) (k : ℕ) (r : FileRow) → slice_get rows (suc k) ≡ Some r → slice_get rows 0 ≡ None → ⊥
    some_first [] k r at none = absurd (let no : ◌≡◌ {A = Option FileRow} None (Some r) = at in cc)
    some_first (x ∷ rows) k r at none = absurd (let no : ◌≡◌ {A = Option FileRow} (Some x) None = none in cc)

    by_row : (o : Option FileRow) → slice_get rows 0 ≡ o → suc place ≡ 0
    by_row None none = absurd (some_first rows place r at none)
    by_row (Some s) at' =
        let less : s.id.0 < r.id.0 = ascend 0 (suc place) (tree_row s) (tree_row r) (omega arith) (slice_get-map tree_row rows 0 ∙ ap (option_map tree_row) at')
        (slice_get-map tree_row rows (suc place) ∙ ap (option_map tree_row) at) in
        absurd (omega (arith, less, zero_id))

-- a row behind the first has a greater id
pub behind_first : (rows : List FileRow) → Ascend (tree_rows rows) → (place : ℕ) (r : FileRow) → 0 < place → slice_get rows place ≡ Some r → 0 < r.id.0
behind_first rows ascend place r lt at = by_id r.id.0 refl
  where
    by_id : (n : ℕ) → r.id.0 ≡ n → 0 < n
    by_id zero zero_id = let first = at_first rows ascend place r at zero_id in absurd (omega (arith, first, lt))
    by_id (suc n) is = omega arith

-- the row at a place is the one with its id
pub row_of_place : (rows : List FileRow) → Ascend (tree_rows rows) → (place : ℕ) (r : FileRow) → slice_get rows place ≡ Some r → row_with rows r.id.0 ≡ Some r
row_of_place rows ascend place r at =
    ap (option_and_then (slice_get rows)) (found_place (tree_rows rows) r.id.0 place (tree_row r) ascend (slice_get-map tree_row rows place ∙ ap (option_map tree_row) at) refl) ∙ at

module _ (m : Meaning) (children : ℕ → List ℕ) where
  pub keys_are : (rows : List FileRow) → map_list (λ (e : ℕ × Component). e.0) (told_entries m children (map_list told_row rows)) ≡ map_list (λ (r : FileRow). r.id.0) rows
  keys_are [] = refl
  keys_are (r ∷ rows) = ap (λ (ids : List ℕ). r.id.0 ∷ ids) (keys_are rows)

  abbrev entries : List FileRow → List (ℕ × Component)
  entries rows = told_entries m children (map_list told_row rows)

  below_of : (x : ℕ) (rows : List FileRow) → ((k : ℕ) (r : FileRow) → slice_get rows k ≡ Some r → x < r.id.0) → below_all nat_cmp x (entries rows) ≡ true
  below_of x [] each = refl
  below_of x (r ∷ rows) each =
      both (is_lt (nat_cmp x r.id.0)) (below_all nat_cmp x (entries rows)) (less_of x r.id.0 (each 0 r refl)) (below_of x rows (λ k. each (suc k)))

  below_at : (x : ℕ) (rows : List FileRow) (k : ℕ) (r : FileRow) → below_all nat_cmp x (entries rows) ≡ true → slice_get rows k ≡ Some r → x < r.id.0
  below_at x [] k r below at = absurd (let no : ◌≡◌ {A = Option FileRow} None (Some r) = at in cc)
  below_at x (s ∷ rows) zero r below at =
      let same : s ≡ r = some_is s r at in
      let lt = less_is x s.id.0 (is_t (is_lt (nat_cmp x s.id.0)) (first_true (is_lt (nat_cmp x s.id.0)) (below_all nat_cmp x (entries rows)) below)) in
      subst (λ (r : FileRow). x < r.id.0) same lt
  below_at x (s ∷ rows) (suc k) r below at = below_at x rows k r (rest_true (is_lt (nat_cmp x s.id.0)) (below_all nat_cmp x (entries rows)) below) at

  pub sorted_of : (rows : List FileRow) → Ascend (tree_rows rows) → is_sorted nat_cmp (entries rows) ≡ true
  sorted_of [] ascend = refl
  sorted_of (r ∷ rows) ascend =
      both (below_all nat_cmp r.id.0 (entries rows)) (is_sorted nat_cmp (entries rows))
      (below_of r.id.0 rows (λ k s at. ascend 0 (suc k) (tree_row r) (tree_row s) (omega arith) refl (slice_get-map tree_row rows k ∙ ap (option_map tree_row) at)))
      (sorted_of rows (λ i j s t lt at at'. ascend (suc i) (suc j) s t (omega (arith, lt)) at at'))

  ascend_at : (rows : List FileRow) (i j : ℕ) (r s : FileRow) → is_sorted nat_cmp (entries rows) ≡ true → i < j → slice_get rows i ≡ Some r → slice_get rows j ≡ Some s → r.id.0 < s.id.0
  ascend_at [] i j r s sorted lt at at' = absurd (let no : ◌≡◌ {A = Option FileRow} None (Some r) = at in cc)
  ascend_at (x ∷ rows) i zero r s sorted lt at at' = absurd (omega (arith, lt))
  ascend_at (x ∷ rows) zero (suc j) r s sorted lt at at' =
      let same : x ≡ r = some_is x r at in
      subst (λ (r : FileRow). r.id.0 < s.id.0) same (below_at x.id.0 rows j s (first_true (below_all nat_cmp x.id.0 (entries rows)) (is_sorted nat_cmp (entries rows)) sorted) at')
  ascend_at (x ∷ rows) (suc i) (suc j) r s sorted lt at at' =
      ascend_at rows i j r s (rest_true (below_all nat_cmp x.id.0 (entries rows)) (is_sorted nat_cmp (entries rows)) sorted) (omega (arith, lt)) at at'

  pub ascend_of : (rows : List FileRow) → is_sorted nat_cmp (entries rows) ≡ true → Ascend (tree_rows rows)
  ascend_of rows sorted i j r s lt at at' =
      let one = mapped tree_row rows i r at in
      let other = mapped tree_row rows j s at' in
      let less = ascend_at rows i j one.item other.item sorted lt one.at other.at in
      subst (λ (s : TreeRow). r.id < s.id) other.same (subst (λ (r : TreeRow). r.id < other.item.id.0) one.same less)

  -- ---- components

  tie : (id n : ℕ) (b : Bool) → (n == id) ≡ b → eq_by_cmp nat_cmp id n ≡ b
  tie id n true is = let same : n ≡ id = eqb-true n id is in grind (arith, nat_tests)
  tie id n false is = grind (arith, nat_tests)

  abbrev of_row : ℕ → FileRow → Component
  of_row id r = told_component m (told_row r) (children id)

  behind_one : (r : FileRow) (rows : List FileRow) (o : Option ℕ) → option_and_then (slice_get (r ∷ rows)) (option_map suc o) ≡ option_and_then (slice_get rows) o
  behind_one r rows None = refl
  behind_one r rows (Some k) = refl

  find_is : (rows : List FileRow) (id : ℕ) → find nat_cmp id (entries rows) ≡ option_map (of_row id) (row_with rows id)
  find_is [] id = refl
  find_is (r ∷ rows) id = by_test (r.id.0 == id) refl (find_is rows id)
    where
      by_test : (b : Bool) → (r.id.0 == id) ≡ b → find nat_cmp id (entries rows) ≡ option_map (of_row id) (row_with rows id)
          → cond (eq_by_cmp nat_cmp id r.id.0) (Some (of_row r.id.0 r)) (find nat_cmp id (entries rows))
          ≡ option_map (of_row id) (option_and_then (slice_get (r ∷ rows)) (if r.id.0 == id then Some 0 else option_map suc (place_of (tree_rows rows) id)))
      by_test true is rest =
          let same : r.id.0 ≡ id = eqb-true r.id.0 id is in
          ap (λ (b : Bool). cond b (Some (of_row r.id.0 r)) (find nat_cmp id (entries rows))) (tie id r.id.0 true is)
          ∙ ap (λ (n : ℕ). Some (of_row n r)) same
          ∙ sym (ap (λ (b : Bool). option_map (of_row id) (option_and_then (slice_get (r ∷ rows)) (if b then Some 0 else option_map suc (place_of (tree_rows rows) id)))) is)
      by_test false is rest =
          ap (λ (b : Bool). cond b (Some (of_row r.id.0 r)) (find nat_cmp id (entries rows))) (tie id r.id.0 false is)
          ∙ rest
          ∙ ap (option_map (of_row id)) (sym (behind_one r rows (place_of (tree_rows rows) id)))
          ∙ sym (ap (λ (b : Bool). option_map (of_row id) (option_and_then (slice_get (r ∷ rows)) (if b then Some 0 else option_map suc (place_of (tree_rows rows) id)))) is)

  -- ---- what is read off

  there_is : (rows : List FileRow) (id : ℕ) → is_some (row_with rows id) ≡ is_row (tree_rows rows) id
  there_is [] id = refl
  there_is (r ∷ rows) id = by_test (r.id.0 == id) (there_is rows id)
    where
      by_test : (b : Bool) → is_some (row_with rows id) ≡ is_some (place_of (tree_rows rows) id)
          → is_some (option_and_then (slice_get (r ∷ rows)) (if b then Some 0 else option_map suc (place_of (tree_rows rows) id)))
          ≡ is_some (if b then Some 0 else option_map suc (place_of (tree_rows rows) id))
      by_test true rest = refl
      by_test false rest = ap is_some (behind_one r rows (place_of (tree_rows rows) id)) ∙ rest ∙ sym (later (place_of (tree_rows rows) id))
        where
          later : (o : Option ℕ) → is_some (option_map suc o) ≡ is_some o
          later None = refl
          later (Some k) = refl

  parent_is : (rows : List FileRow) (id : ℕ) → option_and_then (λ (r : FileRow). number_of_id r.parent) (row_with rows id) ≡ parent_in (tree_rows rows) id
  parent_is rows id = by_place (place_of (tree_rows rows) id)
    where
      by_row : (o : Option FileRow) → option_and_then (λ (r : FileRow). number_of_id r.parent) o ≡ option_and_then (λ (r : TreeRow). r.parent) (option_map tree_row o)
      by_row None = refl
      by_row (Some r) = refl

      by_place : (o : Option ℕ) → option_and_then (λ (r : FileRow). number_of_id r.parent) (option_and_then (slice_get rows) o)
          ≡ option_and_then (λ (r : TreeRow). r.parent) (option_and_then (slice_get (tree_rows rows)) o)
      by_place None = refl
      by_place (Some k) = by_row (slice_get rows k) ∙ ap (λ (o : Option TreeRow). option_and_then (λ (r : TreeRow). r.parent) o) (sym (slice_get-map tree_row rows k))

  module _ (rows : List FileRow) (sorted : is_sorted nat_cmp (entries rows) ≡ true) where
    abbrev all : ById
    all = told_by m children (map_list told_row rows)

    pub got : (id : ℕ) → map.get all id ≡ option_map (of_row id) (row_with rows id)
    got id = map.get-from_sorted nat_cmp (entries rows) id (is_t (is_sorted nat_cmp (entries rows)) sorted) ∙ find_is rows id

    pub entries_are : map.entries all ≡ entries rows
    entries_are = map.entries-from_sorted nat_cmp (entries rows) (is_t (is_sorted nat_cmp (entries rows)) sorted)

    live_by : (id : ℕ) (o : Option FileRow) → is_some (option_map (of_row id) o) ≡ is_some o
    live_by id None = refl
    live_by id (Some r) = refl

    pub live_row : (id : ℕ) → is_live all id ≡ is_some (row_with rows id)
    live_row id = ap is_some (got id) ∙ live_by id (row_with rows id)

    pub live_is : (id : ℕ) → is_live all id ≡ is_row (tree_rows rows) id
    live_is id = live_row id ∙ there_is rows id

    parents_by : (id : ℕ) (o : Option FileRow) → option_and_then (λ (c : Component). c.parent) (option_map (of_row id) o) ≡ option_and_then (λ (r : FileRow). number_of_id r.parent) o
    parents_by id None = refl
    parents_by id (Some r) = refl

    pub parent_of_is : (id : ℕ) → parent_of all id ≡ parent_in (tree_rows rows) id
    parent_of_is id = ap (λ (o : Option Component). option_and_then (λ (c : Component). c.parent) o) (got id) ∙ parents_by id (row_with rows id) ∙ parent_is rows id

    pub children_of_is : ((id : ℕ) → is_row (tree_rows rows) id ≡ false → children id ≡ []) → (id : ℕ) → children_of all id ≡ children id
    children_of_is none id = ap (λ (o : Option Component). option_map_or (λ (c : Component). c.children) o []) (got id) ∙ by_row (row_with rows id) refl
      where
        by_row : (o : Option FileRow) → row_with rows id ≡ o → option_map_or (λ (c : Component). c.children) (option_map (of_row id) o) [] ≡ children id
        by_row None is = sym (none id (sym (there_is rows id) ∙ ap is_some is))
        by_row (Some r) is = refl

    names_by : (id : ℕ) (o : Option FileRow) → option_map_or (λ (c : Component). c.name) (option_map (of_row id) o) [] ≡ option_map_or (λ (r : FileRow). r.name) o []
    names_by id None = refl
    names_by id (Some r) = refl

    pub name_of_is : (id : ℕ) → name_of all id ≡ name_in rows id
    name_of_is id = ap (λ (o : Option Component). option_map_or (λ (c : Component). c.name) o []) (got id) ∙ names_by id (row_with rows id)

    types_by : (id slot : ℕ) (o : Option FileRow) → property_type (option_and_then (λ (c : Component). slot_form m c.class slot) (option_map (of_row id) o))
        ≡ property_type (option_and_then (λ (r : FileRow). slot_form m r.kind.0 slot) o)
    types_by id slot None = refl
    types_by id slot (Some r) = refl

    pub type_at_is : (id slot : ℕ) → type_at m all id slot ≡ type_in m rows id slot
    type_at_is id slot = ap (λ (o : Option Component). property_type (option_and_then (λ (c : Component). slot_form m c.class slot) o)) (got id) ∙ types_by id slot (row_with rows id)
