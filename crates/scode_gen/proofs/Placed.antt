-- Fields that stand at offsets, and the place of a name in a table.
use Rattle.std.proofs.Common.{◌≡◌, ℕ, suc, ◌+◌, ◌<◌, Bool, true, false, cond, List, [], ◌∷◌, length, map, nat_lt, Option, Some, None, refl, ap, sym, ◌∙◌, arith}
use Rattle.std.specs.Prelude.{position, slice_index, unwrap_or}
use Rattle.std.specs.List.{enumerate_from, position_from, position_or_len, range_with_len}
use Rattle.std.specs.Option.{option_map_or}
use Rattle.std.specs.Str.{bytes_eq}
use Rattle.std.proofs.lemmas.Bool.Decides.{nat_tests}
use Rattle.std.proofs.lemmas.Iterator.Adapters.{position_from-zero}
use Rattle.std.proofs.lemmas.List.FromFn.{get_or-map-range_with_len, length-map-range_with_len}
use Rattle.sed_typed.specs.declared.program.Field.{Field}
use Rattle.sed_typed.specs.declared.program.Program.{Program}
use Rattle.sed_typed.specs.Classes.{fields, method_name}
use Rattle.sed_typed.specs.TypedSchema.{in_slot}
use Rattle.sed_typed.specs.Virtual.{virtual_names}
use Rattle.sed_layout.specs.MethodTables.{table_of}
use Rattle.sed_layout.specs.Offsets.{offset_of, offsets_of}
use Rattle.scode_image.specs.declared.image.ImageField.{ImageField}
use Rattle.scode_gen.specs.ImageFields.{fields_placed, image_field}
use Rattle.scode_gen.specs.ImageSlots.{action_place, property_offset}

-- ---- offsets

alike_from : (f g : ℕ → ℕ) (n : ℕ) (all : List Field) → ((i : ℕ) → i < length all → f (n + i) ≡ g (n + i)) →
    map (λ (at : ℕ × Field). image_field (f at.0) at.1.form) (enumerate_from n all) ≡ map (λ (at : ℕ × Field). image_field (g at.0) at.1.form) (enumerate_from n all)
alike_from f g n [] h = refl
alike_from f g n (x ∷ xs) h =
    let here : f n ≡ g n = ap f (let e : n ≡ n + 0 = omega arith in e) ∙ h 0 (omega arith) ∙ ap g (let e : n + 0 ≡ n = omega arith in e) in
    let rest = alike_from f g (n + 1) xs (λ i lt. let e : (n + 1) + i ≡ n + suc i = omega arith in ap f e ∙ h (suc i) (omega (arith, lt)) ∙ ap g (sym e)) in
    ap (λ (k : ℕ). image_field k x.form ∷ map (λ (at : ℕ × Field). image_field (f at.0) at.1.form) (enumerate_from (n + 1) xs)) here
    ∙ ap (λ (ys : List ImageField). image_field (g n) x.form ∷ ys) rest

-- fields are placed by the offsets of their numbers alone
pub placed_alike : (f g : ℕ → ℕ) (all : List Field) → ((i : ℕ) → i < length all → f i ≡ g i) → fields_placed f all ≡ fields_placed g all
placed_alike f g all h = alike_from f g 0 all (λ i lt. let e : 0 + i ≡ i = omega arith in ap f e ∙ h i lt ∙ ap g (sym e))

pub placed_row : (f : ℕ → ℕ) (all : List Field) (row : List ℕ) → row ≡ map f (range_with_len 0 (length all)) → fields_placed (slice_index row) all ≡ fields_placed f all
placed_row f all row is =
    placed_alike (slice_index row) f all
    (λ i lt. ap (λ (xs : List ℕ). slice_index xs i) is ∙ get_or-map-range_with_len f 0 (length all) i i 0 lt (omega arith))

-- ---- places

mapped_from : {X Y : Type 0} (v : X → Y) (p : Y → Bool) (n : ℕ) (xs : List X) → position_from (λ x. p (v x)) n xs ≡ position_from p n (map v xs)
mapped_from v p n [] = refl
mapped_from v p n (x ∷ xs) = ap (cond (p (v x)) (Some n)) (mapped_from v p (n + 1) xs)

-- the first method of a name stands at the first place of the name
pub place_by_number : (program : Program) (table : List ℕ) (names : List (List ℕ)) (name : List ℕ) → map (method_name program) table ≡ names →
    position (λ number. bytes_eq (method_name program number) name) table ≡ position (λ other. bytes_eq other name) names
place_by_number program table names name is =
    position_from-zero (λ number. bytes_eq (method_name program number) name) table
    ∙ mapped_from (method_name program) (λ other. bytes_eq other name) 0 table
    ∙ ap (position_from (λ other. bytes_eq other name) 0) is
    ∙ sym (position_from-zero (λ other. bytes_eq other name) names)

-- ---- what is found stands within

pub position_within : {X : Type 0} (p : X → Bool) (xs : List X) (i : ℕ) → position p xs ≡ Some i → i < length xs
position_within p xs i e = by_test (nat_lt (position_or_len p xs) (length xs)) refl e
  where
    by_test : (b : Bool) → nat_lt (position_or_len p xs) (length xs) ≡ b → cond b (Some (position_or_len p xs)) None ≡ Some i → i < length xs
    by_test true t h = let same : position_or_len p xs ≡ i = cc in let less : position_or_len p xs < length xs = grind (arith, nat_tests) in omega arith
    by_test false t h = let never : ⊥ = cc in absurd never

-- ---- slots

-- the field in a slot stands at its offset among these
pub record IsOffset (program : Program) (class number field : ℕ) (row : List ℕ) : Type 0 where
  pub within : field < length row
  pub is : slice_index row field ≡ property_offset program class number

pub offset_found : (program : Program) (class number field : ℕ) (all : List Field) (row : List ℕ) → all ≡ fields program class → row ≡ offsets_of program class →
    position (in_slot number) all ≡ Some field → IsOffset program class number field row
offset_found program class number field all row are rows e =
    let found : position (in_slot number) (fields program class) ≡ Some field = ap (position (in_slot number)) (sym are) ∙ e in
    let less : field < length (fields program class) = position_within (in_slot number) (fields program class) field found in
    let long : length row ≡ length (fields program class) = ap length rows ∙ length-map-range_with_len (offset_of program class) 0 (length (fields program class)) in
    record {
      within = omega (arith, less, long);
      is = ap (λ (xs : List ℕ). slice_index xs field) rows
          ∙ get_or-map-range_with_len (offset_of program class) 0 (length (fields program class)) field field 0 less (omega arith)
          ∙ sym (ap (λ (o : Option ℕ). option_map_or (offset_of program class) o 0) found);
    }

pub offset_missing : (program : Program) (class number : ℕ) (all : List Field) → all ≡ fields program class → position (in_slot number) all ≡ None → 0 ≡ property_offset program class number
offset_missing program class number all are e =
    sym (ap (λ (o : Option ℕ). option_map_or (offset_of program class) o 0) (ap (position (in_slot number)) (sym are) ∙ e))

-- the place of an action among the methods of its table
pub place_found : (program : Program) (class : ℕ) (table : List ℕ) (name : List ℕ) (o : Option ℕ) → map (method_name program) (table_of program class) ≡ virtual_names program class →
    table ≡ table_of program class → position (λ number. bytes_eq (method_name program number) name) table ≡ o → unwrap_or o 0 ≡ action_place program class name
place_found program class table name o names is e =
    ap (λ (r : Option ℕ). unwrap_or r 0)
    (sym e ∙ place_by_number program table (virtual_names program class) name (ap (map (method_name program)) is ∙ names))
