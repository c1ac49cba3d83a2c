-- What the image and its layout say of a class: its fields and its table, and of a class that is not there nothing.
use Rattle.std.proofs.Common.{◌≡◌, ℕ, ◌<◌, ◌≤◌, List, [], length, map, get_or, Option, Some, None, ap, ◌∙◌, arith}
use Rattle.std.specs.Prelude.{slice_get}
use Rattle.std.specs.List.{range_with_len}
use Rattle.std.specs.Option.{option_map, option_map_or}
use Rattle.std.proofs.lemmas.List.FromFn.{get_or-map-range_with_len, length-map-range_with_len}
use Rattle.std.proofs.lemmas.Option.{slice_get-get_or, slice_get_past}
use Rattle.sed_typed.specs.declared.program.Program.{Program}
use Rattle.sed_typed.specs.declared.schema.ClassInfo.{ClassInfo}
use Rattle.sed_layout.specs.Offsets.{of_classes}
use Rattle.scode_image.specs.declared.image.ImageClass.{ImageClass}
use Rattle.scode_code.specs.Tables as tables
use Rattle.scode_emit.specs.Rows.{row_of}
use Rattle.scode_gen.specs.Classes.{image_class}
use Rattle.scode_gen.specs.Generated.{image_of}
use Rattle.scode_gen.specs.ImageFields.{class_fields}
use Rattle.scode_made.proofs.Places.{numbered}

-- ---- rows

pub row_at : {X : Type 0} (program : Program) (f : ℕ → List X) (class : ℕ) → class < length program.schema.classes → row_of (of_classes program f) class ≡ f class
row_at {X} program f class h =
    let n = length program.schema.classes in
    let found : slice_get (map f (range_with_len 0 n)) class ≡ Some (get_or (map f (range_with_len 0 n)) class []) =
    slice_get-get_or (map f (range_with_len 0 n)) class [] (omega (arith, h, length-map-range_with_len f 0 n)) in
    ap (λ (o : Option (List X)). option_map_or (λ (row : List X). row) o []) found
    ∙ get_or-map-range_with_len f 0 n class class [] h (omega arith)

pub row_beyond : {X : Type 0} (program : Program) (f : ℕ → List X) (class : ℕ) → length program.schema.classes ≤ class → row_of (of_classes program f) class ≡ []
row_beyond {X} program f class h =
    let n = length program.schema.classes in
    ap (λ (o : Option (List X)). option_map_or (λ (row : List X). row) o [])
    (slice_get_past (map f (range_with_len 0 n)) class (omega (arith, h, length-map-range_with_len f 0 n)))

-- ---- classes

pub class_at : (program : Program) (class : ℕ) (info : ClassInfo) → slice_get program.schema.classes class ≡ Some info →
    slice_get (image_of program).classes class ≡ Some (image_class program class info)
class_at program class info there =
    numbered (image_class program) class program.schema.classes ∙ ap (option_map (image_class program class)) there

class_beyond : (program : Program) (class : ℕ) → slice_get program.schema.classes class ≡ None → slice_get (image_of program).classes class ≡ None
class_beyond program class none =
    numbered (image_class program) class program.schema.classes ∙ ap (option_map (image_class program class)) none

pub fields_at : (program : Program) (class : ℕ) (info : ClassInfo) → slice_get program.schema.classes class ≡ Some info →
    tables.class_fields (image_of program) class ≡ class_fields program class
fields_at program class info there = ap (λ (o : Option ImageClass). option_map_or (λ c. c.fields) o []) (class_at program class info there)

pub fields_past : (program : Program) (class : ℕ) → slice_get program.schema.classes class ≡ None → tables.class_fields (image_of program) class ≡ []
fields_past program class none = ap (λ (o : Option ImageClass). option_map_or (λ c. c.fields) o []) (class_beyond program class none)
