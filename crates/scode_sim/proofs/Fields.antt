-- The fields that instructions find in an image are those that the language finds.
use Rattle.std.proofs.Common.{◌≡◌, ℕ, List, [], ◌∷◌, map, Option, Some, None, slice_get, refl, sym, ap, ◌∙◌}
use Rattle.std.specs.Option.{option_map}
use Rattle.std.proofs.lemmas.Option.{slice_get-map}
use Rattle.sed_typed.specs.declared.program.Field.{Field}
use Rattle.sed_typed.specs.declared.program.Program.{Program}
use Rattle.sed_typed.specs.Classes.{fields}
use Rattle.sed_typed.specs.Contents.{Path}
use Rattle.sed_typed.specs.Objects.{form_class, class_in, object_in, static_object_in}
use Rattle.sed_typed.specs.Objects as objects
use Rattle.sed_engine.specs.Expressions.{class_from}
use Rattle.sed_engine.specs.Places.{field_spot, static_spot}
use Rattle.sed_engine.specs.State.{State, End, gives, answers, then_do}
use Rattle.sed_engine.specs.Steps.{inside}
use Rattle.sed_engine.specs.Stops.{there}
use Rattle.sed_engine.specs.Values.{Base, Component, Statics, Spot, Null, At}
use Rattle.sed_engine.proofs.Below.{absent}
use Rattle.scode_image.specs.declared.image.Image.{Image}
use Rattle.scode_image.specs.declared.image.ImageField.{ImageField}
use Rattle.scode_code.specs.Tables.{class_fields, form_of, field_number}
use Rattle.scode_code.specs.Fields.{Setting, class_of, fields_at, fields_from, field_at, buf_number, buf_at}
use Rattle.scode_emit.specs.Site.{Layout}
use Rattle.scode_sim.specs.Made.{IsMade}

-- ---- classes of objects

class_same : (a : Option ImageField) (b : Option Field) → option_map form_of a ≡ option_map (λ f. f.form) b → class_in form_of a ≡ class_in objects.form_of b
class_same None None e = refl
class_same None (Some g) e = absent g.form e
class_same (Some f) None e = absent (form_of f) (sym e)
class_same (Some f) (Some g) e = let same : form_of f ≡ g.form = cc in ap form_class same

forms_at : (made : List ImageField) (all : List Field) → map form_of made ≡ map (λ f. f.form) all → (i : ℕ) →
    option_map form_of (slice_get made i) ≡ option_map (λ (f : Field). f.form) (slice_get all i)
forms_at made all e i = sym (slice_get-map form_of made i) ∙ ap (λ l. slice_get l i) e ∙ slice_get-map (λ (f : Field). f.form) all i

module _ (program : Program) (layout : Layout) (image : Image) (made : IsMade program layout image) where
  objects_same : (path : Path) (o : Option ℕ) → object_in form_of (class_fields image) path o ≡ object_in objects.form_of (fields program) path o
  objects_same path None = refl
  objects_same [] (Some c) = refl
  objects_same (i ∷ path) (Some c) =
      objects_same path (class_in form_of (slice_get (class_fields image c) i))
      ∙ ap (object_in objects.form_of (fields program) path) (class_same (slice_get (class_fields image c) i) (slice_get (fields program c) i) (forms_at (class_fields image c) (fields program c) (made.fields_of c).forms i))

  module _ (class : ℕ) where
    abbrev pub w : Setting
    w = record { image = image; class = class }

    -- the class of an object is the same on both sides
    pub class_is : (base : Base) (path : Path) → class_of w (record { base = base; path = path }) ≡ class_from program class base path
    class_is Component path = objects_same path (Some class)
    class_is Statics [] = refl
    class_is Statics (i ∷ path) =
        objects_same path (class_in form_of (slice_get image.static_fields i))
        ∙ ap (object_in objects.form_of (fields program) path) (class_same (slice_get image.static_fields i) (slice_get program.statics i) (forms_at image.static_fields program.statics made.statics.forms i))

    pub fields_there : (base : Base) (path : Path) (c : ℕ) → class_from program class base path ≡ Some c → fields_at w (record { base = base; path = path }) ≡ class_fields image c
    fields_there Component path c e = ap (λ (o : Option ℕ). fields_from w Component path o) (class_is Component path ∙ e)
    fields_there Statics [] c e = absent c e
    fields_there Statics (i ∷ path) c e = ap (λ (o : Option ℕ). fields_from w Statics (i ∷ path) o) (class_is Statics (i ∷ path) ∙ e)

    -- ---- the field of an object

    abbrev found_in : List ImageField → Spot → ℕ → ℕ → ℕ → State → End Spot
    found_in all spot form offset n s = then_do (answers (there (field_number all form offset n)) s) (λ i s2. gives (inside spot i) s2)

    -- of an object that stands at a place
    pub field_at_spot : (spot : Spot) (c i form offset n : ℕ) → class_from program class spot.base spot.path ≡ Some c → field_number (class_fields image c) form offset n ≡ Some i →
        (s : State) → field_at w (At spot) form offset n s ≡ field_spot (At spot) i s
    field_at_spot spot c i form offset n is found s =
        ap (λ all. found_in all spot form offset n s) (fields_there spot.base spot.path c is)
        ∙ ap (λ (o : Option ℕ). then_do (answers (there o) s) (λ i s2. gives (inside spot i) s2)) found

    pub buf_at_spot : (spot : Spot) (c i offset : ℕ) → class_from program class spot.base spot.path ≡ Some c → buf_number (class_fields image c) offset ≡ Some i →
        (s : State) → buf_at w (At spot) offset s ≡ field_spot (At spot) i s
    buf_at_spot spot c i offset is found s =
        ap (λ all. then_do (answers (there (buf_number all offset)) s) (λ i s2. gives (inside spot i) s2)) (fields_there spot.base spot.path c is)
        ∙ ap (λ (o : Option ℕ). then_do (answers (there o) s) (λ i s2. gives (inside spot i) s2)) found

    -- of null
    pub field_at_null : (i form offset n : ℕ) (s : State) → field_at w Null form offset n s ≡ field_spot Null i s
    field_at_null i form offset n s = refl

    pub buf_at_null : (i offset : ℕ) (s : State) → buf_at w Null offset s ≡ field_spot Null i s
    buf_at_null i offset s = refl

    -- of the static block
    pub static_at : (i form offset n : ℕ) → field_number image.static_fields form offset n ≡ Some i → (s : State) →
        field_at w (At (record { base = Statics; path = [] })) form offset n s ≡ gives (static_spot i) s
    static_at i form offset n found s =
        ap (λ (o : Option ℕ). then_do (answers (there o) s) (λ i s2. gives (inside (record { base = Statics; path = [] }) i) s2)) found
