-- What an image has that the compiler makes of a program, as far as its code's meaning goes.
use Rattle.std.specs.Prelude.{ℕ, ◌≡◌, false, not, IsTrue, All, List, ◌++◌, map, length, slice_get, Some}
use Rattle.std.specs.Option.{option_map_or}
use Rattle.sed_typed.specs.declared.program.Field.{Field}
use Rattle.sed_typed.specs.declared.program.FieldForm.{FieldForm}
use Rattle.sed_typed.specs.declared.program.FieldForm.TheVariants as form
use Rattle.sed_typed.specs.declared.program.Method.{Method}
use Rattle.sed_typed.specs.declared.program.Program.{Program}
use Rattle.sed_typed.specs.Classes.{fields, find, method_name}
use Rattle.sed_typed.specs.Typed.{locals_of}
use Rattle.sed_typed.specs.TypedSchema.{is_below}
use Rattle.sed_engine.specs.Values.{Val, zero_of}
use Rattle.scode_ops.specs.declared.op.Op.{Op}
use Rattle.scode_ops.specs.Codes.{IsOp}
use Rattle.scode_image.specs.declared.image.Image.{Image}
use Rattle.scode_image.specs.declared.image.ImageField.{ImageField}
use Rattle.scode_image.specs.declared.image.ImageMethod.{ImageMethod}
use Rattle.scode_code.specs.Tables.{class_fields, form_of, field_number}
use Rattle.scode_code.specs.Fields.{buf_number}
use Rattle.scode_code.specs.Effect.{form_number, array_number}
use Rattle.scode_code.specs.Calls.{is_instance, table_method}
use Rattle.scode_code.specs.Calls as machine
use Rattle.scode_emit.specs.Site.{Site, Layout}
use Rattle.scode_emit.specs.Code.{body_code, bytes_of}

-- ---- fields

-- the number of a form, and the n beside it
abbrev pub number_of_form : FieldForm → ℕ
number_of_form (form.Prim p) = form_number p
number_of_form (form.Str n) = 6
number_of_form (form.Buf n) = 7
number_of_form (form.Object class) = 8
number_of_form (form.Array p n) = array_number p

abbrev pub room_of_form : FieldForm → ℕ
room_of_form (form.Prim p) = 0
room_of_form (form.Str n) = n
room_of_form (form.Buf n) = n
room_of_form (form.Object class) = class.0
room_of_form (form.Array p n) = n

-- the fields of a class or the statics, each found by its form, its offset and its n, and a Buf by its offset alone;
-- the room that is said of a Str or a Buf is its own
pub record HasFields (all : List Field) (offset room : ℕ → ℕ) (made : List ImageField) : Type 0 where
  pub forms : map form_of made ≡ map (λ f. f.form) all
  pub found : (i : ℕ) (f : Field) → slice_get all i ≡ Some f →
      field_number made (number_of_form f.form) (offset i) (room_of_form f.form) ≡ Some i
  pub bufs : (i n : ℕ) (f : Field) → slice_get all i ≡ Some f → f.form ≡ form.Buf n →
      buf_number made (offset i) ≡ Some i
  pub strs : (i n : ℕ) (f : Field) → slice_get all i ≡ Some f → f.form ≡ form.Str n → room i ≡ n
  pub most : (i n : ℕ) (f : Field) → slice_get all i ≡ Some f → f.form ≡ form.Buf n → room i ≡ n

-- ---- methods

abbrev pub site_of : Program → Layout → Method → Site
site_of program layout m =
    record { program = program; layout = layout; class = m.class.0; locals = length (locals_of m) }

abbrev pub ops_of : Program → Layout → Method → List Op
ops_of program layout m = body_code (site_of program layout m) m.result m.body

-- a method as it stands in an image: its code, whether it has a receiver, how many parameters it has, and what its
-- locals begin as, behind which stand the compiler's four
pub record IsMethodOf (program : Program) (layout : Layout) (m : Method) (x : ImageMethod) : Type 0 where
  pub code : x.code ≡ bytes_of (ops_of program layout m)
  pub spelled : All IsOp (ops_of program layout m)
  pub instance : is_instance x ≡ not m.is_static
  pub params : length x.params ≡ length m.params
  pub waiting : List Val
  pub four : length waiting ≡ 4
  pub locals : map machine.zero_of x.locals ≡ map zero_of (locals_of m) ++ waiting

-- ---- images

-- an image that is made of a program, whose data lie as the layout says: it has its methods, its texts, its fields and
-- statics, and its virtual methods at their places
pub record IsMade (program : Program) (layout : Layout) (image : Image) : Type 0 where
  pub methods : (number : ℕ) (m : Method) → slice_get program.methods number ≡ Some m →
      (x : ImageMethod) × (slice_get image.methods number ≡ Some x) × IsMethodOf program layout m x
  pub texts : image.texts ≡ program.texts
  pub fields_of : (class : ℕ) →
      HasFields (fields program class) (layout.offset class) (layout.room class) (class_fields image class)
  pub statics : HasFields program.statics layout.static_offset layout.static_room image.static_fields
  -- what is inherited stands where it stood
  pub inherited : (above class i : ℕ) (f : Field) → IsTrue (is_below program.schema.classes above class) →
      slice_get (fields program above) i ≡ Some f → layout.offset class i ≡ layout.offset above i
  -- a virtual method's place is the same in the tables of all classes below, and there stands the nearest of its name
  pub places : (above class m n : ℕ) →
      IsTrue (option_map_or (λ x. x.is_virtual) (slice_get program.methods m) false) →
      IsTrue (is_below program.schema.classes above class) → find program above (method_name program m) ≡ Some m →
      find program class (method_name program m) ≡ Some n →
      table_method image class (layout.table_place above m) ≡ Some n
