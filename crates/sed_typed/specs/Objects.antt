-- The classes of inline objects. They are found alike in a program and in an image, whatever else stands in their
-- fields: by the form of a field, and by the fields of each class.
use Rattle.std.specs.Prelude.{ℕ, List, [], ◌∷◌, slice_get, Option, Some, None}
use Rattle.sed_typed.specs.declared.program.FieldForm.{FieldForm}
use Rattle.sed_typed.specs.declared.program.FieldForm.TheVariants.{Prim, Str, Buf, Array, Object}
use Rattle.sed_typed.specs.declared.program.Field.{Field}
use Rattle.sed_typed.specs.declared.program.Program.{Program}
use Rattle.sed_typed.specs.Classes.{fields}
use Rattle.sed_typed.specs.Contents.{Path}

-- the class of a field that is an inline object
abbrev pub form_class : FieldForm → Option ℕ
form_class (Prim p) = None
form_class (Str n) = None
form_class (Buf n) = None
form_class (Array p n) = None
form_class (Object t) = Some t.0

abbrev pub class_in : {F : Type 0} → (F → FieldForm) → Option F → Option ℕ
class_in form None = None
class_in form (Some f) = form_class (form f)

-- the class of the object at a path from an object of this class, if one is there
abbrev pub object_in : {F : Type 0} → (F → FieldForm) → (ℕ → List F) → Path → Option ℕ → Option ℕ
object_in form fields path None = None
object_in form fields [] (Some class) = Some class
object_in form fields (i ∷ path) (Some class) = object_in form fields path (class_in form (slice_get (fields class) i))

-- the same from the statics, which are no object
abbrev pub static_object_in : {F : Type 0} → (F → FieldForm) → (ℕ → List F) → List F → Path → Option ℕ
static_object_in form fields statics [] = None
static_object_in form fields statics (i ∷ path) = object_in form fields path (class_in form (slice_get statics i))

-- ---- of a program

abbrev pub form_of : Field → FieldForm
form_of f = f.form

abbrev pub field_class : Option Field → Option ℕ
field_class f = class_in form_of f

abbrev pub object_class : Program → Path → Option ℕ → Option ℕ
object_class program path class = object_in form_of (fields program) path class

abbrev pub class_at : Program → Path → ℕ → Option ℕ
class_at program path class = object_class program path (Some class)

abbrev pub static_class_at : Program → Path → Option ℕ
static_class_at program path = static_object_in form_of (fields program) program.statics path
