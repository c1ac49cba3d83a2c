-- What stands at a place of a typed program's component and statics.
use Rattle.std.proofs.Common.{◌≡◌, ◌<◌, ◌≤◌, ℕ, Bool, true, false, List, [], ◌∷◌, ◌++◌, length, map, Option, Some, None, refl, sym, ap, subst, ◌∙◌}
use Rattle.std.specs.Prelude.{All, IsSomeAnd, ⊤, if◌then◌else◌, nat_lt, slice_get}
use Rattle.std.specs.Option.{option_map}
use Rattle.std.proofs.lemmas.Option.{MatchOption-at_some, same_Some, slice_get-map}
use Rattle.sed_typed.specs.declared.program.Field.{Field}
use Rattle.sed_typed.specs.declared.program.FieldForm.{FieldForm}
use Rattle.sed_typed.specs.declared.program.FieldForm.TheVariants as form
use Rattle.sed_typed.specs.declared.program.Method.{Method}
use Rattle.sed_typed.specs.declared.program.Program.{Program}
use Rattle.sed_typed.specs.Classes.{fields, find, method_name}
use Rattle.sed_typed.specs.Contents.{Path, Shape}
use Rattle.sed_typed.specs.Objects.{form_class, field_class, object_class}
use Rattle.sed_typed.specs.Typed.{Typed}
use Rattle.sed_typed.specs.TypedSchema.{IsField, IsForm, is_abstract}
use Rattle.sed_engine.specs.Values.{Base, Component, Statics}
use Rattle.sed_engine.specs.Fits.{form_at, form_below, form_of, part_of}
use Rattle.sed_engine.specs.Program.{shape_of}
use Rattle.sed_engine.specs.Expressions.{class_from}
use Rattle.sed_engine.proofs.Below.{absent, at_place, of_some}
use Rattle.sed_engine.proofs.FieldLists.{of_fields}
use Rattle.sed_engine.proofs.FirstPaths.{shapes_of}
use Rattle.sed_engine.proofs.Kinded.{form_from}

-- the form of a field by its number
pub form_at_is : (all : List Field) (i : ℕ) → form_at (map shape_of all) i ≡ option_map (λ f. f.form) (slice_get all i)
form_at_is all i = ap (option_map (λ (s : Shape). s.form)) (slice_get-map shape_of all i) ∙ again (slice_get all i)
  where
    again : (o : Option Field) → option_map (λ (s : Shape). s.form) (option_map shape_of o) ≡ option_map (λ f. f.form) o
    again None = refl
    again (Some f) = refl

below_nothing : (F : ℕ → List Shape) (o : Option FieldForm) → form_below F [] o ≡ o
below_nothing F None = refl
below_nothing F (Some f) = refl

class_nothing : (program : Program) (o : Option ℕ) → object_class program [] o ≡ o
class_nothing program None = refl
class_nothing program (Some c) = refl

-- ---- one step further

-- what stands inside what stands at a path
below_further : (F : ℕ → List Shape) (path : Path) (i : ℕ) (o : Option FieldForm) (f : FieldForm) → form_below F path o ≡ Some f → form_below F (path ++ i ∷ []) o ≡ part_of F f i
below_further F path i None f e = absent f e
below_further F [] i (Some g) f e = below_nothing F (part_of F g i) ∙ ap (λ (h : FieldForm). part_of F h i) (same_Some g f e)
below_further F (j ∷ path) i (Some g) f e = below_further F path i (part_of F g j) f e

pub form_further : (program : Program) (class : ℕ) (base : Base) (path : Path) (i : ℕ) (f : FieldForm) → form_from program class base path ≡ Some f →
    form_from program class base (path ++ i ∷ []) ≡ part_of (shapes_of program) f i
form_further program class Component [] i f e = absent f e
form_further program class Component (j ∷ path) i f e = below_further (shapes_of program) path i (form_at (shapes_of program class) j) f e
form_further program class Statics [] i f e = absent f e
form_further program class Statics (j ∷ path) i f e = below_further (shapes_of program) path i (form_at (map shape_of program.statics) j) f e

object_further : (program : Program) (path : Path) (i : ℕ) (o : Option ℕ) (c : ℕ) → object_class program path o ≡ Some c →
    object_class program (path ++ i ∷ []) o ≡ field_class (slice_get (fields program c) i)
object_further program path i None c e = absent c e
object_further program [] i (Some t) c e = class_nothing program (field_class (slice_get (fields program t) i)) ∙ ap (λ (n : ℕ). field_class (slice_get (fields program n) i)) (same_Some t c e)
object_further program (j ∷ path) i (Some t) c e = object_further program path i (field_class (slice_get (fields program t) j)) c e

pub class_further : (program : Program) (class : ℕ) (base : Base) (path : Path) (i c : ℕ) → class_from program class base path ≡ Some c →
    class_from program class base (path ++ i ∷ []) ≡ field_class (slice_get (fields program c) i)
class_further program class Component path i c e = object_further program path i (Some class) c e
class_further program class Statics [] i c e = absent c e
class_further program class Statics (j ∷ path) i c e = object_further program path i (field_class (slice_get program.statics j)) c e

-- where an object stands, its fields are those of its class
object_form : (F : ℕ → List Shape) (path : Path) (i : ℕ) (t : _) → form_below F (path ++ i ∷ []) (Some (form.Object t)) ≡ form_of F (F t.0) (path ++ i ∷ [])
object_form F [] i t = refl
object_form F (j ∷ path) i t = refl

form_in_field : (program : Program) (path : Path) (i c : ℕ) (o : Option Field) → object_class program path (field_class o) ≡ Some c →
    ((t : ℕ) → object_class program path (Some t) ≡ Some c → form_of (shapes_of program) (shapes_of program t) (path ++ i ∷ []) ≡ form_at (shapes_of program c) i) →
    form_below (shapes_of program) (path ++ i ∷ []) (option_map (λ f. f.form) o) ≡ form_at (shapes_of program c) i
form_in_field program path i c None e again = absent c e
form_in_field program path i c (Some f) e again = go f.form e
  where
    go : (g : FieldForm) → object_class program path (form_class g) ≡ Some c → form_below (shapes_of program) (path ++ i ∷ []) (Some g) ≡ form_at (shapes_of program c) i
    go (form.Prim p) e = absent c e
    go (form.Str n) e = absent c e
    go (form.Buf n) e = absent c e
    go (form.Array p n) e = absent c e
    go (form.Object t) e = object_form (shapes_of program) path i t ∙ again t.0 e

form_in_class : (program : Program) (path : Path) (i t c : ℕ) → object_class program path (Some t) ≡ Some c →
    form_of (shapes_of program) (shapes_of program t) (path ++ i ∷ []) ≡ form_at (shapes_of program c) i
form_in_class program [] i t c e = below_nothing (shapes_of program) (form_at (shapes_of program t) i) ∙ ap (λ (n : ℕ). form_at (shapes_of program n) i) (same_Some t c e)
form_in_class program (j ∷ path) i t c e =
    ap (form_below (shapes_of program) (path ++ i ∷ [])) (form_at_is (fields program t) j)
    ∙ form_in_field program path i c (slice_get (fields program t) j) e (λ n again. form_in_class program path i n c again)

pub form_in_object : (program : Program) (class : ℕ) (base : Base) (path : Path) (i c : ℕ) → class_from program class base path ≡ Some c →
    form_from program class base (path ++ i ∷ []) ≡ form_at (shapes_of program c) i
form_in_object program class Component path i c e = form_in_class program path i class c e
form_in_object program class Statics [] i c e = absent c e
form_in_object program class Statics (j ∷ path) i c e =
    ap (form_below (shapes_of program) (path ++ i ∷ [])) (form_at_is program.statics j)
    ∙ form_in_field program path i c (slice_get program.statics j) e (λ n again. form_in_class program path i n c again)

-- ---- what a typed program says of each form

-- a class of which objects may be
abbrev pub Concrete : Program → ℕ → Type 0
Concrete program c = (c < length program.schema.classes) × (is_abstract program.schema.classes c ≡ false)

abbrev pub IsGood : Program → FieldForm → Type 0
IsGood program (form.Prim p) = Unit {0}
IsGood program (form.Str n) = n ≤ 255
IsGood program (form.Buf n) = n ≤ 128
IsGood program (form.Array p n) = Unit {0}
IsGood program (form.Object t) = Concrete program t.0

good_of : (program : Program) (f : Field) → IsField program f → IsGood program f.form
good_of program f is = go f.form is.form
  where
    go : (g : FieldForm) → IsForm program f g → IsGood program g
    go (form.Prim p) h = tt
    go (form.Str n) h = h.1
    go (form.Buf n) h = h.1
    go (form.Array p n) h = tt
    go (form.Object t) h = (h.0, h.1)

good_at : (program : Program) (all : List Field) → All (IsField program) all → (i : ℕ) (f : FieldForm) → form_at (map shape_of all) i ≡ Some f → IsGood program f
good_at program all known i f e = go (slice_get all i) refl (sym (form_at_is all i) ∙ e)
  where
    go : (o : Option Field) → slice_get all i ≡ o → option_map (λ x. x.form) o ≡ Some f → IsGood program f
    go None is e = absent f e
    go (Some x) is e = subst (IsGood program) (same_Some x.form f e) (good_of program x (at_place (IsField program) all i x known is))

good_part : (program : Program) → Typed program → (g f : FieldForm) (i : ℕ) → part_of (shapes_of program) g i ≡ Some f → IsGood program f
good_part program typed (form.Prim p) f i e = absent f e
good_part program typed (form.Str n) f i e = absent f e
good_part program typed (form.Buf n) f i e = absent f e
good_part program typed (form.Array p n) f i e = go (nat_lt i n) e
  where
    go : (b : Bool) → (if b then Some (form.Prim p) else None) ≡ Some f → IsGood program f
    go true e = subst (IsGood program) (same_Some (form.Prim p) f e) tt
    go false e = absent f e
good_part program typed (form.Object t) f i e = good_at program (fields program t.0) (of_fields (IsField program) program typed.fields t.0) i f e

good_below : (program : Program) → Typed program → (path : Path) (o : Option FieldForm) (f : FieldForm) → ((g : FieldForm) → o ≡ Some g → IsGood program g) →
    form_below (shapes_of program) path o ≡ Some f → IsGood program f
good_below program typed path None f good e = absent f e
good_below program typed [] (Some g) f good e = good f e
good_below program typed (j ∷ path) (Some g) f good e = good_below program typed path (part_of (shapes_of program) g j) f (λ h is. good_part program typed g h j is) e

pub good : (program : Program) → Typed program → (class : ℕ) (base : Base) (path : Path) (f : FieldForm) → form_from program class base path ≡ Some f → IsGood program f
good program typed class Component [] f e = absent f e
good program typed class Component (j ∷ path) f e =
    good_below program typed path (form_at (shapes_of program class) j) f (λ g is. good_at program (fields program class) (of_fields (IsField program) program typed.fields class) j g is) e
good program typed class Statics [] f e = absent f e
good program typed class Statics (j ∷ path) f e = good_below program typed path (form_at (map shape_of program.statics) j) f (λ g is. good_at program program.statics typed.statics j g is) e

-- ---- the classes of objects

concrete_field : (program : Program) (all : List Field) → All (IsField program) all → (i c : ℕ) → field_class (slice_get all i) ≡ Some c → Concrete program c
concrete_field program all known i c e = go (slice_get all i) refl e
  where
    of_form : (f : FieldForm) → IsGood program f → form_class f ≡ Some c → Concrete program c
    of_form (form.Prim p) g e = absent c e
    of_form (form.Str n) g e = absent c e
    of_form (form.Buf n) g e = absent c e
    of_form (form.Array p n) g e = absent c e
    of_form (form.Object t) g e = subst (Concrete program) (same_Some t.0 c e) g

    go : (o : Option Field) → slice_get all i ≡ o → field_class o ≡ Some c → Concrete program c
    go None is e = absent c e
    go (Some f) is e = of_form f.form (good_of program f (at_place (IsField program) all i f known is)) e

concrete_object : (program : Program) → Typed program → (path : Path) (o : Option ℕ) (c : ℕ) → ((t : ℕ) → o ≡ Some t → Concrete program t) → object_class program path o ≡ Some c → Concrete program c
concrete_object program typed path None c known e = absent c e
concrete_object program typed [] (Some t) c known e = known c e
concrete_object program typed (j ∷ path) (Some t) c known e =
    concrete_object program typed path (field_class (slice_get (fields program t) j)) c
    (λ n is. concrete_field program (fields program t) (of_fields (IsField program) program typed.fields t) j n is) e

pub concrete : (program : Program) → Typed program → (class : ℕ) → Concrete program class → (base : Base) (path : Path) (c : ℕ) → class_from program class base path ≡ Some c → Concrete program c
concrete program typed class own Component path c e = concrete_object program typed path (Some class) c (λ n is. subst (Concrete program) (same_Some class n is) own) e
concrete program typed class own Statics [] c e = absent c e
concrete program typed class own Statics (j ∷ path) c e =
    concrete_object program typed path (field_class (slice_get program.statics j)) c (λ n is. concrete_field program program.statics typed.statics j n is) e

-- what is found at a class of which objects may be has a body
pub found_body : (program : Program) → Typed program → (c k n : ℕ) (y : Method) → Concrete program c → find program c (method_name program k) ≡ Some n → slice_get program.methods n ≡ Some y → y.body ≡ None → ⊥
found_body program typed c k n y known found e =
    let z : (z : Method) × (slice_get program.methods n ≡ Some z) × (z.body ≡ None → ⊥) =
    of_some (slice_get program.methods n)
    (MatchOption-at_some ⊤ (λ j. IsSomeAnd (slice_get program.methods j) (λ x. x.body ≡ None → ⊥)) n found (typed.bodies c known.0 known.1 k)) in
    subst (λ (x : Method). x.body ≡ None → ⊥) (same_Some z.0 y (sym z.1 ∙ e)) z.2
