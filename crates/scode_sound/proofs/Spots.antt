-- What stands at a place of an image's component and statics.
use Rattle.std.proofs.Common.{◌≡◌, ℕ, Bool, true, false, if◌then◌else◌, nat_lt, List, [], ◌∷◌, ◌++◌, map, Option, Some, None, refl, sym, ap, subst, ◌∙◌}
use Rattle.std.specs.Prelude.{slice_get}
use Rattle.std.specs.Option.{option_map}
use Rattle.std.proofs.lemmas.Option.{slice_get-map}
use Rattle.sed_typed.specs.declared.program.FieldForm.{FieldForm}
use Rattle.sed_typed.specs.declared.program.FieldForm.TheVariants as form
use Rattle.sed_typed.specs.Contents.{Path, Shape}
use Rattle.sed_typed.specs.Objects.{class_in, form_class, object_in}
use Rattle.sed_engine.specs.Fits.{form_at, form_below, form_of as form_in, part_of}
use Rattle.sed_engine.specs.Values.{Base, Component, Statics}
use Rattle.scode_image.specs.declared.image.Image.{Image}
use Rattle.scode_image.specs.declared.image.ImageField.{ImageField}
use Rattle.scode_code.specs.Fields.{Setting}
use Rattle.scode_code.specs.Tables.{class_fields, form_of, shape_of}
use Rattle.scode_whole.proofs.Truths.{no_value, same_value}
use Rattle.scode_sound.specs.Cells.{class_from, form_from, shapes_of}
use Rattle.scode_sound.proofs.Rules.{IsGood, Tables, class_good, static_good}

-- the form of a field by its number
pub form_at_is : (all : List ImageField) (i : ℕ) → form_at (map shape_of all) i ≡ option_map form_of (slice_get all i)
form_at_is all i =
    ap (option_map (λ (s : Shape). s.form)) (slice_get-map shape_of all i) ∙ again (slice_get all i)
  where
    again : (o : Option ImageField)
        → option_map (λ (s : Shape). s.form) (option_map shape_of o) ≡ option_map form_of o
    again None = refl
    again (Some f) = refl

below_nothing : (F : ℕ → List Shape) (o : Option FieldForm) → form_below F [] o ≡ o
below_nothing F None = refl
below_nothing F (Some f) = refl

class_nothing : (image : Image) (o : Option ℕ) → object_in form_of (class_fields image) [] o ≡ o
class_nothing image None = refl
class_nothing image (Some c) = refl

-- ---- one step further

below_further : (F : ℕ → List Shape) (path : Path) (i : ℕ) (o : Option FieldForm) (f : FieldForm)
    → form_below F path o ≡ Some f → form_below F (path ++ i ∷ []) o ≡ part_of F f i
below_further F path i None f e = no_value f e
below_further F [] i (Some g) f e =
    below_nothing F (part_of F g i) ∙ ap (λ (h : FieldForm). part_of F h i) (same_value g f e)
below_further F (j ∷ path) i (Some g) f e = below_further F path i (part_of F g j) f e

pub form_further : (w : Setting) (base : Base) (path : Path) (i : ℕ) (f : FieldForm) → form_from w base path ≡ Some f
    → form_from w base (path ++ i ∷ []) ≡ part_of (shapes_of w.image) f i
form_further w Component [] i f e = no_value f e
form_further w Component (j ∷ path) i f e =
    below_further (shapes_of w.image) path i (form_at (shapes_of w.image w.class) j) f e
form_further w Statics [] i f e = no_value f e
form_further w Statics (j ∷ path) i f e =
    below_further (shapes_of w.image) path i (form_at (map shape_of w.image.static_fields) j) f e

object_further : (image : Image) (path : Path) (i : ℕ) (o : Option ℕ) (c : ℕ)
    → object_in form_of (class_fields image) path o ≡ Some c
    → object_in form_of (class_fields image) (path ++ i ∷ []) o
    ≡ class_in form_of (slice_get (class_fields image c) i)
object_further image path i None c e = no_value c e
object_further image [] i (Some t) c e =
    class_nothing image (class_in form_of (slice_get (class_fields image t) i))
    ∙ ap (λ (n : ℕ). class_in form_of (slice_get (class_fields image n) i)) (same_value t c e)
object_further image (j ∷ path) i (Some t) c e =
    object_further image path i (class_in form_of (slice_get (class_fields image t) j)) c e

pub class_further : (w : Setting) (base : Base) (path : Path) (i c : ℕ) → class_from w base path ≡ Some c
    → class_from w base (path ++ i ∷ []) ≡ class_in form_of (slice_get (class_fields w.image c) i)
class_further w Component path i c e = object_further w.image path i (Some w.class) c e
class_further w Statics [] i c e = no_value c e
class_further w Statics (j ∷ path) i c e =
    object_further w.image path i (class_in form_of (slice_get w.image.static_fields j)) c e

-- where an object stands, its fields are those of its class
object_form : (F : ℕ → List Shape) (path : Path) (i : ℕ) (t : _)
    → form_below F (path ++ i ∷ []) (Some (form.Object t)) ≡ form_in F (F t.0) (path ++ i ∷ [])
object_form F [] i t = refl
object_form F (j ∷ path) i t = refl

form_in_field : (image : Image) (path : Path) (i c : ℕ) (o : Option ImageField)
    → object_in form_of (class_fields image) path (class_in form_of o) ≡ Some c
    → ((t : ℕ) → object_in form_of (class_fields image) path (Some t) ≡ Some c
    → form_in (shapes_of image) (shapes_of image t) (path ++ i ∷ []) ≡ form_at (shapes_of image c) i)
    → form_below (shapes_of image) (path ++ i ∷ []) (option_map form_of o) ≡ form_at (shapes_of image c) i
form_in_field image path i c None e again = no_value c e
form_in_field image path i c (Some f) e again = go (form_of f) e
  where
    go : (g : FieldForm) → object_in form_of (class_fields image) path (form_class g) ≡ Some c
        → form_below (shapes_of image) (path ++ i ∷ []) (Some g) ≡ form_at (shapes_of image c) i
    go (form.Prim p) e = no_value c e
    go (form.Str n) e = no_value c e
    go (form.Buf n) e = no_value c e
    go (form.Array p n) e = no_value c e
    go (form.Object t) e = object_form (shapes_of image) path i t ∙ again t.0 e

form_in_class : (image : Image) (path : Path) (i t c : ℕ)
    → object_in form_of (class_fields image) path (Some t) ≡ Some c
    → form_in (shapes_of image) (shapes_of image t) (path ++ i ∷ []) ≡ form_at (shapes_of image c) i
form_in_class image [] i t c e =
    below_nothing (shapes_of image) (form_at (shapes_of image t) i)
    ∙ ap (λ (n : ℕ). form_at (shapes_of image n) i) (same_value t c e)
form_in_class image (j ∷ path) i t c e =
    ap (form_below (shapes_of image) (path ++ i ∷ [])) (form_at_is (class_fields image t) j)
    ∙ form_in_field image path i c (slice_get (class_fields image t) j) e
    (λ n again. form_in_class image path i n c again)

pub form_in_object : (w : Setting) (base : Base) (path : Path) (i c : ℕ) → class_from w base path ≡ Some c
    → form_from w base (path ++ i ∷ []) ≡ form_at (shapes_of w.image c) i
form_in_object w Component path i c e = form_in_class w.image path i w.class c e
form_in_object w Statics [] i c e = no_value c e
form_in_object w Statics (j ∷ path) i c e =
    ap (form_below (shapes_of w.image) (path ++ i ∷ [])) (form_at_is w.image.static_fields j)
    ∙ form_in_field w.image path i c (slice_get w.image.static_fields j) e
    (λ n again. form_in_class w.image path i n c again)

-- a static field
pub static_form : (w : Setting) (i : ℕ) (f : ImageField) → slice_get w.image.static_fields i ≡ Some f
    → form_from w Statics (i ∷ []) ≡ Some (form_of f)
static_form w i f e =
    below_nothing (shapes_of w.image) (form_at (map shape_of w.image.static_fields) i)
    ∙ form_at_is w.image.static_fields i ∙ ap (option_map form_of) e

pub static_class : (w : Setting) (i : ℕ) (f : ImageField) → slice_get w.image.static_fields i ≡ Some f
    → class_from w Statics (i ∷ []) ≡ form_class (form_of f)
static_class w i f e =
    class_nothing w.image (class_in form_of (slice_get w.image.static_fields i)) ∙ ap (class_in form_of) e

-- ---- what the rules say of each form

good_at : (image : Image) (all : List ImageField)
    → ((i : ℕ) (f : ImageField) → slice_get all i ≡ Some f → IsGood image (form_of f))
    → (i : ℕ) (f : FieldForm) → form_at (map shape_of all) i ≡ Some f → IsGood image f
good_at image all known i f e = go (slice_get all i) refl (sym (form_at_is all i) ∙ e)
  where
    go : (o : Option ImageField) → slice_get all i ≡ o → option_map form_of o ≡ Some f → IsGood image f
    go None is e = no_value f e
    go (Some x) is e = subst (IsGood image) (same_value (form_of x) f e) (known i x is)

good_part : (image : Image) → Tables image → (g f : FieldForm) (i : ℕ) → part_of (shapes_of image) g i ≡ Some f
    → IsGood image f
good_part image is (form.Prim p) f i e = no_value f e
good_part image is (form.Str n) f i e = no_value f e
good_part image is (form.Buf n) f i e = no_value f e
good_part image is (form.Array p n) f i e = go (nat_lt i n) e
  where
    go : (b : Bool) → (if b then Some (form.Prim p) else None) ≡ Some f → IsGood image f
    go true e = subst (IsGood image) (same_value (form.Prim p) f e) tt
    go false e = no_value f e
good_part image is (form.Object t) f i e = good_at image (class_fields image t.0) (class_good image is t.0) i f e

good_below : (image : Image) → Tables image → (path : Path) (o : Option FieldForm) (f : FieldForm)
    → ((g : FieldForm) → o ≡ Some g → IsGood image g) → form_below (shapes_of image) path o ≡ Some f
    → IsGood image f
good_below image is path None f good e = no_value f e
good_below image is [] (Some g) f good e = good f e
good_below image is (j ∷ path) (Some g) f good e =
    good_below image is path (part_of (shapes_of image) g j) f (λ h at. good_part image is g h j at) e

pub good : (w : Setting) → Tables w.image → (base : Base) (path : Path) (f : FieldForm)
    → form_from w base path ≡ Some f → IsGood w.image f
good w is Component [] f e = no_value f e
good w is Component (j ∷ path) f e =
    good_below w.image is path (form_at (shapes_of w.image w.class) j) f
    (λ g at. good_at w.image (class_fields w.image w.class) (class_good w.image is w.class) j g at) e
good w is Statics [] f e = no_value f e
good w is Statics (j ∷ path) f e =
    good_below w.image is path (form_at (map shape_of w.image.static_fields) j) f
    (λ g at. good_at w.image w.image.static_fields (static_good w.image is) j g at) e
