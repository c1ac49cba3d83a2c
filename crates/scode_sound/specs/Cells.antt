-- Cells of a kind, as a machine that never goes wrong has them.
use Rattle.std.specs.Prelude.{◌≡◌, ◌<◌, ◌≤◌, nat_le, ℕ, true, false, IsTrue, List, [], ◌∷◌, map, length, slice_get}
use Rattle.std.specs.Prelude.{Option, Some}
use Rattle.std.specs.Int.{w32, w64}
use Rattle.sed_value.specs.Value.{is_signed}
use Rattle.sed_typed.specs.declared.program.FieldForm.{FieldForm}
use Rattle.sed_typed.specs.declared.program.FieldForm.TheVariants as form
use Rattle.sed_typed.specs.Contents.{Path, Shape}
use Rattle.sed_typed.specs.Objects.{object_in, static_object_in}
use Rattle.sed_engine.specs.Fits.{form_of as form_in}
use Rattle.sed_engine.specs.Values.{Val, Nothing, Truth, Int, Long, Null, At, Literal, Base, Component, Statics, Spot}
use Rattle.scode_image.specs.declared.image.Image.{Image}
use Rattle.scode_image.specs.declared.image.ImageClass.{ImageClass}
use Rattle.scode_image.specs.declared.image.ImageKind.{ImageKind}
use Rattle.scode_code.specs.Fields.{Setting}
use Rattle.scode_code.specs.Kinds.{is_at_or_above}
use Rattle.scode_code.specs.TableRules.{is_abstract_class}
use Rattle.scode_code.specs.Tables.{class_fields, form_of, shape_of}

-- a class of which objects may be
pub record Concrete (image : Image) (class : ℕ) : Type 0 where
  pub info : ImageClass
  pub stands : slice_get image.classes class ≡ Some info
  pub concrete : is_abstract_class info ≡ false

-- ---- what stands at a place

abbrev pub shapes_of : Image → ℕ → List Shape
shapes_of image class = map shape_of (class_fields image class)

-- the form at a place, in a root call on a component of this class
abbrev pub form_from : Setting → Base → Path → Option FieldForm
form_from w Component path = form_in (shapes_of w.image) (shapes_of w.image w.class) path
form_from w Statics path = form_in (shapes_of w.image) (map shape_of w.image.static_fields) path

-- the class of the object at a place
abbrev pub class_from : Setting → Base → Path → Option ℕ
class_from w Component path = object_in form_of (class_fields w.image) path (Some w.class)
class_from w Statics path = static_object_in form_of (class_fields w.image) w.image.static_fields path

-- ---- cells

-- what a reference of a kind leads to: a Str, the static block, or an object of the kind's class or of one below it
pub data LeadsTo (w : Setting) (k : ImageKind) (spot : Spot) : Type 0 where
  Text : k.kind ≡ 4 → (n : ℕ) → form_from w spot.base spot.path ≡ Some (form.Str n) → LeadsTo w k spot
  Block : k.kind ≡ 6 → k.class ≡ 0xffff → spot ≡ record { base = Statics; path = [] } → LeadsTo w k spot
  Object : k.kind ≡ 6 → (at : ℕ) → class_from w spot.base spot.path ≡ Some at → Concrete w.image at
      → IsTrue (is_at_or_above w.image k.class at) → LeadsTo w k spot

-- a cell is of a kind; null is of all kinds of references
abbrev pub HasKind : Setting → ImageKind → Val → Type 0
HasKind w k Nothing = ⊥
HasKind w k (Truth t) = (k.kind ≡ 1) × (nat_le t 2 ≡ true)
HasKind w k (Int n) = (k.kind ≡ 2) × (is_signed w32 n ≡ true)
HasKind w k (Long n) = (k.kind ≡ 3) × (is_signed w64 n ≡ true)
HasKind w k Null = (4 ≤ k.kind) × (k.kind ≤ 6)
HasKind w k (At spot) = LeadsTo w k spot
HasKind w k (Literal n) = (k.kind ≡ 4) × (n < length w.image.texts)

-- cells one by one
abbrev pub Fit : Setting → List ImageKind → List Val → Type 0
Fit w [] [] = Unit {0}
Fit w [] (v ∷ vs) = ⊥
Fit w (k ∷ ks) [] = ⊥
Fit w (k ∷ ks) (v ∷ vs) = HasKind w k v × Fit w ks vs
