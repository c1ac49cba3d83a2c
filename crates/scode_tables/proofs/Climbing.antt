-- Going up from a class to its base.
use Rattle.std.proofs.Common.{◌≡◌, ℕ, zero, suc, ◌+◌, ◌-◌, ◌==◌, ◌&&◌, ◌<◌, ◌≤◌, Bool, true, false, length, refl, ap, sym, ◌∙◌, arith, Option, Some, None}
use Rattle.std.specs.List.{list_any}
use Rattle.std.specs.Option.{option_and_then}
use Rattle.std.proofs.lemmas.Bool.{eq-eqb, ne_eqb}
use Rattle.std.proofs.lemmas.List.{length-map}
use Rattle.sed_typed.specs.Classes.{base_of, reached}
use Rattle.sed_typed.specs.Schemas.{numbered, type_at}
use Rattle.scode_image.specs.declared.image.Image.{Image}
use Rattle.scode_code.specs.Kinds.{is_at_or_above}
use Rattle.scode_code.specs.Tables.{class_of, schema_of}
use Rattle.scode_tables.specs.Words.{place_of_type}
use Rattle.scode_tables.proofs.Rows.{position_map}

-- the first class of a number in a kit stands at the same place among classes as in the schema
pub type_at_is : (image : Image) (kit number : ℕ)
    → type_at (schema_of image).classes kit number ≡ option_and_then numbered (place_of_type image kit number)
type_at_is image kit number =
    ap (λ (o : Option ℕ). option_and_then numbered o) (position_map _ (λ c. (c.kit == kit) && (c.number == number)) image.classes)

-- whether a class is met within so many steps up from one
abbrev pub met : Image → ℕ → ℕ → ℕ → Bool
met image above steps at = list_any (λ c. c == above) (reached (base_of (schema_of image).classes) steps (Some at))

-- what is met where the base is known, or there is none
abbrev met_from : Image → ℕ → ℕ → Option ℕ → Bool
met_from image above steps base = list_any (λ c. c == above) (reached (base_of (schema_of image).classes) steps base)

pub begins : (image : Image) (above class : ℕ)
    → met image above (length image.classes - 0) class ≡ is_at_or_above image above class
begins image above class =
    let all : length image.classes - 0 ≡ length (schema_of image).classes = omega (arith, sym (length-map image.classes class_of)) in
    ap (λ (n : ℕ). met image above n class) all

stays : (image : Image) (above steps at : ℕ) → (at ≡ above → ⊥)
    → met image above (suc steps) at ≡ met_from image above steps (base_of (schema_of image).classes at)
stays image above steps at other = rw (ne_eqb at above other) refl

pub found : (image : Image) (above n i at : ℕ) → i < n → at ≡ above → met image above (n - i) at ≡ true
found image above n i at within same =
    let more : n - i ≡ suc (n - (i + 1)) = omega arith in
    rw (more, eq-eqb at above same) refl

pub goes_up : (image : Image) (above n i at base : ℕ) → i < n → (at ≡ above → ⊥)
    → base_of (schema_of image).classes at ≡ Some base → met image above (n - i) at ≡ met image above (n - (i + 1)) base
goes_up image above n i at base within other is =
    let more : n - i ≡ suc (n - (i + 1)) = omega arith in
    ap (λ (k : ℕ). met image above k at) more ∙ stays image above (n - (i + 1)) at other
    ∙ ap (λ (o : Option ℕ). met_from image above (n - (i + 1)) o) is

none_met : (image : Image) (above steps : ℕ) → met_from image above steps None ≡ false
none_met image above zero = refl
none_met image above (suc steps) = refl

pub ends : (image : Image) (above n i at : ℕ) → i < n → (at ≡ above → ⊥)
    → base_of (schema_of image).classes at ≡ None → met image above (n - i) at ≡ false
ends image above n i at within other is =
    let more : n - i ≡ suc (n - (i + 1)) = omega arith in
    ap (λ (k : ℕ). met image above k at) more ∙ stays image above (n - (i + 1)) at other
    ∙ ap (λ (o : Option ℕ). met_from image above (n - (i + 1)) o) is ∙ none_met image above (n - (i + 1))

pub over : (image : Image) (above n i at : ℕ) → n ≤ i → met image above (n - i) at ≡ false
over image above n i at past =
    let none : n - i ≡ 0 = omega arith in
    ap (λ (k : ℕ). met image above k at) none
