-- Fields that stand at offsets: what is found among them.
use Rattle.std.proofs.Common.{◌≡◌, ℕ, zero, suc, ◌+◌, ◌<◌, Bool, true, false, cond, List, [], ◌∷◌, map, Some, refl, ap, ◌∙◌, arith}
use Rattle.std.specs.Prelude.{position, slice_get}
use Rattle.std.specs.List.{enumerate_from, position_from}
use Rattle.std.specs.Option.{option_map}
use Rattle.std.proofs.lemmas.Iterator.Adapters.{position_from-zero}
use Rattle.std.proofs.lemmas.Option.{same_Some}
use Rattle.sed_value.specs.declared.slot_type.Primitive.TheVariants as prim
use Rattle.sed_typed.specs.declared.program.Field.{Field}
use Rattle.sed_typed.specs.declared.program.FieldForm.{FieldForm}
use Rattle.sed_typed.specs.declared.program.FieldForm.TheVariants as form
use Rattle.scode_code.specs.Tables.{form_of}
use Rattle.scode_gen.specs.ImageFields.{fields_placed, image_field}
use Rattle.scode_made.proofs.Places.{numbered}

-- ---- the first that passes a test

found_from : {X : Type 0} (p : X → Bool) (n i : ℕ) (xs : List X) (x : X) → slice_get xs i ≡ Some x → p x ≡ true →
    ((k : ℕ) (y : X) → k < i → slice_get xs k ≡ Some y → p y ≡ false) → position_from p n xs ≡ Some (n + i)
found_from p n i [] x at passes fails = let never : ⊥ = cc in absurd never
found_from p n zero (y ∷ ys) x at passes fails =
    let here : p y ≡ true = ap p (same_Some y x at) ∙ passes in
    ap (λ (b : Bool). cond b (Some n) (position_from p (n + 1) ys)) here ∙ ap Some (let e : n ≡ n + 0 = omega arith in e)
found_from p n (suc i) (y ∷ ys) x at passes fails =
    let here : p y ≡ false = fails 0 y (omega arith) refl in
    ap (λ (b : Bool). cond b (Some n) (position_from p (n + 1) ys)) here
    ∙ found_from p (n + 1) i ys x at passes (λ k z lt is. fails (suc k) z (omega (arith, lt)) is)
    ∙ ap Some (let e : (n + 1) + i ≡ n + suc i = omega arith in e)

pub found_first : {X : Type 0} (p : X → Bool) (i : ℕ) (xs : List X) (x : X) → slice_get xs i ≡ Some x → p x ≡ true →
    ((k : ℕ) (y : X) → k < i → slice_get xs k ≡ Some y → p y ≡ false) → position p xs ≡ Some i
found_first p i xs x at passes fails =
    position_from-zero p xs ∙ found_from p 0 i xs x at passes fails ∙ ap Some (let e : 0 + i ≡ i = omega arith in e)

-- ---- a field as it is placed

pub form_is : (offset : ℕ) (f : FieldForm) → form_of (image_field offset f) ≡ f
form_is offset (form.Prim prim.Bool) = refl
form_is offset (form.Prim prim.Byte) = refl
form_is offset (form.Prim prim.Short) = refl
form_is offset (form.Prim prim.Int) = refl
form_is offset (form.Prim prim.Long) = refl
form_is offset (form.Str n) = refl
form_is offset (form.Buf n) = refl
form_is offset (form.Object class) = refl
form_is offset (form.Array prim.Bool n) = refl
form_is offset (form.Array prim.Byte n) = refl
form_is offset (form.Array prim.Short n) = refl
form_is offset (form.Array prim.Int n) = refl
form_is offset (form.Array prim.Long n) = refl

forms_from : (offset : ℕ → ℕ) (n : ℕ) (all : List Field) →
    map form_of (map (λ (at : ℕ × Field). image_field (offset at.0) at.1.form) (enumerate_from n all)) ≡ map (λ (f : Field). f.form) all
forms_from offset n [] = refl
forms_from offset n (f ∷ fs) =
    ap (λ (x : FieldForm). x ∷ map form_of (map (λ (at : ℕ × Field). image_field (offset at.0) at.1.form) (enumerate_from (n + 1) fs))) (form_is (offset n) f.form)
    ∙ ap (λ (xs : List FieldForm). f.form ∷ xs) (forms_from offset (n + 1) fs)

pub forms_are : (offset : ℕ → ℕ) (all : List Field) → map form_of (fields_placed offset all) ≡ map (λ (f : Field). f.form) all
forms_are offset all = forms_from offset 0 all

pub placed_at : (offset : ℕ → ℕ) (i : ℕ) (all : List Field) →
    slice_get (fields_placed offset all) i ≡ option_map (λ (f : Field). image_field (offset i) f.form) (slice_get all i)
placed_at offset i all = numbered (λ (k : ℕ) (f : Field). image_field (offset k) f.form) i all
