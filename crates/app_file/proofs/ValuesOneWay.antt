-- Values of slots one behind another: of two rows of values of the same slots in front of the same bytes both are one.
use Rattle.std.proofs.Common.{◌≡◌, ℕ, ◌<◌, ◌≤◌, ℤ, IsTrue, List, [], ◌∷◌, ◌++◌, length, FitsSigned, refl, sym, subst, ◌∙◌, ap, arith}
use Rattle.std.specs.Prelude.{Option, Some}
use Rattle.std.specs.Int.{w32, w64, bytes_high_first, cast_signed, cast_unsigned, from_be_bytes}
use Rattle.std.proofs.lemmas.Bool.Decides.{nat_tests}
use Rattle.std.proofs.lemmas.Nat.{from_be_bytes-to_be_bytes_8}
use Rattle.std.proofs.lemmas.Int.{to_z-of_z}
use Rattle.std.proofs.Math.Facts.{Fits-of_z}
use Rattle.sed_value.specs.declared.slot_type.Primitive.TheVariants.{Bool as BoolType, Byte as ByteType, Short as ShortType, Int as IntType, Long as LongType}
use Rattle.sed_value.specs.declared.slot_type.SlotType.{SlotType}
use Rattle.sed_value.specs.declared.slot_type.SlotType.TheVariants.{Prim as PrimSlot, Buf as BufSlot}
use Rattle.sed_value.specs.declared.value.Value.{Value}
use Rattle.sed_value.specs.declared.value.Value.TheVariants.{Bool as Truth, Byte, Short, Int, Long, Buf}
use Rattle.sed_value.specs.Value.{is_of_type}
use Rattle.sed_wire.specs.Spelling.{can_be_held}
use Rattle.sed_engine.specs.Code.{Meaning, slot_type}
use Rattle.comp_tree.specs.Parts.{u2}
use Rattle.comp_tree.specs.Values.{spelling_of, spelling_of_all}
use Rattle.app_file.proofs.OneWay.{Fronts, fronts-int, fronts-u1, fronts-u2, peel, same_front}

-- the values of a type, form by form
data OfType : SlotType → Value → Type 0 where
  of_bool : (truth : ℕ) → truth ≤ 2 → OfType (PrimSlot BoolType) (Truth truth)
  of_byte : (number : ℕ) → number < 256 → OfType (PrimSlot ByteType) (Byte number)
  of_short : (number : ℕ) → number < 65536 → OfType (PrimSlot ShortType) (Short number)
  of_int : (number : ℤ) → FitsSigned w32 number → OfType (PrimSlot IntType) (Int number)
  of_long : (number : ℤ) → FitsSigned w64 number → OfType (PrimSlot LongType) (Long number)
  of_buf : (most : ℕ) (contents : List ℕ) → length contents ≤ most → OfType (BufSlot most) (Buf contents)

of_type : (t : SlotType) (v : Value) → IsTrue (is_of_type t v) → OfType t v
of_type (PrimSlot BoolType) (Truth x) is = of_bool x (grind (arith, nat_tests))
of_type (PrimSlot ByteType) (Byte x) is = of_byte x (grind (arith, nat_tests))
of_type (PrimSlot ShortType) (Short x) is = of_short x (grind (arith, nat_tests))
of_type (PrimSlot IntType) (Int x) is = of_int x (record { sfits = grind (arith, nat_tests) })
of_type (PrimSlot LongType) (Long x) is = of_long x (record { sfits = grind (arith, nat_tests) })
of_type (BufSlot most) (Buf x) is = of_buf most x (grind (arith, nat_tests))
of_type t v is = cc

fronts-long : Fronts (FitsSigned w64) (λ z. bytes_high_first 8 (cast_unsigned w64 z))
fronts-long a b x y fits_a fits_b e =
    let parts = same_front (bytes_high_first 8 (cast_unsigned w64 a)) (bytes_high_first 8 (cast_unsigned w64 b)) x y refl e in
    let same : cast_unsigned w64 a ≡ cast_unsigned w64 b =
    sym (from_be_bytes-to_be_bytes_8 _ (Fits-of_z fits_a).fits) ∙ ap (from_be_bytes w64) parts.0 ∙ from_be_bytes-to_be_bytes_8 _ (Fits-of_z fits_b).fits in
    (sym (to_z-of_z w64 a fits_a) ∙ ap (cast_signed w64) same ∙ to_z-of_z w64 b fits_b, parts.1)

fronts-by-form : (t : SlotType) (v w : Value) (x y : List ℕ) → IsTrue (can_be_held t) → OfType t v → OfType t w
    → spelling_of v ++ x ≡ spelling_of w ++ y → (v ≡ w) × (x ≡ y)
fronts-by-form t v w x y held (of_bool a p) (of_bool b q) e = let parts = fronts-u1 a b x y (omega arith) (omega arith) e in (ap Truth parts.0, parts.1)
fronts-by-form t v w x y held (of_byte a p) (of_byte b q) e = let parts = fronts-u1 a b x y p q e in (ap Byte parts.0, parts.1)
fronts-by-form t v w x y held (of_short a p) (of_short b q) e = let parts = fronts-u2 a b x y p q e in (ap Short parts.0, parts.1)
fronts-by-form t v w x y held (of_int a p) (of_int b q) e = let parts = fronts-int a b x y p q e in (ap Int parts.0, parts.1)
fronts-by-form t v w x y held (of_long a p) (of_long b q) e = let parts = fronts-long a b x y p q e in (ap Long parts.0, parts.1)
fronts-by-form t v w x y held (of_buf most a p) (of_buf limit b q) e =
    let few : most ≤ 128 = grind (arith, nat_tests) in
    let counts = peel (λ n. n < 65536) u2 fronts-u2 (length a) (length b) a b x y (omega arith) (omega arith) e in
    let parts = same_front a b x y counts.0 counts.1 in
    (ap Buf parts.0, parts.1)

-- a value that a slot of this class holds
pub record IsTyped (m : Meaning) (class slot : ℕ) (v : Value) : Type 0 where
  pub type : SlotType
  pub is : slot_type m class slot ≡ Some type
  pub held : IsTrue (can_be_held type)
  pub of : IsTrue (is_of_type type v)

fronts-typed : (m : Meaning) (class slot : ℕ) → Fronts (IsTyped m class slot) spelling_of
fronts-typed m class slot v w x y is_v is_w e =
    let same : is_w.type ≡ is_v.type = let both : ◌≡◌ {A = Option SlotType} (Some is_w.type) (Some is_v.type) = sym is_w.is ∙ is_v.is in cc in
    fronts-by-form is_v.type v w x y is_v.held (of_type is_v.type v is_v.of) (of_type is_v.type w (subst (λ t. IsTrue (is_of_type t w)) same is_w.of)) e

abbrev pub AreTyped : Meaning → ℕ → List ℕ → List Value → Type 0
AreTyped m class [] [] = Unit {0}
AreTyped m class (slot ∷ slots) (v ∷ vs) = IsTyped m class slot v × AreTyped m class slots vs
AreTyped m class slots vs = ⊥

pub fronts-values : (m : Meaning) (class : ℕ) (slots : List ℕ) → Fronts (AreTyped m class slots) spelling_of_all
fronts-values m class [] [] [] x y is_v is_w e = (refl, e)
fronts-values m class [] [] (w ∷ ws) x y is_v is_w e = absurd is_w
fronts-values m class [] (v ∷ vs) ws x y is_v is_w e = absurd is_v
fronts-values m class (slot ∷ slots) [] ws x y is_v is_w e = absurd is_v
fronts-values m class (slot ∷ slots) (v ∷ vs) [] x y is_v is_w e = absurd is_w
fronts-values m class (slot ∷ slots) (v ∷ vs) (w ∷ ws) x y is_v is_w e =
    let here = peel (IsTyped m class slot) spelling_of (fronts-typed m class slot) v w (spelling_of_all vs) (spelling_of_all ws) x y is_v.0 is_w.0 e in
    let rest = fronts-values m class slots vs ws x y is_v.1 is_w.1 here.1 in
    (λ i. here.0 i ∷ rest.0 i, rest.1)
