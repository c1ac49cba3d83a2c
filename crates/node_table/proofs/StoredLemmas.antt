-- What a slot keeps of a value of its type, and contents after a value is put at a path.
use Rattle.std.proofs.Common.{◌≡◌, ℕ, ◌<◌, Bool, true, false, IsTrue, pos, [], ◌∷◌, refl, sym, ◌∙◌, ap, arith}
use Rattle.std.specs.Prelude.{Some, nat_lt, if◌then◌else◌}
use Rattle.std.specs.Option.{option_map}
use Rattle.std.specs.Str.{bytes_eq}
use Rattle.std.specs.Int.{w8, w16}
use Rattle.std.proofs.lemmas.Bool.Decides.{nat_tests}
use Rattle.std.proofs.lemmas.Slice.Eq.{bytes_eq-Decides}
use Rattle.sed_value.specs.declared.slot_type.Primitive.TheVariants.{Bool as BoolType, Byte as ByteType, Short as ShortType, Int as IntType, Long as LongType}
use Rattle.sed_value.specs.declared.slot_type.SlotType.{SlotType}
use Rattle.sed_value.specs.declared.slot_type.SlotType.TheVariants.{Prim as PrimSlot, Buf as BufSlot}
use Rattle.sed_value.specs.declared.value.Value.{Value}
use Rattle.sed_value.specs.declared.value.Value.TheVariants.{Bool as Truth, Byte, Short, Int, Long, Buf, Nothing}
use Rattle.sed_value.specs.Value.{is_of_type, stored}
use Rattle.sed_value.specs.Wrap.{low_bits}
use Rattle.sed_typed.specs.Contents.{Contents, Path, value_at, with_value}
pub use Rattle.sed_engine.proofs.KeptSlots.{kept_at}

-- ---- a slot keeps a value of its type as it is

byte_stays : (n : ℕ) → nat_lt n 256 ≡ true → low_bits w8 (pos n) ≡ n
byte_stays n few =
    let lt : n < 256 = grind (arith, nat_tests) in
    omega arith

short_stays : (n : ℕ) → nat_lt n 65536 ≡ true → low_bits w16 (pos n) ≡ n
short_stays n few =
    let lt : n < 65536 = grind (arith, nat_tests) in
    omega arith

pub never : {A : Type 0} → IsTrue false → A
never h = absurd (let no : false ≡ true = h in cc)

pub stored_stays : (t : SlotType) (v : Value) → IsTrue (is_of_type t v) → stored t v ≡ v
stored_stays (PrimSlot BoolType) (Truth n) is = refl
stored_stays (PrimSlot BoolType) (Byte n) is = never is
stored_stays (PrimSlot BoolType) (Short n) is = never is
stored_stays (PrimSlot BoolType) (Int n) is = never is
stored_stays (PrimSlot BoolType) (Long n) is = never is
stored_stays (PrimSlot BoolType) (Buf bytes) is = never is
stored_stays (PrimSlot BoolType) Nothing is = never is
stored_stays (PrimSlot ByteType) (Truth n) is = never is
stored_stays (PrimSlot ByteType) (Byte n) is = ap Byte (byte_stays n is)
stored_stays (PrimSlot ByteType) (Short n) is = never is
stored_stays (PrimSlot ByteType) (Int n) is = never is
stored_stays (PrimSlot ByteType) (Long n) is = never is
stored_stays (PrimSlot ByteType) (Buf bytes) is = never is
stored_stays (PrimSlot ByteType) Nothing is = never is
stored_stays (PrimSlot ShortType) (Truth n) is = never is
stored_stays (PrimSlot ShortType) (Byte n) is = never is
stored_stays (PrimSlot ShortType) (Short n) is = ap Short (short_stays n is)
stored_stays (PrimSlot ShortType) (Int n) is = never is
stored_stays (PrimSlot ShortType) (Long n) is = never is
stored_stays (PrimSlot ShortType) (Buf bytes) is = never is
stored_stays (PrimSlot ShortType) Nothing is = never is
stored_stays (PrimSlot IntType) (Truth n) is = never is
stored_stays (PrimSlot IntType) (Byte n) is = never is
stored_stays (PrimSlot IntType) (Short n) is = never is
stored_stays (PrimSlot IntType) (Int n) is = refl
stored_stays (PrimSlot IntType) (Long n) is = never is
stored_stays (PrimSlot IntType) (Buf bytes) is = never is
stored_stays (PrimSlot IntType) Nothing is = never is
stored_stays (PrimSlot LongType) (Truth n) is = never is
stored_stays (PrimSlot LongType) (Byte n) is = never is
stored_stays (PrimSlot LongType) (Short n) is = never is
stored_stays (PrimSlot LongType) (Int n) is = never is
stored_stays (PrimSlot LongType) (Long n) is = refl
stored_stays (PrimSlot LongType) (Buf bytes) is = never is
stored_stays (PrimSlot LongType) Nothing is = never is
stored_stays (BufSlot most) (Truth n) is = never is
stored_stays (BufSlot most) (Byte n) is = never is
stored_stays (BufSlot most) (Short n) is = never is
stored_stays (BufSlot most) (Int n) is = never is
stored_stays (BufSlot most) (Long n) is = never is
stored_stays (BufSlot most) (Buf bytes) is = refl
stored_stays (BufSlot most) Nothing is = never is

-- ---- a value at a path

module _ (p : Path) (v : Value) where
  pub there_written : (es : Contents) → value_at (with_value es p v) p ≡ option_map (λ _. v) (value_at es p)
  there_written [] = refl
  there_written (e ∷ es) = by_test (bytes_eq e.0 p) (there_written es)
    where
      by_test : (b : Bool) → value_at (with_value es p v) p ≡ option_map (λ _. v) (value_at es p)
          → (if b then Some (if b then v else e.1) else value_at (with_value es p v) p) ≡ option_map (λ _. v) (if b then Some e.1 else value_at es p)
      by_test true rest = refl
      by_test false rest = rest

  pub beside_written : (q : Path) → bytes_eq p q ≡ false → (es : Contents) → value_at (with_value es p v) q ≡ value_at es q
  beside_written q other [] = refl
  beside_written q other (e ∷ es) = by_test (bytes_eq e.0 q) refl (bytes_eq e.0 p) refl (beside_written q other es)
    where
      by_test : (b : Bool) → bytes_eq e.0 q ≡ b → (c : Bool) → bytes_eq e.0 p ≡ c → value_at (with_value es p v) q ≡ value_at es q
          → (if b then Some (if c then v else e.1) else value_at (with_value es p v) q) ≡ (if b then Some e.1 else value_at es q)
      by_test false at c is rest = rest
      by_test true at false is rest = refl
      by_test true at true is rest =
          let same : p ≡ q = sym ((bytes_eq-Decides e.0 p).0 is) ∙ (bytes_eq-Decides e.0 q).0 at in
          let yes : bytes_eq p q ≡ true = (bytes_eq-Decides p q).1 same in
          absurd (let no : false ≡ true = sym other ∙ yes in cc)
