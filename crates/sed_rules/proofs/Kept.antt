-- What a primitive keeps of a value that goes to it reads as that value.
use Rattle.std.proofs.Common.{◌≡◌, ◌<◌, ℕ, pos, negsuc, Bool, true, false, nat_lt, if◌then◌else◌, refl, sym, ap, arith}
use Rattle.std.proofs.lemmas.Bool.Decides.{nat_tests}
use Rattle.std.specs.Int.{w8, w16}
use Rattle.sed_value.specs.Wrap.{low_bits}
use Rattle.sed_value.specs.declared.slot_type.Primitive.{Primitive}
use Rattle.sed_value.specs.declared.slot_type.Primitive.TheVariants as prim
use Rattle.sed_value.specs.declared.value.Value.TheVariants as value
use Rattle.sed_classes.specs.declared.source_type.Constant.TheVariants as constant
use Rattle.sed_classes.specs.declared.source_type.SourceType.TheVariants as type
use Rattle.sed_classes.specs.Values.{read_constant}
use Rattle.sed_rules.specs.declared.plain.Plain.{Plain}
use Rattle.sed_rules.specs.declared.plain.Plain.TheVariants as plain
use Rattle.sed_rules.specs.Plains.{as_constant, read_plain}

small : (n : ℕ) → nat_lt n 256 ≡ true → low_bits w8 (pos n) ≡ n
small n e =
    let h : n < 256 = grind (arith, nat_tests) in
    omega arith

medium : (n : ℕ) → nat_lt n 65536 ≡ true → low_bits w16 (pos n) ≡ n
medium n e =
    let h : n < 65536 = grind (arith, nat_tests) in
    omega arith

pub read_is : (p : Primitive) (x : Plain) → as_constant (read_plain p x) ≡ read_constant (type.Prim p) (as_constant x)
read_is prim.Bool (plain.Bool t) = refl
read_is prim.Bool (plain.Int n) = refl
read_is prim.Bool (plain.Long n) = refl
read_is prim.Bool plain.Null = refl
read_is prim.Bool (plain.Text n) = refl
read_is prim.Bool plain.Nothing = refl
read_is prim.Bool plain.Unknown = refl
read_is prim.Byte (plain.Bool t) = refl
read_is prim.Byte (plain.Int (pos n)) = by_test (nat_lt n 256) refl
  where
    by_test : (b : Bool) → nat_lt n 256 ≡ b →
        as_constant (if b then plain.Int (pos n) else plain.Unknown)
        ≡ (if b then constant.Number (value.Int (pos (low_bits w8 (pos n)))) else constant.Unknown)
    by_test true e = ap (λ k. constant.Number (value.Int (pos k))) (sym (small n e))
    by_test false e = refl
read_is prim.Byte (plain.Int (negsuc n)) = refl
read_is prim.Byte (plain.Long n) = refl
read_is prim.Byte plain.Null = refl
read_is prim.Byte (plain.Text n) = refl
read_is prim.Byte plain.Nothing = refl
read_is prim.Byte plain.Unknown = refl
read_is prim.Short (plain.Bool t) = refl
read_is prim.Short (plain.Int (pos n)) = by_test (nat_lt n 65536) refl
  where
    by_test : (b : Bool) → nat_lt n 65536 ≡ b →
        as_constant (if b then plain.Int (pos n) else plain.Unknown)
        ≡ (if b then constant.Number (value.Int (pos (low_bits w16 (pos n)))) else constant.Unknown)
    by_test true e = ap (λ k. constant.Number (value.Int (pos k))) (sym (medium n e))
    by_test false e = refl
read_is prim.Short (plain.Int (negsuc n)) = refl
read_is prim.Short (plain.Long n) = refl
read_is prim.Short plain.Null = refl
read_is prim.Short (plain.Text n) = refl
read_is prim.Short plain.Nothing = refl
read_is prim.Short plain.Unknown = refl
read_is prim.Int (plain.Bool t) = refl
read_is prim.Int (plain.Int n) = refl
read_is prim.Int (plain.Long n) = refl
read_is prim.Int plain.Null = refl
read_is prim.Int (plain.Text n) = refl
read_is prim.Int plain.Nothing = refl
read_is prim.Int plain.Unknown = refl
read_is prim.Long (plain.Bool t) = refl
read_is prim.Long (plain.Int n) = refl
read_is prim.Long (plain.Long n) = refl
read_is prim.Long plain.Null = refl
read_is prim.Long (plain.Text n) = refl
read_is prim.Long plain.Nothing = refl
read_is prim.Long plain.Unknown = refl
