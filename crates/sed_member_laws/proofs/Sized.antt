-- The numbers in types: sizes of texts, buffers and arrays.
use Rattle.std.proofs.Common.{◌≡◌, ◌≤◌, ◌&&◌, ℕ, Bool, true, false, nat_le, if◌then◌else◌, pos, negsuc, List, Option, Some, None, refl, arith}
use Rattle.std.specs.Option.{option_map_or}
use Rattle.std.proofs.lemmas.Bool.Decides.{nat_tests}
use Rattle.sed_value.specs.declared.slot_type.Primitive.{Primitive}
use Rattle.sed_lexer.specs.declared.numbers.Number.{Number}
use Rattle.sed_lexer.specs.declared.numbers.Number.TheVariants.{Int, Long}
use Rattle.sed_units.specs.declared.leaves.Base.{Base}
use Rattle.sed_units.specs.declared.leaves.Base.TheVariants as base
use Rattle.sed_units.specs.declared.leaves.Literal.{Literal}
use Rattle.sed_units.specs.declared.leaves.Size.{Size}
use Rattle.sed_units.specs.declared.leaves.Size.TheVariants.{Parens, Brackets}
use Rattle.sed_units.specs.declared.leaves.TypeName.{TypeName}
use Rattle.sed_units.specs.declared.leaves.TypeRef.{TypeRef}
use Rattle.sed_names.specs.Spelled.{integer_of}
use Rattle.sed_classes.specs.declared.kit_units.KitUnits.{KitUnits}
use Rattle.sed_classes.specs.declared.source_type.SourceType.{SourceType}
use Rattle.sed_classes.specs.declared.source_type.SourceType.TheVariants as type
use Rattle.sed_classes.specs.Names.{class_of_name, is_buffer_name, is_text_name}
use Rattle.sed_classes.specs.Types.{array_type, based_type, buffer_type, count_of, named_type, object_type, primitive_type, size_within, text_type, type_of, void_type, within}
use Rattle.sed_member_laws.proofs.Flat.{some_is}

abbrev pub IsSized : SourceType → Type 0
IsSized type.Void = Unit {0}
IsSized (type.Prim p) = Unit {0}
IsSized type.Text = Unit {0}
IsSized (type.SizedText n) = (1 ≤ n) × (n ≤ 255)
IsSized (type.Buf n) = (1 ≤ n) × (n ≤ 128)
IsSized (type.Array p n) = 1 ≤ n
IsSized (type.Object c) = Unit {0}
IsSized type.Unknown = Unit {0}
IsSized type.Outside = Unit {0}

within_is : (most n k : ℕ) → within most n ≡ Some k → (1 ≤ k) × (k ≤ most)
within_is most n k e = by_test (nat_le 1 n) (nat_le n most) refl refl e
  where
    by_test : (a b : Bool) → nat_le 1 n ≡ a → nat_le n most ≡ b → (if a && b then Some n else None) ≡ Some k →
        (1 ≤ k) × (k ≤ most)
    by_test true true p q g =
        let same : n ≡ k = some_is n k g in
        let low : 1 ≤ n = grind (arith, nat_tests) in
        let high : n ≤ most = grind (arith, nat_tests) in
        (omega arith, omega arith)
    by_test true false p q g = cc
    by_test false b p q g = cc

count_is : (most : ℕ) (o : Option Number) (k : ℕ) → count_of most o ≡ Some k → (1 ≤ k) × (k ≤ most)
count_is most None k e = cc
count_is most (Some (Int (pos n))) k e = within_is most n k e
count_is most (Some (Int (negsuc n))) k e = cc
count_is most (Some (Long n)) k e = cc

size_is : (most : ℕ) (l : Literal) (k : ℕ) → size_within most l ≡ Some k → (1 ≤ k) × (k ≤ most)
size_is most l k e = count_is most (integer_of l.bytes) k e

sized_array : (p : Primitive) (l : Literal) → IsSized (array_type p (size_within 65535 l))
sized_array p l = by_size (size_within 65535 l) refl
  where
    by_size : (o : Option ℕ) → size_within 65535 l ≡ o → IsSized (option_map_or (type.Array p) o type.Outside)
    by_size None e = tt
    by_size (Some n) e = (size_is 65535 l n e).0

sized_primitive : (p : Primitive) (size : Option Size) → IsSized (primitive_type p size)
sized_primitive p None = tt
sized_primitive p (Some (Brackets l)) = sized_array p l
sized_primitive p (Some (Parens l)) = tt

sized_void : (size : Option Size) → IsSized (void_type size)
sized_void None = tt
sized_void (Some s) = tt

sized_text : (size : Option Size) → IsSized (text_type size)
sized_text None = tt
sized_text (Some (Parens l)) = by_size (size_within 255 l) refl
  where
    by_size : (o : Option ℕ) → size_within 255 l ≡ o → IsSized (option_map_or type.SizedText o type.Outside)
    by_size None e = tt
    by_size (Some n) e = size_is 255 l n e
sized_text (Some (Brackets l)) = tt

sized_buffer : (size : Option Size) → IsSized (buffer_type size)
sized_buffer None = tt
sized_buffer (Some (Parens l)) = by_size (size_within 128 l) refl
  where
    by_size : (o : Option ℕ) → size_within 128 l ≡ o → IsSized (option_map_or type.Buf o type.Outside)
    by_size None e = tt
    by_size (Some n) e = size_is 128 l n e
sized_buffer (Some (Brackets l)) = tt

sized_object : (o : Option ℕ) (size : Option Size) → IsSized (object_type o size)
sized_object None size = tt
sized_object (Some c) None = tt
sized_object (Some c) (Some s) = tt

sized_named : (units : List KitUnits) (kit : ℕ) (name : TypeName) (size : Option Size) →
    IsSized (named_type units kit name size)
sized_named units kit name size = by_tests (is_text_name name) (is_buffer_name name)
  where
    by_tests : (a b : Bool) → IsSized (if a then text_type size else if b then buffer_type size
        else object_type (class_of_name units kit name) size)
    by_tests true b = sized_text size
    by_tests false true = sized_buffer size
    by_tests false false = sized_object (class_of_name units kit name) size

sized_based : (units : List KitUnits) (kit : ℕ) (b : Base) (size : Option Size) → IsSized (based_type units kit b size)
sized_based units kit (base.Primitive p) size = sized_primitive p size
sized_based units kit base.Void size = sized_void size
sized_based units kit (base.Named name) size = sized_named units kit name size

pub sized : (units : List KitUnits) (kit : ℕ) (t : TypeRef) → IsSized (type_of units kit t)
sized units kit t = sized_based units kit t.base t.size
