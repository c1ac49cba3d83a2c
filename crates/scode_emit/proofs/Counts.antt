-- How many bytes instructions have.
use Rattle.std.proofs.Common.{◌≡◌, ℕ, ◌+◌, Bool, true, false, if◌then◌else◌, List, [], ◌∷◌, ◌++◌, length, refl, arith, length-append}
use Rattle.sed_value.specs.declared.slot_type.Primitive.{Primitive}
use Rattle.sed_value.specs.declared.slot_type.Primitive.TheVariants as prim
use Rattle.sed_typed.specs.declared.kind.Kind.{Kind}
use Rattle.sed_typed.specs.declared.kind.Kind.TheVariants as kind
use Rattle.sed_typed.specs.declared.operators.Arithmetic.{Arithmetic}
use Rattle.sed_typed.specs.declared.operators.Arithmetic.TheVariants as arithmetic
use Rattle.sed_typed.specs.declared.operators.Binary.{Binary}
use Rattle.sed_typed.specs.declared.operators.Binary.TheVariants as binary
use Rattle.sed_typed.specs.declared.operators.Comparison.{Comparison}
use Rattle.sed_typed.specs.declared.operators.Comparison.TheVariants as comparison
use Rattle.sed_typed.specs.declared.operators.Gives.{Gives}
use Rattle.sed_typed.specs.declared.operators.Gives.TheVariants.{Old, New}
use Rattle.sed_typed.specs.declared.operators.TextCall.{TextCall}
use Rattle.sed_typed.specs.declared.operators.TextCall.TheVariants as text
use Rattle.sed_typed.specs.declared.operators.Unary.{Unary}
use Rattle.sed_typed.specs.declared.operators.Unary.TheVariants as unary
use Rattle.sed_typed.specs.declared.operators.Width.{Width}
use Rattle.sed_typed.specs.declared.operators.Width.TheVariants as width
use Rattle.scode_ops.specs.declared.op.Op.{Op}
use Rattle.scode_ops.specs.declared.op.Op.TheVariants as op
use Rattle.scode_ops.specs.Decoding.{size_of}
use Rattle.scode_emit.specs.Site.{Site, is_virtual, class_of, waiting}
use Rattle.scode_emit.specs.declared.storage.Storage.{Storage}
use Rattle.scode_emit.specs.declared.storage.Storage.TheVariants.{InLocal, InField, InElement}
use Rattle.scode_emit.specs.Instructions.{arithmetic_op, comparison_op, binary_op, unary_code, unary_size, text_op, zero_op, zero_size, pop_code, pop_size, get_op, put_op, get_element_op, put_element_op, part_op, narrow_code, narrow_size, invoke_op, invoke_size, put_code, put_size, around, keep_code, keep_size, fetch_code, fetch_size, fetch_old_code, fetch_old_size, put_old_code, put_old_size, before_code, before_size, behind_code, behind_size}
use Rattle.scode_ops.specs.Codes as codes
use Rattle.scode_emit.specs.Code.{bytes_of}

abbrev pub count : List Op → ℕ
count [] = 0
count (i ∷ is) = size_of i + count is

pub count-bytes : (ops : List Op) → length (bytes_of ops) ≡ count ops
count-bytes [] = refl
count-bytes (i ∷ is) = omega (arith, length-append (codes.code_of i) (bytes_of is), count-bytes is)

pub count-append : (a b : List Op) → count (a ++ b) ≡ count a + count b
count-append [] b = omega arith
count-append (i ∷ a) b = omega (arith, count-append a b)

-- ---- operators and fields

pub arithmetic_sized : (a : Arithmetic) (w : Width) → size_of (arithmetic_op a w) ≡ 1
arithmetic_sized arithmetic.Add width.Int = refl
arithmetic_sized arithmetic.Subtract width.Int = refl
arithmetic_sized arithmetic.Multiply width.Int = refl
arithmetic_sized arithmetic.Divide width.Int = refl
arithmetic_sized arithmetic.Remainder width.Int = refl
arithmetic_sized arithmetic.BitAnd width.Int = refl
arithmetic_sized arithmetic.BitOr width.Int = refl
arithmetic_sized arithmetic.BitXor width.Int = refl
arithmetic_sized arithmetic.ShiftLeft width.Int = refl
arithmetic_sized arithmetic.ShiftRight width.Int = refl
arithmetic_sized arithmetic.Add width.Long = refl
arithmetic_sized arithmetic.Subtract width.Long = refl
arithmetic_sized arithmetic.Multiply width.Long = refl
arithmetic_sized arithmetic.Divide width.Long = refl
arithmetic_sized arithmetic.Remainder width.Long = refl
arithmetic_sized arithmetic.BitAnd width.Long = refl
arithmetic_sized arithmetic.BitOr width.Long = refl
arithmetic_sized arithmetic.BitXor width.Long = refl
arithmetic_sized arithmetic.ShiftLeft width.Long = refl
arithmetic_sized arithmetic.ShiftRight width.Long = refl

comparison_sized : (c : Comparison) (w : Width) → size_of (comparison_op c w) ≡ 1
comparison_sized comparison.Equal width.Int = refl
comparison_sized comparison.NotEqual width.Int = refl
comparison_sized comparison.Less width.Int = refl
comparison_sized comparison.LessOrEqual width.Int = refl
comparison_sized comparison.Greater width.Int = refl
comparison_sized comparison.GreaterOrEqual width.Int = refl
comparison_sized comparison.Equal width.Long = refl
comparison_sized comparison.NotEqual width.Long = refl
comparison_sized comparison.Less width.Long = refl
comparison_sized comparison.LessOrEqual width.Long = refl
comparison_sized comparison.Greater width.Long = refl
comparison_sized comparison.GreaterOrEqual width.Long = refl

pub binary_sized : (b : Binary) → size_of (binary_op b) ≡ 1
binary_sized (binary.Arithmetic a w) = arithmetic_sized a w
binary_sized (binary.Compare c w) = comparison_sized c w
binary_sized binary.SameTruth = refl
binary_sized binary.OtherTruth = refl
binary_sized binary.SameReference = refl
binary_sized binary.OtherReference = refl

pub unary_sized : (u : Unary) → count (unary_code u) ≡ unary_size u
unary_sized unary.Not = refl
unary_sized (unary.Negate width.Int) = refl
unary_sized (unary.Negate width.Long) = refl
unary_sized (unary.Flip width.Int) = refl
unary_sized (unary.Flip width.Long) = refl
unary_sized unary.ToLong = refl
unary_sized unary.ToInt = refl
unary_sized (unary.LowByte width.Int) = refl
unary_sized (unary.LowByte width.Long) = refl
unary_sized (unary.LowShort width.Int) = refl
unary_sized (unary.LowShort width.Long) = refl

pub text_sized : (t : TextCall) → size_of (text_op t) ≡ 1
text_sized text.Length = refl
text_sized text.Get = refl
text_sized text.Set = refl
text_sized text.Equals = refl
text_sized text.Copy = refl

pub zero_sized : (k : Kind) → size_of (zero_op k) ≡ zero_size k
zero_sized kind.Void = refl
zero_sized kind.Bool = refl
zero_sized kind.Int = refl
zero_sized kind.Long = refl
zero_sized kind.Text = refl
zero_sized (kind.Object class) = refl

pub pop_sized : (k : Kind) → count (pop_code k) ≡ pop_size k
pop_sized kind.Void = refl
pop_sized kind.Bool = refl
pop_sized kind.Int = refl
pop_sized kind.Long = refl
pop_sized kind.Text = refl
pop_sized (kind.Object class) = refl

pub get_sized : (p : Primitive) (offset : ℕ) → size_of (get_op p offset) ≡ 3
get_sized prim.Bool offset = refl
get_sized prim.Byte offset = refl
get_sized prim.Short offset = refl
get_sized prim.Int offset = refl
get_sized prim.Long offset = refl

pub put_sized : (p : Primitive) (offset : ℕ) → size_of (put_op p offset) ≡ 3
put_sized prim.Bool offset = refl
put_sized prim.Byte offset = refl
put_sized prim.Short offset = refl
put_sized prim.Int offset = refl
put_sized prim.Long offset = refl

pub get_element_sized : (p : Primitive) (offset n : ℕ) → size_of (get_element_op p offset n) ≡ 5
get_element_sized prim.Bool offset n = refl
get_element_sized prim.Byte offset n = refl
get_element_sized prim.Short offset n = refl
get_element_sized prim.Int offset n = refl
get_element_sized prim.Long offset n = refl

pub put_element_sized : (p : Primitive) (offset n : ℕ) → size_of (put_element_op p offset n) ≡ 5
put_element_sized prim.Bool offset n = refl
put_element_sized prim.Byte offset n = refl
put_element_sized prim.Short offset n = refl
put_element_sized prim.Int offset n = refl
put_element_sized prim.Long offset n = refl

pub part_sized : (k : Kind) (offset size : ℕ) → size_of (part_op k offset size) ≡ 5
part_sized kind.Void offset size = refl
part_sized kind.Bool offset size = refl
part_sized kind.Int offset size = refl
part_sized kind.Long offset size = refl
part_sized kind.Text offset size = refl
part_sized (kind.Object class) offset size = refl

narrow_sized : (p : Primitive) → count (narrow_code p) ≡ narrow_size p
narrow_sized prim.Bool = refl
narrow_sized prim.Byte = refl
narrow_sized prim.Short = refl
narrow_sized prim.Int = refl
narrow_sized prim.Long = refl

pub invoke_sized : (w : Site) (k : Kind) (m : ℕ) → size_of (invoke_op w k m) ≡ invoke_size w m
invoke_sized w k m = cases (is_virtual w m)
  where
    cases : (b : Bool) → size_of (if b then op.VirtualCall (class_of k) (w.layout.table_place (class_of k) m) else op.Call m) ≡ (if b then 4 else 3)
    cases true = refl
    cases false = refl

-- ---- what may be assigned to

pub put_code_sized : (s : Storage) → count (put_code s) ≡ put_size s
put_code_sized (InLocal i) = refl
put_code_sized (InField p offset) = omega (arith, put_sized p offset)
put_code_sized (InElement p offset n) = omega (arith, put_element_sized p offset n)

around_sized : (w : Site) (p : Primitive) (put : Op) → count (around w p put) ≡ narrow_size p + size_of put + 6
around_sized w p put =
    let behind = op.Store (waiting w p) ∷ op.Load (waiting w p) ∷ put ∷ op.Load (waiting w p) ∷ [] in
    omega (arith, count-append (narrow_code p) behind, narrow_sized p)

pub keep_sized : (w : Site) (s : Storage) → count (keep_code w s) ≡ keep_size s
keep_sized w (InLocal i) = refl
keep_sized w (InField p offset) = omega (arith, around_sized w p (put_op p offset), put_sized p offset)
keep_sized w (InElement p offset n) = omega (arith, around_sized w p (put_element_op p offset n), put_element_sized p offset n)

pub fetch_sized : (w : Site) (s : Storage) → count (fetch_code w s) ≡ fetch_size s
fetch_sized w (InLocal i) = refl
fetch_sized w (InField p offset) = omega (arith, get_sized p offset)
fetch_sized w (InElement p offset n) = omega (arith, get_element_sized p offset n)

fetch_old_sized : (w : Site) (s : Storage) → count (fetch_old_code w s) ≡ fetch_old_size s
fetch_old_sized w (InLocal i) = refl
fetch_old_sized w (InField p offset) = omega (arith, get_sized p offset)
fetch_old_sized w (InElement p offset n) = omega (arith, get_element_sized p offset n)

put_old_sized : (w : Site) (s : Storage) → count (put_old_code w s) ≡ put_old_size s
put_old_sized w (InLocal i) = refl
put_old_sized w (InField p offset) = omega (arith, put_sized p offset)
put_old_sized w (InElement p offset n) = omega (arith, put_element_sized p offset n)

pub before_sized : (w : Site) (g : Gives) (s : Storage) → count (before_code w g s) ≡ before_size g s
before_sized w Old s = fetch_old_sized w s
before_sized w New s = fetch_sized w s

pub behind_sized : (w : Site) (g : Gives) (s : Storage) → count (behind_code w g s) ≡ behind_size g s
behind_sized w Old s = put_old_sized w s
behind_sized w New s = keep_sized w s
