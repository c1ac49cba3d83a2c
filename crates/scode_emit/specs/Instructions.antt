-- Which instructions stand for an operator, a field and a place, and how many bytes they have.
use Rattle.std.specs.Prelude.{ℕ, ◌+◌, pos, if◌then◌else◌, List, [], ◌∷◌, ◌++◌}
use Rattle.sed_value.specs.declared.slot_type.Primitive.{Primitive}
use Rattle.sed_value.specs.declared.slot_type.Primitive.TheVariants as prim
use Rattle.sed_typed.specs.declared.kind.Kind.{Kind}
use Rattle.sed_typed.specs.declared.kind.Kind.TheVariants as kind
use Rattle.sed_typed.specs.declared.operators.Arithmetic.{Arithmetic}
use Rattle.sed_typed.specs.declared.operators.Arithmetic.TheVariants as arithmetic
use Rattle.sed_typed.specs.declared.operators.Binary.{Binary}
use Rattle.sed_typed.specs.declared.operators.Binary.TheVariants as binary
use Rattle.sed_typed.specs.declared.operators.Comparison.{Comparison}
use Rattle.sed_typed.specs.declared.operators.Comparison.TheVariants as comparison
use Rattle.sed_typed.specs.declared.operators.Gives.{Gives}
use Rattle.sed_typed.specs.declared.operators.Gives.TheVariants.{Old, New}
use Rattle.sed_typed.specs.declared.operators.TextCall.{TextCall}
use Rattle.sed_typed.specs.declared.operators.TextCall.TheVariants as text
use Rattle.sed_typed.specs.declared.operators.Unary.{Unary}
use Rattle.sed_typed.specs.declared.operators.Unary.TheVariants as unary
use Rattle.sed_typed.specs.declared.operators.Width.{Width}
use Rattle.sed_typed.specs.declared.operators.Width.TheVariants as width
use Rattle.sed_typed.specs.declared.tree.Place.{Place}
use Rattle.sed_typed.specs.declared.tree.Place.TheVariants as place
use Rattle.sed_typed.specs.Kinds.{kind_of}
use Rattle.scode_ops.specs.declared.op.Op.{Op}
use Rattle.scode_ops.specs.declared.op.Op.TheVariants as op
use Rattle.scode_emit.specs.declared.storage.Storage.{Storage}
use Rattle.scode_emit.specs.declared.storage.Storage.TheVariants.{InLocal, InField, InElement}
use Rattle.scode_emit.specs.Site.{Site, waiting, waiting_index, class_of, offset_in, is_virtual}

-- ---- operators

abbrev pub arithmetic_op : Arithmetic → Width → Op
arithmetic_op arithmetic.Add width.Int = op.IntAdd
arithmetic_op arithmetic.Subtract width.Int = op.IntSub
arithmetic_op arithmetic.Multiply width.Int = op.IntMul
arithmetic_op arithmetic.Divide width.Int = op.IntDiv
arithmetic_op arithmetic.Remainder width.Int = op.IntRem
arithmetic_op arithmetic.BitAnd width.Int = op.IntAnd
arithmetic_op arithmetic.BitOr width.Int = op.IntOr
arithmetic_op arithmetic.BitXor width.Int = op.IntXor
arithmetic_op arithmetic.ShiftLeft width.Int = op.IntShl
arithmetic_op arithmetic.ShiftRight width.Int = op.IntShr
arithmetic_op arithmetic.Add width.Long = op.LongAdd
arithmetic_op arithmetic.Subtract width.Long = op.LongSub
arithmetic_op arithmetic.Multiply width.Long = op.LongMul
arithmetic_op arithmetic.Divide width.Long = op.LongDiv
arithmetic_op arithmetic.Remainder width.Long = op.LongRem
arithmetic_op arithmetic.BitAnd width.Long = op.LongAnd
arithmetic_op arithmetic.BitOr width.Long = op.LongOr
arithmetic_op arithmetic.BitXor width.Long = op.LongXor
arithmetic_op arithmetic.ShiftLeft width.Long = op.LongShl
arithmetic_op arithmetic.ShiftRight width.Long = op.LongShr

abbrev pub comparison_op : Comparison → Width → Op
comparison_op comparison.Equal width.Int = op.IntEq
comparison_op comparison.NotEqual width.Int = op.IntNe
comparison_op comparison.Less width.Int = op.IntLt
comparison_op comparison.LessOrEqual width.Int = op.IntLe
comparison_op comparison.Greater width.Int = op.IntGt
comparison_op comparison.GreaterOrEqual width.Int = op.IntGe
comparison_op comparison.Equal width.Long = op.LongEq
comparison_op comparison.NotEqual width.Long = op.LongNe
comparison_op comparison.Less width.Long = op.LongLt
comparison_op comparison.LessOrEqual width.Long = op.LongLe
comparison_op comparison.Greater width.Long = op.LongGt
comparison_op comparison.GreaterOrEqual width.Long = op.LongGe

abbrev pub binary_op : Binary → Op
binary_op (binary.Arithmetic a w) = arithmetic_op a w
binary_op (binary.Compare c w) = comparison_op c w
binary_op binary.SameTruth = op.BoolEq
binary_op binary.OtherTruth = op.BoolNe
binary_op binary.SameReference = op.RefEq
binary_op binary.OtherReference = op.RefNe

-- the low bits of a long are those of its low 32 bits
abbrev pub unary_code : Unary → List Op
unary_code unary.Not = op.Not ∷ []
unary_code (unary.Negate width.Int) = op.IntNeg ∷ []
unary_code (unary.Negate width.Long) = op.LongNeg ∷ []
unary_code (unary.Flip width.Int) = op.IntNot ∷ []
unary_code (unary.Flip width.Long) = op.LongNot ∷ []
unary_code unary.ToLong = op.IntToLong ∷ []
unary_code unary.ToInt = op.LongToInt ∷ []
unary_code (unary.LowByte width.Int) = op.IntToByte ∷ []
unary_code (unary.LowByte width.Long) = op.LongToInt ∷ op.IntToByte ∷ []
unary_code (unary.LowShort width.Int) = op.IntToShort ∷ []
unary_code (unary.LowShort width.Long) = op.LongToInt ∷ op.IntToShort ∷ []

abbrev pub unary_size : Unary → ℕ
unary_size (unary.LowByte width.Long) = 2
unary_size (unary.LowShort width.Long) = 2
unary_size u = 1

abbrev pub text_op : TextCall → Op
text_op text.Length = op.StrLen
text_op text.Get = op.StrGet
text_op text.Set = op.StrSet
text_op text.Equals = op.StrEq
text_op text.Copy = op.StrCopy

-- ---- values

-- 0, false or null
abbrev pub zero_op : Kind → Op
zero_op kind.Bool = op.Bool 0
zero_op kind.Int = op.Int (pos 0)
zero_op kind.Long = op.Long (pos 0)
zero_op k = op.Null

abbrev pub zero_size : Kind → ℕ
zero_size kind.Bool = 2
zero_size kind.Int = 5
zero_size kind.Long = 9
zero_size k = 1

-- a value is taken off, where there is one
abbrev pub pop_code : Kind → List Op
pop_code kind.Void = []
pop_code k = op.Pop ∷ []

abbrev pub pop_size : Kind → ℕ
pop_size kind.Void = 0
pop_size k = 1

-- ---- fields

abbrev pub get_op : Primitive → ℕ → Op
get_op prim.Bool offset = op.GetBool offset
get_op prim.Byte offset = op.GetByte offset
get_op prim.Short offset = op.GetShort offset
get_op prim.Int offset = op.GetInt offset
get_op prim.Long offset = op.GetLong offset

abbrev pub put_op : Primitive → ℕ → Op
put_op prim.Bool offset = op.PutBool offset
put_op prim.Byte offset = op.PutByte offset
put_op prim.Short offset = op.PutShort offset
put_op prim.Int offset = op.PutInt offset
put_op prim.Long offset = op.PutLong offset

abbrev pub get_element_op : Primitive → ℕ → ℕ → Op
get_element_op prim.Bool offset count = op.ArrayGetBool offset count
get_element_op prim.Byte offset count = op.ArrayGetByte offset count
get_element_op prim.Short offset count = op.ArrayGetShort offset count
get_element_op prim.Int offset count = op.ArrayGetInt offset count
get_element_op prim.Long offset count = op.ArrayGetLong offset count

abbrev pub put_element_op : Primitive → ℕ → ℕ → Op
put_element_op prim.Bool offset count = op.ArrayPutBool offset count
put_element_op prim.Byte offset count = op.ArrayPutByte offset count
put_element_op prim.Short offset count = op.ArrayPutShort offset count
put_element_op prim.Int offset count = op.ArrayPutInt offset count
put_element_op prim.Long offset count = op.ArrayPutLong offset count

-- a Str of a size, or an inline object
abbrev pub part_op : Kind → ℕ → ℕ → Op
part_op kind.Text offset size = op.Str offset size
part_op k offset size = op.Inner offset (class_of k)

-- a byte or a short as a read gives it once it is stored
abbrev pub narrow_code : Primitive → List Op
narrow_code prim.Byte = op.IntToByte ∷ []
narrow_code prim.Short = op.IntToShort ∷ []
narrow_code p = []

abbrev pub narrow_size : Primitive → ℕ
narrow_size prim.Byte = 1
narrow_size prim.Short = 1
narrow_size p = 0

-- ---- calls

-- a virtual method is looked up in the table of the object's class, by its place in that of the receiver's kind
abbrev pub invoke_op : Site → Kind → ℕ → Op
invoke_op w k m =
    if is_virtual w m then op.VirtualCall (class_of k) (w.layout.table_place (class_of k) m) else op.Call m

abbrev pub invoke_size : Site → ℕ → ℕ
invoke_size w m = if is_virtual w m then 4 else 3

-- ---- what may be assigned to

-- what is stored, once an object and an index are on the stack
abbrev pub storage : Site → Place → Storage
storage w (place.Local k i) = InLocal i
storage w (place.Static p i) = InField p (w.layout.static_offset i)
storage w (place.Field' p q e i) = InField p (offset_in w (kind_of e) i)
storage w (place.Element' p n q e f r i) = InElement p (offset_in w (kind_of e) f) n
storage w (place.StaticElement' p n i q e) = InElement p (w.layout.static_offset i) n

-- the value on top is stored, and is gone with what is below it
abbrev pub put_code : Storage → List Op
put_code (InLocal i) = op.Store i ∷ []
put_code (InField p offset) = put_op p offset ∷ []
put_code (InElement p offset count) = put_element_op p offset count ∷ []

abbrev pub put_size : Storage → ℕ
put_size (InLocal i) = 2
put_size (InField p offset) = 3
put_size (InElement p offset count) = 5

-- the value on top waits while an instruction stores it
abbrev pub around : Site → Primitive → Op → List Op
around w p put =
    narrow_code p ++ op.Store (waiting w p) ∷ op.Load (waiting w p) ∷ put ∷ op.Load (waiting w p) ∷ []

-- the same, and the stored value stands there in their place, as a read gives it
abbrev pub keep_code : Site → Storage → List Op
keep_code w (InLocal i) = op.Dup ∷ op.Store i ∷ []
keep_code w (InField p offset) = around w p (put_op p offset)
keep_code w (InElement p offset count) = around w p (put_element_op p offset count)

abbrev pub keep_size : Storage → ℕ
keep_size (InLocal i) = 3
keep_size (InField p offset) = narrow_size p + 9
keep_size (InElement p offset count) = narrow_size p + 11

-- the value that stands there, above what is needed to store another. An element's index waits while it is read, and
-- then its value waits while the index comes below it.
abbrev pub fetch_code : Site → Storage → List Op
fetch_code w (InLocal i) = op.Load i ∷ []
fetch_code w (InField p offset) = op.Dup ∷ get_op p offset ∷ []
fetch_code w (InElement p offset count) =
    op.Store (waiting_index w) ∷ op.Dup ∷ op.Load (waiting_index w) ∷ get_element_op p offset count
    ∷ op.Store (waiting w p) ∷ op.Load (waiting_index w) ∷ op.Load (waiting w p) ∷ []

abbrev pub fetch_size : Storage → ℕ
fetch_size (InLocal i) = 2
fetch_size (InField p offset) = 4
fetch_size (InElement p offset count) = 16

-- the same where the value before is wanted afterwards: it stays on the stack, or waits in a local
abbrev pub fetch_old_code : Site → Storage → List Op
fetch_old_code w (InLocal i) = op.Load i ∷ op.Dup ∷ []
fetch_old_code w (InField p offset) =
    op.Dup ∷ get_op p offset ∷ op.Store (waiting w p) ∷ op.Load (waiting w p) ∷ []
fetch_old_code w (InElement p offset count) = fetch_code w (InElement p offset count)

abbrev pub fetch_old_size : Storage → ℕ
fetch_old_size (InLocal i) = 3
fetch_old_size (InField p offset) = 8
fetch_old_size (InElement p offset count) = 16

-- the value on top is stored, and the value before stands there in its place
abbrev pub put_old_code : Site → Storage → List Op
put_old_code w (InLocal i) = op.Store i ∷ []
put_old_code w (InField p offset) = put_op p offset ∷ op.Load (waiting w p) ∷ []
put_old_code w (InElement p offset count) = put_element_op p offset count ∷ op.Load (waiting w p) ∷ []

abbrev pub put_old_size : Storage → ℕ
put_old_size (InLocal i) = 2
put_old_size (InField p offset) = 5
put_old_size (InElement p offset count) = 7

-- before and behind the operand of a compound assignment that gives this value
abbrev pub before_code : Site → Gives → Storage → List Op
before_code w Old s = fetch_old_code w s
before_code w New s = fetch_code w s

abbrev pub before_size : Gives → Storage → ℕ
before_size Old s = fetch_old_size s
before_size New s = fetch_size s

abbrev pub behind_code : Site → Gives → Storage → List Op
behind_code w Old s = put_old_code w s
behind_code w New s = keep_code w s

abbrev pub behind_size : Gives → Storage → ℕ
behind_size Old s = put_old_size s
behind_size New s = keep_size s
