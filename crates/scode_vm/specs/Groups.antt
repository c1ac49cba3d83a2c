-- Groups of instructions.
use Rattle.scode_ops.specs.declared.op.Op.{Op}
use Rattle.scode_ops.specs.declared.op.Op.TheVariants as op

pub data Group : Type 0 where
  Locals : Group
  Ints : Group
  Longs : Group
  Comparisons : Group
  Conversions : Group
  Jumps : Group
  Turns : Group
  Fields : Group
  Arrays : Group
  Calls : Group
  Strs : Group

abbrev pub group_of : Op → Group
group_of (op.Int n) = Locals
group_of (op.Long n) = Locals
group_of (op.Bool n) = Locals
group_of op.Null = Locals
group_of (op.Text n) = Locals
group_of op.Statics = Locals
group_of (op.Load n) = Locals
group_of (op.Store n) = Locals
group_of op.Dup = Locals
group_of op.Pop = Locals
group_of op.IntAdd = Ints
group_of op.IntSub = Ints
group_of op.IntMul = Ints
group_of op.IntDiv = Ints
group_of op.IntRem = Ints
group_of op.IntAnd = Ints
group_of op.IntOr = Ints
group_of op.IntXor = Ints
group_of op.IntShl = Ints
group_of op.IntShr = Ints
group_of op.IntNeg = Ints
group_of op.IntNot = Ints
group_of op.LongAdd = Longs
group_of op.LongSub = Longs
group_of op.LongMul = Longs
group_of op.LongDiv = Longs
group_of op.LongRem = Longs
group_of op.LongAnd = Longs
group_of op.LongOr = Longs
group_of op.LongXor = Longs
group_of op.LongShl = Longs
group_of op.LongShr = Longs
group_of op.LongNeg = Longs
group_of op.LongNot = Longs
group_of op.IntEq = Comparisons
group_of op.IntNe = Comparisons
group_of op.IntLt = Comparisons
group_of op.IntLe = Comparisons
group_of op.IntGt = Comparisons
group_of op.IntGe = Comparisons
group_of op.LongEq = Comparisons
group_of op.LongNe = Comparisons
group_of op.LongLt = Comparisons
group_of op.LongLe = Comparisons
group_of op.LongGt = Comparisons
group_of op.LongGe = Comparisons
group_of op.BoolEq = Comparisons
group_of op.BoolNe = Comparisons
group_of op.RefEq = Comparisons
group_of op.RefNe = Comparisons
group_of op.IntToLong = Conversions
group_of op.LongToInt = Conversions
group_of op.Not = Conversions
group_of op.IntToByte = Conversions
group_of op.IntToShort = Conversions
group_of (op.Jump n) = Jumps
group_of (op.JumpFalse n) = Jumps
group_of (op.JumpTrue n) = Jumps
group_of op.Turn = Turns
group_of (op.GetBool n) = Fields
group_of (op.GetByte n) = Fields
group_of (op.GetShort n) = Fields
group_of (op.GetInt n) = Fields
group_of (op.GetLong n) = Fields
group_of (op.PutBool n) = Fields
group_of (op.PutByte n) = Fields
group_of (op.PutShort n) = Fields
group_of (op.PutInt n) = Fields
group_of (op.PutLong n) = Fields
group_of (op.Inner offset class) = Fields
group_of (op.Str offset size) = Fields
group_of (op.BufSize n) = Fields
group_of (op.BufGet offset capacity) = Fields
group_of (op.ArrayGetBool offset count) = Arrays
group_of (op.ArrayGetByte offset count) = Arrays
group_of (op.ArrayGetShort offset count) = Arrays
group_of (op.ArrayGetInt offset count) = Arrays
group_of (op.ArrayGetLong offset count) = Arrays
group_of (op.ArrayPutBool offset count) = Arrays
group_of (op.ArrayPutByte offset count) = Arrays
group_of (op.ArrayPutShort offset count) = Arrays
group_of (op.ArrayPutInt offset count) = Arrays
group_of (op.ArrayPutLong offset count) = Arrays
group_of (op.Call n) = Calls
group_of (op.VirtualCall class place) = Calls
group_of op.Return = Calls
group_of op.ReturnValue = Calls
group_of op.Ticks = Turns
group_of op.StrLen = Strs
group_of op.StrGet = Strs
group_of op.StrSet = Strs
group_of op.StrEq = Strs
group_of op.StrCopy = Strs
