-- The instruction that stands at a place, found among all by its number. It is the one that `StandsAt` speaks of.
use Rattle.std.specs.Prelude.{ℕ, ◌==◌, ◌&&◌, List, [], ◌∷◌, ◌++◌, length, drop, Option, None, find}
use Rattle.std.specs.Int.{from_be_bytes, cast_signed, w16, w32, w64}
use Rattle.scode_ops.specs.declared.op.Op.{Op}
use Rattle.scode_ops.specs.declared.op.Op.TheVariants.{Int, Long, Bool as Truth, Null, Text, Statics, Load, Store, Dup}
use Rattle.scode_ops.specs.declared.op.Op.TheVariants.{Pop, IntAdd, IntSub, IntMul, IntDiv, IntRem, IntAnd, IntOr}
use Rattle.scode_ops.specs.declared.op.Op.TheVariants.{IntXor, IntShl, IntShr, IntNeg, IntNot, LongAdd, LongSub}
use Rattle.scode_ops.specs.declared.op.Op.TheVariants.{LongMul, LongDiv, LongRem, LongAnd, LongOr, LongXor, LongShl}
use Rattle.scode_ops.specs.declared.op.Op.TheVariants.{LongShr, LongNeg, LongNot, IntEq, IntNe, IntLt, IntLe, IntGt}
use Rattle.scode_ops.specs.declared.op.Op.TheVariants.{IntGe, LongEq, LongNe, LongLt, LongLe, LongGt, LongGe, BoolEq}
use Rattle.scode_ops.specs.declared.op.Op.TheVariants.{BoolNe, RefEq, RefNe, IntToLong, LongToInt, Not, IntToByte}
use Rattle.scode_ops.specs.declared.op.Op.TheVariants.{IntToShort, Jump, JumpFalse, JumpTrue, Turn, GetBool, GetByte}
use Rattle.scode_ops.specs.declared.op.Op.TheVariants.{GetShort, GetInt, GetLong, PutBool, PutByte, PutShort, PutInt}
use Rattle.scode_ops.specs.declared.op.Op.TheVariants.{PutLong, Inner, Str, BufSize, BufGet, ArrayGetBool, ArrayGetByte}
use Rattle.scode_ops.specs.declared.op.Op.TheVariants.{ArrayGetShort, ArrayGetInt, ArrayGetLong, ArrayPutBool}
use Rattle.scode_ops.specs.declared.op.Op.TheVariants.{ArrayPutByte, ArrayPutShort, ArrayPutInt, ArrayPutLong, Call}
use Rattle.scode_ops.specs.declared.op.Op.TheVariants.{VirtualCall, Return, ReturnValue, Ticks, StrLen, StrGet, StrSet}
use Rattle.scode_ops.specs.declared.op.Op.TheVariants.{StrEq, StrCopy}
use Rattle.scode_ops.specs.Codes.{number_of, is_spelled, code_of}

-- ---- all instructions, by the widths of their operands

abbrev pub without_operands : List Op
without_operands =
    Null ∷ Statics ∷ Dup ∷ Pop
    ∷ IntAdd ∷ IntSub ∷ IntMul ∷ IntDiv ∷ IntRem ∷ IntAnd ∷ IntOr ∷ IntXor ∷ IntShl ∷ IntShr ∷ IntNeg ∷ IntNot
    ∷ LongAdd ∷ LongSub ∷ LongMul ∷ LongDiv ∷ LongRem ∷ LongAnd ∷ LongOr ∷ LongXor ∷ LongShl ∷ LongShr ∷ LongNeg ∷
    LongNot
    ∷ IntEq ∷ IntNe ∷ IntLt ∷ IntLe ∷ IntGt ∷ IntGe ∷ LongEq ∷ LongNe ∷ LongLt ∷ LongLe ∷ LongGt ∷ LongGe ∷ BoolEq ∷
    BoolNe ∷ RefEq ∷ RefNe
    ∷ IntToLong ∷ LongToInt ∷ Not ∷ IntToByte ∷ IntToShort ∷ Turn ∷ Return ∷ ReturnValue ∷ Ticks ∷ StrLen ∷ StrGet ∷
    StrSet ∷ StrEq ∷ StrCopy ∷ []

abbrev pub with_byte : ℕ → List Op
with_byte a = Truth a ∷ Load a ∷ Store a ∷ []

abbrev pub with_short : ℕ → List Op
with_short a =
    Text a ∷ Jump a ∷ JumpFalse a ∷ JumpTrue a ∷ GetBool a ∷ GetByte a ∷ GetShort a ∷ GetInt a ∷ GetLong a
    ∷ PutBool a ∷ PutByte a ∷ PutShort a ∷ PutInt a ∷ PutLong a ∷ BufSize a ∷ Call a ∷ []

abbrev pub with_two_shorts : ℕ → ℕ → List Op
with_two_shorts a b =
    Inner a b ∷ Str a b ∷ BufGet a b
    ∷ ArrayGetBool a b ∷ ArrayGetByte a b ∷ ArrayGetShort a b ∷ ArrayGetInt a b ∷ ArrayGetLong a b
    ∷ ArrayPutBool a b ∷ ArrayPutByte a b ∷ ArrayPutShort a b ∷ ArrayPutInt a b ∷ ArrayPutLong a b ∷ []

-- ---- with the operands that bytes spell, where there are enough

abbrev pub short : ℕ → ℕ → ℕ
short high low = from_be_bytes w16 (high ∷ low ∷ [])

abbrev pub of_one : List ℕ → List Op
of_one (a ∷ rest) = with_byte a
of_one rest = []

abbrev pub of_two : List ℕ → List Op
of_two (a ∷ b ∷ rest) = with_short (short a b)
of_two rest = []

abbrev pub of_three : List ℕ → List Op
of_three (a ∷ b ∷ c ∷ rest) = VirtualCall (short a b) c ∷ []
of_three rest = []

abbrev pub of_four : List ℕ → List Op
of_four (a ∷ b ∷ c ∷ d ∷ rest) =
    Int (cast_signed w32 (from_be_bytes w32 (a ∷ b ∷ c ∷ d ∷ []))) ∷ with_two_shorts (short a b) (short c d)
of_four rest = []

abbrev pub of_eight : List ℕ → List Op
of_eight (a ∷ b ∷ c ∷ d ∷ e ∷ f ∷ g ∷ h ∷ rest) =
    Long (cast_signed w64 (from_be_bytes w64 (a ∷ b ∷ c ∷ d ∷ e ∷ f ∷ g ∷ h ∷ []))) ∷ []
of_eight rest = []

-- all instructions with the operands that stand at the front of the bytes
abbrev pub made_of : List ℕ → List Op
made_of bytes = without_operands
    ++ (of_one bytes ++ (of_two bytes ++ (of_three bytes ++ (of_four bytes ++ of_eight bytes))))

-- the instruction at the front of the bytes, if one stands there
abbrev pub front_op : List ℕ → Option Op
front_op [] = None
front_op (number ∷ behind) = find (λ op. (number_of op == number) && is_spelled op) (made_of behind)

abbrev pub op_at : List ℕ → ℕ → Option Op
op_at code at = front_op (drop at code)

-- how many bytes an instruction has
abbrev pub size_of : Op → ℕ
size_of op = length (code_of op)
