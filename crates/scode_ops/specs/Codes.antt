-- The table of instructions: the number of each, its operands, and so its bytes.
use Rattle.std.specs.Prelude.{◌≡◌, ℕ, ◌^◌, Bool, true, ◌&&◌, nat_lt, nat_le, List, [], ◌∷◌, ◌++◌, length, take, drop}
use Rattle.std.specs.Int.{to_be_bytes, cast_unsigned, w16, w32, w64}
use Rattle.sed_value.specs.Value.{is_signed}
use Rattle.scode_ops.specs.declared.op.Op.{Op}
use Rattle.scode_ops.specs.declared.op.Op.TheVariants.{Int, Long, Bool as Truth, Null, Text, Statics, Load, Store, Dup}
use Rattle.scode_ops.specs.declared.op.Op.TheVariants.{Pop, IntAdd, IntSub, IntMul, IntDiv, IntRem, IntAnd, IntOr}
use Rattle.scode_ops.specs.declared.op.Op.TheVariants.{IntXor, IntShl, IntShr, IntNeg, IntNot, LongAdd, LongSub}
use Rattle.scode_ops.specs.declared.op.Op.TheVariants.{LongMul, LongDiv, LongRem, LongAnd, LongOr, LongXor, LongShl}
use Rattle.scode_ops.specs.declared.op.Op.TheVariants.{LongShr, LongNeg, LongNot, IntEq, IntNe, IntLt, IntLe, IntGt}
use Rattle.scode_ops.specs.declared.op.Op.TheVariants.{IntGe, LongEq, LongNe, LongLt, LongLe, LongGt, LongGe, BoolEq}
use Rattle.scode_ops.specs.declared.op.Op.TheVariants.{BoolNe, RefEq, RefNe, IntToLong, LongToInt, Not, IntToByte}
use Rattle.scode_ops.specs.declared.op.Op.TheVariants.{IntToShort, Jump, JumpFalse, JumpTrue, Turn, GetBool, GetByte}
use Rattle.scode_ops.specs.declared.op.Op.TheVariants.{GetShort, GetInt, GetLong, PutBool, PutByte, PutShort, PutInt}
use Rattle.scode_ops.specs.declared.op.Op.TheVariants.{PutLong, Inner, Str, BufSize, BufGet, ArrayGetBool, ArrayGetByte}
use Rattle.scode_ops.specs.declared.op.Op.TheVariants.{ArrayGetShort, ArrayGetInt, ArrayGetLong, ArrayPutBool}
use Rattle.scode_ops.specs.declared.op.Op.TheVariants.{ArrayPutByte, ArrayPutShort, ArrayPutInt, ArrayPutLong, Call}
use Rattle.scode_ops.specs.declared.op.Op.TheVariants.{VirtualCall, Return, ReturnValue, Ticks, StrLen, StrGet, StrSet}
use Rattle.scode_ops.specs.declared.op.Op.TheVariants.{StrEq, StrCopy}
use Rattle.scode_ops.specs.declared.operands.Operands.{Operands}
use Rattle.scode_ops.specs.declared.operands.Operands.TheVariants.{Empty, U1, U2, U2U1, U2U2, I4, I8}

abbrev pub number_of : Op → ℕ
number_of (Int a) = 0x01
number_of (Long a) = 0x02
number_of (Truth a) = 0x03
number_of Null = 0x04
number_of (Text a) = 0x05
number_of Statics = 0x06
number_of (Load a) = 0x07
number_of (Store a) = 0x08
number_of Dup = 0x09
number_of Pop = 0x0a
number_of IntAdd = 0x10
number_of IntSub = 0x11
number_of IntMul = 0x12
number_of IntDiv = 0x13
number_of IntRem = 0x14
number_of IntAnd = 0x15
number_of IntOr = 0x16
number_of IntXor = 0x17
number_of IntShl = 0x18
number_of IntShr = 0x19
number_of IntNeg = 0x1a
number_of IntNot = 0x1b
number_of LongAdd = 0x20
number_of LongSub = 0x21
number_of LongMul = 0x22
number_of LongDiv = 0x23
number_of LongRem = 0x24
number_of LongAnd = 0x25
number_of LongOr = 0x26
number_of LongXor = 0x27
number_of LongShl = 0x28
number_of LongShr = 0x29
number_of LongNeg = 0x2a
number_of LongNot = 0x2b
number_of IntEq = 0x30
number_of IntNe = 0x31
number_of IntLt = 0x32
number_of IntLe = 0x33
number_of IntGt = 0x34
number_of IntGe = 0x35
number_of LongEq = 0x36
number_of LongNe = 0x37
number_of LongLt = 0x38
number_of LongLe = 0x39
number_of LongGt = 0x3a
number_of LongGe = 0x3b
number_of BoolEq = 0x3c
number_of BoolNe = 0x3d
number_of RefEq = 0x3e
number_of RefNe = 0x3f
number_of IntToLong = 0x40
number_of LongToInt = 0x41
number_of Not = 0x42
number_of IntToByte = 0x43
number_of IntToShort = 0x44
number_of (Jump a) = 0x48
number_of (JumpFalse a) = 0x49
number_of (JumpTrue a) = 0x4a
number_of Turn = 0x4b
number_of (GetBool a) = 0x50
number_of (GetByte a) = 0x51
number_of (GetShort a) = 0x52
number_of (GetInt a) = 0x53
number_of (GetLong a) = 0x54
number_of (PutBool a) = 0x55
number_of (PutByte a) = 0x56
number_of (PutShort a) = 0x57
number_of (PutInt a) = 0x58
number_of (PutLong a) = 0x59
number_of (Inner a b) = 0x5a
number_of (Str a b) = 0x5b
number_of (BufSize a) = 0x5c
number_of (BufGet a b) = 0x5d
number_of (ArrayGetBool a b) = 0x60
number_of (ArrayGetByte a b) = 0x61
number_of (ArrayGetShort a b) = 0x62
number_of (ArrayGetInt a b) = 0x63
number_of (ArrayGetLong a b) = 0x64
number_of (ArrayPutBool a b) = 0x65
number_of (ArrayPutByte a b) = 0x66
number_of (ArrayPutShort a b) = 0x67
number_of (ArrayPutInt a b) = 0x68
number_of (ArrayPutLong a b) = 0x69
number_of (Call a) = 0x70
number_of (VirtualCall a b) = 0x71
number_of Return = 0x72
number_of ReturnValue = 0x73
number_of Ticks = 0x74
number_of StrLen = 0x75
number_of StrGet = 0x76
number_of StrSet = 0x77
number_of StrEq = 0x78
number_of StrCopy = 0x79

abbrev pub operands_of : Op → Operands
operands_of (Int operand) = I4 operand
operands_of (Long operand) = I8 operand
operands_of (Truth operand) = U1 operand
operands_of (Text operand) = U2 operand
operands_of (Load operand) = U1 operand
operands_of (Store operand) = U1 operand
operands_of (Jump operand) = U2 operand
operands_of (JumpFalse operand) = U2 operand
operands_of (JumpTrue operand) = U2 operand
operands_of (GetBool operand) = U2 operand
operands_of (GetByte operand) = U2 operand
operands_of (GetShort operand) = U2 operand
operands_of (GetInt operand) = U2 operand
operands_of (GetLong operand) = U2 operand
operands_of (PutBool operand) = U2 operand
operands_of (PutByte operand) = U2 operand
operands_of (PutShort operand) = U2 operand
operands_of (PutInt operand) = U2 operand
operands_of (PutLong operand) = U2 operand
operands_of (Inner offset class) = U2U2 offset class
operands_of (Str offset size) = U2U2 offset size
operands_of (BufSize operand) = U2 operand
operands_of (BufGet offset capacity) = U2U2 offset capacity
operands_of (ArrayGetBool offset count) = U2U2 offset count
operands_of (ArrayGetByte offset count) = U2U2 offset count
operands_of (ArrayGetShort offset count) = U2U2 offset count
operands_of (ArrayGetInt offset count) = U2U2 offset count
operands_of (ArrayGetLong offset count) = U2U2 offset count
operands_of (ArrayPutBool offset count) = U2U2 offset count
operands_of (ArrayPutByte offset count) = U2U2 offset count
operands_of (ArrayPutShort offset count) = U2U2 offset count
operands_of (ArrayPutInt offset count) = U2U2 offset count
operands_of (ArrayPutLong offset count) = U2U2 offset count
operands_of (Call operand) = U2 operand
operands_of (VirtualCall class place) = U2U1 class place
operands_of op = Empty

-- numbers stand high byte first, signed ones in two's complement
abbrev pub bytes_of : Operands → List ℕ
bytes_of Empty = []
bytes_of (U1 number) = number ∷ []
bytes_of (U2 number) = to_be_bytes w16 number
bytes_of (U2U1 first second) = to_be_bytes w16 first ++ second ∷ []
bytes_of (U2U2 first second) = to_be_bytes w16 first ++ to_be_bytes w16 second
bytes_of (I4 number) = to_be_bytes w32 (cast_unsigned w32 number)
bytes_of (I8 number) = to_be_bytes w64 (cast_unsigned w64 number)

-- the bytes of an instruction
abbrev pub code_of : Op → List ℕ
code_of op = number_of op ∷ bytes_of (operands_of op)

-- a bool is at most 2
abbrev pub is_spelled : Op → Bool
is_spelled (Truth truth) = nat_le truth 2
is_spelled op = true

-- each operand is a number of its width
abbrev pub fits : Operands → Bool
fits Empty = true
fits (U1 number) = nat_lt number (2 ^ 8)
fits (U2 number) = nat_lt number (2 ^ 16)
fits (U2U1 first second) = nat_lt first (2 ^ 16) && nat_lt second (2 ^ 8)
fits (U2U2 first second) = nat_lt first (2 ^ 16) && nat_lt second (2 ^ 16)
fits (I4 number) = is_signed w32 number
fits (I8 number) = is_signed w64 number

-- an instruction that there can be
pub record IsOp (op : Op) : Type 0 where
  pub spelled : is_spelled op ≡ true
  pub fits : fits (operands_of op) ≡ true

-- it stands at a place: the bytes from there on begin with its own
pub record StandsAt (bytes : List ℕ) (at : ℕ) (op : Op) : Type 0 where
  pub is : IsOp op
  pub begins : take (length (code_of op)) (drop at bytes) ≡ code_of op
