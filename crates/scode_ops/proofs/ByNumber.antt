-- An instruction is known by its number and its operands.
use Rattle.std.proofs.Common.{◌≡◌, ℕ, refl}
use Rattle.std.specs.Prelude.{ℤ, Option, Some, None, if◌then◌else◌, ◌==◌}
use Rattle.scode_ops.specs.declared.op.Op.{Op}
use Rattle.scode_ops.specs.declared.op.Op.TheVariants.{Int, Long, Bool as Truth, Null, Text, Statics, Load, Store, Dup, Pop, IntAdd, IntSub, IntMul, IntDiv, IntRem, IntAnd, IntOr, IntXor, IntShl, IntShr, IntNeg, IntNot, LongAdd, LongSub, LongMul, LongDiv, LongRem, LongAnd, LongOr, LongXor, LongShl, LongShr, LongNeg, LongNot, IntEq, IntNe, IntLt, IntLe, IntGt, IntGe, LongEq, LongNe, LongLt, LongLe, LongGt, LongGe, BoolEq, BoolNe, RefEq, RefNe, IntToLong, LongToInt, Not, IntToByte, IntToShort, Jump, JumpFalse, JumpTrue, Turn, GetBool, GetByte, GetShort, GetInt, GetLong, PutBool, PutByte, PutShort, PutInt, PutLong, Inner, Str, BufSize, BufGet, ArrayGetBool, ArrayGetByte, ArrayGetShort, ArrayGetInt, ArrayGetLong, ArrayPutBool, ArrayPutByte, ArrayPutShort, ArrayPutInt, ArrayPutLong, Call, VirtualCall, Return, ReturnValue, Ticks, StrLen, StrGet, StrSet, StrEq, StrCopy}
use Rattle.scode_ops.specs.declared.operands.Operands.{Operands}
use Rattle.scode_ops.specs.declared.operands.Operands.TheVariants as operands
use Rattle.scode_ops.specs.Codes.{number_of, operands_of}
use Rattle.scode_ops.specs.Forms.{form_of, kind_of}

abbrev empty_op : ℕ → Option Op
empty_op number =
    if number == 4 then Some Null else (
    if number == 6 then Some Statics else (
    if number == 9 then Some Dup else (
    if number == 10 then Some Pop else (
    if number == 16 then Some IntAdd else (
    if number == 17 then Some IntSub else (
    if number == 18 then Some IntMul else (
    if number == 19 then Some IntDiv else (
    if number == 20 then Some IntRem else (
    if number == 21 then Some IntAnd else (
    if number == 22 then Some IntOr else (
    if number == 23 then Some IntXor else (
    if number == 24 then Some IntShl else (
    if number == 25 then Some IntShr else (
    if number == 26 then Some IntNeg else (
    if number == 27 then Some IntNot else (
    if number == 32 then Some LongAdd else (
    if number == 33 then Some LongSub else (
    if number == 34 then Some LongMul else (
    if number == 35 then Some LongDiv else (
    if number == 36 then Some LongRem else (
    if number == 37 then Some LongAnd else (
    if number == 38 then Some LongOr else (
    if number == 39 then Some LongXor else (
    if number == 40 then Some LongShl else (
    if number == 41 then Some LongShr else (
    if number == 42 then Some LongNeg else (
    if number == 43 then Some LongNot else (
    if number == 48 then Some IntEq else (
    if number == 49 then Some IntNe else (
    if number == 50 then Some IntLt else (
    if number == 51 then Some IntLe else (
    if number == 52 then Some IntGt else (
    if number == 53 then Some IntGe else (
    if number == 54 then Some LongEq else (
    if number == 55 then Some LongNe else (
    if number == 56 then Some LongLt else (
    if number == 57 then Some LongLe else (
    if number == 58 then Some LongGt else (
    if number == 59 then Some LongGe else (
    if number == 60 then Some BoolEq else (
    if number == 61 then Some BoolNe else (
    if number == 62 then Some RefEq else (
    if number == 63 then Some RefNe else (
    if number == 64 then Some IntToLong else (
    if number == 65 then Some LongToInt else (
    if number == 66 then Some Not else (
    if number == 67 then Some IntToByte else (
    if number == 68 then Some IntToShort else (
    if number == 75 then Some Turn else (
    if number == 114 then Some Return else (
    if number == 115 then Some ReturnValue else (
    if number == 116 then Some Ticks else (
    if number == 117 then Some StrLen else (
    if number == 118 then Some StrGet else (
    if number == 119 then Some StrSet else (
    if number == 120 then Some StrEq else (
    if number == 121 then Some StrCopy else (
    None))))))))))))))))))))))))))))))))))))))))))))))))))))))))))

abbrev u1_op : ℕ → ℕ → Option Op
u1_op number a =
    if number == 3 then Some (Truth a) else (
    if number == 7 then Some (Load a) else (
    if number == 8 then Some (Store a) else (
    None)))

abbrev u2_op : ℕ → ℕ → Option Op
u2_op number a =
    if number == 5 then Some (Text a) else (
    if number == 72 then Some (Jump a) else (
    if number == 73 then Some (JumpFalse a) else (
    if number == 74 then Some (JumpTrue a) else (
    if number == 80 then Some (GetBool a) else (
    if number == 81 then Some (GetByte a) else (
    if number == 82 then Some (GetShort a) else (
    if number == 83 then Some (GetInt a) else (
    if number == 84 then Some (GetLong a) else (
    if number == 85 then Some (PutBool a) else (
    if number == 86 then Some (PutByte a) else (
    if number == 87 then Some (PutShort a) else (
    if number == 88 then Some (PutInt a) else (
    if number == 89 then Some (PutLong a) else (
    if number == 92 then Some (BufSize a) else (
    if number == 112 then Some (Call a) else (
    None))))))))))))))))

abbrev u2u1_op : ℕ → ℕ → ℕ → Option Op
u2u1_op number a b =
    if number == 113 then Some (VirtualCall a b) else (
    None)

abbrev u2u2_op : ℕ → ℕ → ℕ → Option Op
u2u2_op number a b =
    if number == 90 then Some (Inner a b) else (
    if number == 91 then Some (Str a b) else (
    if number == 93 then Some (BufGet a b) else (
    if number == 96 then Some (ArrayGetBool a b) else (
    if number == 97 then Some (ArrayGetByte a b) else (
    if number == 98 then Some (ArrayGetShort a b) else (
    if number == 99 then Some (ArrayGetInt a b) else (
    if number == 100 then Some (ArrayGetLong a b) else (
    if number == 101 then Some (ArrayPutBool a b) else (
    if number == 102 then Some (ArrayPutByte a b) else (
    if number == 103 then Some (ArrayPutShort a b) else (
    if number == 104 then Some (ArrayPutInt a b) else (
    if number == 105 then Some (ArrayPutLong a b) else (
    None)))))))))))))

abbrev i4_op : ℕ → ℤ → Option Op
i4_op number a =
    if number == 1 then Some (Int a) else (
    None)

abbrev i8_op : ℕ → ℤ → Option Op
i8_op number a =
    if number == 2 then Some (Long a) else (
    None)

abbrev pub made : ℕ → Operands → Option Op
made number operands.Empty = empty_op number
made number (operands.U1 a) = u1_op number a
made number (operands.U2 a) = u2_op number a
made number (operands.U2U1 a b) = u2u1_op number a b
made number (operands.U2U2 a b) = u2u2_op number a b
made number (operands.I4 a) = i4_op number a
made number (operands.I8 a) = i8_op number a

pub made-op : (op : Op) → made (number_of op) (operands_of op) ≡ Some op
made-op Null = refl
made-op op = refl

-- its operands are of the form of its number
pub form-op : (op : Op) → form_of (number_of op) ≡ Some (kind_of (operands_of op))
form-op Null = refl
form-op op = refl
