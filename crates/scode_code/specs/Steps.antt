-- The table of instructions, and the steps of the machine.
use Rattle.std.specs.Prelude.{ℕ, zero, suc, ◌+◌, nat_le, if◌then◌else◌, List, [], ◌∷◌, length, drop, slice_get, Option}
use Rattle.std.specs.Prelude.{Some, None, Err}
use Rattle.std.specs.Option.{option_map_or}
use Rattle.sed_value.specs.declared.slot_type.Primitive.TheVariants as prim
use Rattle.sed_typed.specs.declared.operators.Arithmetic.TheVariants.{Add, Subtract, Multiply, Divide, Remainder}
use Rattle.sed_typed.specs.declared.operators.Arithmetic.TheVariants.{BitAnd, BitOr, BitXor, ShiftLeft, ShiftRight}
use Rattle.sed_typed.specs.declared.operators.Binary.TheVariants.{SameTruth, OtherTruth, SameReference, OtherReference}
use Rattle.sed_typed.specs.declared.operators.Comparison.TheVariants.{Equal, NotEqual, Less, LessOrEqual, Greater}
use Rattle.sed_typed.specs.declared.operators.Comparison.TheVariants.{GreaterOrEqual}
use Rattle.sed_typed.specs.declared.operators.Unary.TheVariants as unary
use Rattle.sed_typed.specs.declared.operators.Width.TheVariants as width
use Rattle.sed_engine.specs.State.{Shared, State, End, gives, answers, then_do}
use Rattle.sed_engine.specs.Steps.{choose, local_at, write_local, read_moment, take_turn}
use Rattle.sed_engine.specs.Stops.{Untyped, there}
use Rattle.sed_engine.specs.Values.{Val, Nothing, Truth, Int, Long, Null, At, Literal, Statics}
use Rattle.scode_ops.specs.declared.op.Op.{Op}
use Rattle.scode_ops.specs.declared.op.Op.TheVariants as op
use Rattle.scode_ops.specs.Decoding.{front_op, op_at, size_of}
use Rattle.scode_image.specs.declared.image.Image.{Image}
use Rattle.scode_code.specs.Fields.{Setting}
use Rattle.scode_code.specs.Machine.{Frame, Point, At as AtWork, Over, Move, Onward, Goto, Leave, moves}
use Rattle.scode_code.specs.Effect.{on_top, push, no_push, of_one, of_two, computes, compares, get, put, part, buf_size}
use Rattle.scode_code.specs.Effect.{buf_get, array_get, array_put}
use Rattle.scode_code.specs.Calls.{call, virtual_call, str_length, str_get, str_set, str_equal, str_copy}

-- what an instruction does on a stack
abbrev pub effect : Setting → Op → List Val → State → End Move
effect w (op.Int n) stack s = gives (Onward (Int n ∷ stack)) s
effect w (op.Long n) stack s = gives (Onward (Long n ∷ stack)) s
effect w (op.Bool t) stack s = gives (Onward (Truth t ∷ stack)) s
effect w op.Null stack s = gives (Onward (Null ∷ stack)) s
effect w (op.Text n) stack s =
    then_do (answers (there (slice_get w.image.texts n)) s) (λ _ s1. gives (Onward (Literal n ∷ stack)) s1)
effect w op.Statics stack s = gives (Onward (At (record { base = Statics; path = [] }) ∷ stack)) s
effect w (op.Load i) stack s = push stack (local_at i s)
effect w (op.Store i) stack s = on_top stack (λ v rest s1. no_push rest (write_local i v s1)) s
effect w op.Dup stack s = on_top stack (λ v rest s1. gives (Onward (v ∷ v ∷ rest)) s1) s
effect w op.Pop stack s = on_top stack (λ v rest s1. gives (Onward rest) s1) s
effect w op.IntAdd stack s = computes Add width.Int stack s
effect w op.IntSub stack s = computes Subtract width.Int stack s
effect w op.IntMul stack s = computes Multiply width.Int stack s
effect w op.IntDiv stack s = computes Divide width.Int stack s
effect w op.IntRem stack s = computes Remainder width.Int stack s
effect w op.IntAnd stack s = computes BitAnd width.Int stack s
effect w op.IntOr stack s = computes BitOr width.Int stack s
effect w op.IntXor stack s = computes BitXor width.Int stack s
effect w op.IntShl stack s = computes ShiftLeft width.Int stack s
effect w op.IntShr stack s = computes ShiftRight width.Int stack s
effect w op.IntNeg stack s = of_one (unary.Negate width.Int) stack s
effect w op.IntNot stack s = of_one (unary.Flip width.Int) stack s
effect w op.LongAdd stack s = computes Add width.Long stack s
effect w op.LongSub stack s = computes Subtract width.Long stack s
effect w op.LongMul stack s = computes Multiply width.Long stack s
effect w op.LongDiv stack s = computes Divide width.Long stack s
effect w op.LongRem stack s = computes Remainder width.Long stack s
effect w op.LongAnd stack s = computes BitAnd width.Long stack s
effect w op.LongOr stack s = computes BitOr width.Long stack s
effect w op.LongXor stack s = computes BitXor width.Long stack s
effect w op.LongShl stack s = computes ShiftLeft width.Long stack s
effect w op.LongShr stack s = computes ShiftRight width.Long stack s
effect w op.LongNeg stack s = of_one (unary.Negate width.Long) stack s
effect w op.LongNot stack s = of_one (unary.Flip width.Long) stack s
effect w op.IntEq stack s = compares Equal width.Int stack s
effect w op.IntNe stack s = compares NotEqual width.Int stack s
effect w op.IntLt stack s = compares Less width.Int stack s
effect w op.IntLe stack s = compares LessOrEqual width.Int stack s
effect w op.IntGt stack s = compares Greater width.Int stack s
effect w op.IntGe stack s = compares GreaterOrEqual width.Int stack s
effect w op.LongEq stack s = compares Equal width.Long stack s
effect w op.LongNe stack s = compares NotEqual width.Long stack s
effect w op.LongLt stack s = compares Less width.Long stack s
effect w op.LongLe stack s = compares LessOrEqual width.Long stack s
effect w op.LongGt stack s = compares Greater width.Long stack s
effect w op.LongGe stack s = compares GreaterOrEqual width.Long stack s
effect w op.BoolEq stack s = of_two SameTruth stack s
effect w op.BoolNe stack s = of_two OtherTruth stack s
effect w op.RefEq stack s = of_two SameReference stack s
effect w op.RefNe stack s = of_two OtherReference stack s
effect w op.IntToLong stack s = of_one unary.ToLong stack s
effect w op.LongToInt stack s = of_one unary.ToInt stack s
effect w op.Not stack s = of_one unary.Not stack s
effect w op.IntToByte stack s = of_one (unary.LowByte width.Int) stack s
effect w op.IntToShort stack s = of_one (unary.LowShort width.Int) stack s
effect w (op.Jump to) stack s = gives (Goto to stack) s
effect w (op.JumpFalse to) stack s =
    on_top stack (λ v rest s1. choose v (gives (Onward rest)) (gives (Goto to rest)) s1) s
effect w (op.JumpTrue to) stack s = on_top stack (λ v rest s1. choose v (gives (Goto to rest)) (gives (Onward rest)) s1)
    s
effect w op.Turn stack s = then_do (take_turn s) (λ _ s1. gives (Onward stack) s1)
effect w (op.GetBool offset) stack s = get w prim.Bool offset stack s
effect w (op.GetByte offset) stack s = get w prim.Byte offset stack s
effect w (op.GetShort offset) stack s = get w prim.Short offset stack s
effect w (op.GetInt offset) stack s = get w prim.Int offset stack s
effect w (op.GetLong offset) stack s = get w prim.Long offset stack s
effect w (op.PutBool offset) stack s = put w prim.Bool offset stack s
effect w (op.PutByte offset) stack s = put w prim.Byte offset stack s
effect w (op.PutShort offset) stack s = put w prim.Short offset stack s
effect w (op.PutInt offset) stack s = put w prim.Int offset stack s
effect w (op.PutLong offset) stack s = put w prim.Long offset stack s
effect w (op.Inner offset class) stack s = part w 8 offset class stack s
effect w (op.Str offset size) stack s = part w 6 offset size stack s
effect w (op.BufSize offset) stack s = buf_size w offset stack s
effect w (op.BufGet offset capacity) stack s = buf_get w offset capacity stack s
effect w (op.ArrayGetBool offset count) stack s = array_get w prim.Bool offset count stack s
effect w (op.ArrayGetByte offset count) stack s = array_get w prim.Byte offset count stack s
effect w (op.ArrayGetShort offset count) stack s = array_get w prim.Short offset count stack s
effect w (op.ArrayGetInt offset count) stack s = array_get w prim.Int offset count stack s
effect w (op.ArrayGetLong offset count) stack s = array_get w prim.Long offset count stack s
effect w (op.ArrayPutBool offset count) stack s = array_put w prim.Bool offset count stack s
effect w (op.ArrayPutByte offset count) stack s = array_put w prim.Byte offset count stack s
effect w (op.ArrayPutShort offset count) stack s = array_put w prim.Short offset count stack s
effect w (op.ArrayPutInt offset count) stack s = array_put w prim.Int offset count stack s
effect w (op.ArrayPutLong offset count) stack s = array_put w prim.Long offset count stack s
effect w (op.Call number) stack s = call w number stack s
effect w (op.VirtualCall class place) stack s = virtual_call w class place stack s
effect w op.Return stack s = gives (Leave Nothing) s
effect w op.ReturnValue stack s = on_top stack (λ v rest s1. gives (Leave v) s1) s
effect w op.Ticks stack s = push stack (read_moment s)
effect w op.StrLen stack s = str_length w stack s
effect w op.StrGet stack s = str_get w stack s
effect w op.StrSet stack s = str_set w stack s
effect w op.StrEq stack s = str_equal w stack s
effect w op.StrCopy stack s = str_copy w stack s

-- ---- steps

abbrev pub code_of : Image → ℕ → List ℕ
code_of image method = option_map_or (λ m. m.code) (slice_get image.methods method) []

-- the instruction at a place of a method
abbrev pub instruction_at : Image → ℕ → ℕ → Option Op
instruction_at image method place = op_at (code_of image method) place

abbrev pub act : Setting → Option Op → Frame → List Frame → Shared → Point
act w None f below shared = Over (record { result = Err Untyped; shared = shared })
act w (Some i) f below shared =
    let e = effect w i f.stack (record { shared = shared; locals = f.locals }) in moves f below (f.place + size_of i)
    e.result e.state

-- one instruction; what is over stays
abbrev pub step : Setting → Point → Point
step w (Over c) = Over c
step w (AtWork m) = act w (instruction_at w.image m.top.method m.top.place) m.top m.below m.shared

-- at most so many instructions
unfoldable pub steps : Setting → ℕ → Point → Point
steps w zero p = p
steps w (suc n) p = steps w n (step w p)

-- ---- how long code is

-- one more than behind an instruction, if one stands there
abbrev pub counted_on : (List ℕ → ℕ) → List ℕ → Option Op → ℕ
counted_on count code None = 0
counted_on count code (Some i) = suc (count (drop (size_of i) code))

-- the instructions of code from its start on, as far as they stand one behind the other
abbrev pub counted_within : ℕ → List ℕ → ℕ
counted_within zero code = 0
counted_within (suc most) code = counted_on (λ rest. counted_within most rest) code (front_op code)

abbrev pub instruction_count : List ℕ → ℕ
instruction_count code = counted_within (length code) code

-- the instructions of the longest method
abbrev pub longest_of : List (List ℕ) → ℕ
longest_of [] = 0
longest_of (code ∷ more) = if nat_le (longest_of more) (instruction_count code) then instruction_count code else
    longest_of more
