-- What the operators compute.
use Rattle.std.specs.Prelude.{ℕ, ℤ, pos, neg_ℤ, ◌+ℤ◌, ◌-ℤ◌, ◌*ℤ◌, int_lt, int_le, Bool, not, Option, Some, None, Result}
use Rattle.std.specs.Prelude.{Ok, Err, ◌==◌}
use Rattle.std.specs.Int.{Width as Bits, w8, w16, w32, w64, int_bit_and, int_bit_or, int_bit_xor, int_bit_not}
use Rattle.std.specs.Ordering.{int_eq}
use Rattle.sed_value.specs.Wrap.{wrap, low_bits}
use Rattle.sed_value.specs.Arithmetic.{shifted_left, shifted_right, quotient, remainder}
use Rattle.sed_typed.specs.declared.operators.Width.{Width}
use Rattle.sed_typed.specs.declared.operators.Width.TheVariants as width
use Rattle.sed_typed.specs.declared.operators.Arithmetic.{Arithmetic}
use Rattle.sed_typed.specs.declared.operators.Arithmetic.TheVariants as arithmetic
use Rattle.sed_typed.specs.declared.operators.Comparison.{Comparison}
use Rattle.sed_typed.specs.declared.operators.Comparison.TheVariants as comparison
use Rattle.sed_typed.specs.declared.operators.Binary.{Binary}
use Rattle.sed_typed.specs.declared.operators.Binary.TheVariants as binary
use Rattle.sed_typed.specs.declared.operators.Unary.{Unary}
use Rattle.sed_typed.specs.declared.operators.Unary.TheVariants as unary
use Rattle.sed_typed.specs.declared.operators.Gives.{Gives}
use Rattle.sed_typed.specs.declared.operators.Gives.TheVariants.{Old, New}
use Rattle.sed_engine.specs.declared.trap.Trap.TheVariants.{ZeroDivisor}
use Rattle.sed_engine.specs.Stops.{Stop, Traps, map_ok, and_then}
use Rattle.sed_engine.specs.Values.{Val, Int, Long, whole, truth_of, truth, is_met, same_reference}

abbrev pub bits_of : Width → Bits
bits_of width.Int = w32
bits_of width.Long = w64

-- a whole number of this width as a value
abbrev pub number : Width → ℤ → Val
number width.Int n = Int n
number width.Long n = Long n

-- what a division gives: there is none by zero
abbrev pub divided : Option ℤ → Result ℤ Stop
divided (Some n) = Ok n
divided None = Err (Traps ZeroDivisor)

abbrev pub computed : Arithmetic → Bits → ℤ → ℤ → Result ℤ Stop
computed arithmetic.Add bits a b = Ok (wrap bits (a +ℤ b))
computed arithmetic.Subtract bits a b = Ok (wrap bits (a -ℤ b))
computed arithmetic.Multiply bits a b = Ok (wrap bits (a *ℤ b))
computed arithmetic.Divide bits a b = divided (quotient bits a b)
computed arithmetic.Remainder bits a b = divided (remainder a b)
computed arithmetic.BitAnd bits a b = Ok (int_bit_and bits a b)
computed arithmetic.BitOr bits a b = Ok (int_bit_or bits a b)
computed arithmetic.BitXor bits a b = Ok (int_bit_xor bits a b)
computed arithmetic.ShiftLeft bits a b = Ok (shifted_left bits a b)
computed arithmetic.ShiftRight bits a b = Ok (shifted_right bits a b)

-- what is computed of two whole numbers of these widths, and of two truth values
abbrev pub of_wholes : Width → Width → (ℤ → ℤ → Result Val Stop) → Val → Val → Result Val Stop
of_wholes v w f a b = and_then (whole v a) (λ x. and_then (whole w b) (λ y. f x y))

abbrev pub of_truths : (ℕ → ℕ → Result Val Stop) → Val → Val → Result Val Stop
of_truths f a b = and_then (truth_of a) (λ x. and_then (truth_of b) (λ y. f x y))

-- a shift count is an int, whatever the width
abbrev pub right_width : Arithmetic → Width → Width
right_width arithmetic.ShiftLeft w = width.Int
right_width arithmetic.ShiftRight w = width.Int
right_width op w = w

abbrev pub arithmetic_of : Arithmetic → Width → Val → Val → Result Val Stop
arithmetic_of op w a b = of_wholes w (right_width op w) (λ x y. map_ok (number w) (computed op (bits_of w) x y)) a b

abbrev pub compared : Comparison → ℤ → ℤ → Bool
compared comparison.Equal a b = int_eq a b
compared comparison.NotEqual a b = not (int_eq a b)
compared comparison.Less a b = int_lt a b
compared comparison.LessOrEqual a b = int_le a b
compared comparison.Greater a b = int_lt b a
compared comparison.GreaterOrEqual a b = int_le b a

-- of two operands that were evaluated
abbrev pub binary_of : Binary → Val → Val → Result Val Stop
binary_of (binary.Arithmetic op w) a b = arithmetic_of op w a b
binary_of (binary.Compare op w) a b = of_wholes w w (λ x y. Ok (truth (compared op x y))) a b
binary_of binary.SameTruth a b = of_truths (λ x y. Ok (truth (x == y))) a b
binary_of binary.OtherTruth a b = of_truths (λ x y. Ok (truth (not (x == y)))) a b
binary_of binary.SameReference a b = map_ok truth (same_reference a b)
binary_of binary.OtherReference a b = map_ok (λ same. truth (not same)) (same_reference a b)

-- `!x` is true exactly where x is false
abbrev pub unary_of : Unary → Val → Result Val Stop
unary_of unary.Not v = map_ok (λ met. truth (not met)) (is_met v)
unary_of (unary.Negate w) v = map_ok (λ n. number w (wrap (bits_of w) (neg_ℤ n))) (whole w v)
unary_of (unary.Flip w) v = map_ok (λ n. number w (int_bit_not (bits_of w) n)) (whole w v)
unary_of unary.ToLong v = map_ok Long (whole width.Int v)
unary_of unary.ToInt v = map_ok (λ n. Int (wrap w32 n)) (whole width.Long v)
unary_of (unary.LowByte w) v = map_ok (λ n. Int (pos (low_bits w8 n))) (whole w v)
unary_of (unary.LowShort w) v = map_ok (λ n. Int (pos (low_bits w16 n))) (whole w v)

-- the value of a compound assignment
abbrev pub given : Gives → Val → Val → Val
given Old old new = old
given New old new = new
