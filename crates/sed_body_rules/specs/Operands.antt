-- The rules on operands. Rule 13 is broken at each operand of a wrong kind; of two that are compared, at the whole.
use Rattle.std.specs.Prelude.{ℕ, Bool, true, false, ◌&&◌, if◌then◌else◌, Option, Some, None}
use Rattle.sed_units.specs.declared.operators.BinaryOp.{BinaryOp}
use Rattle.sed_units.specs.declared.operators.BinaryOp.TheVariants as op
use Rattle.sed_value.specs.declared.slot_type.Primitive.{Primitive}
use Rattle.sed_value.specs.declared.slot_type.Primitive.TheVariants as prim
use Rattle.sed_typed.specs.declared.operators.Arithmetic.{Arithmetic}
use Rattle.sed_typed.specs.declared.operators.Arithmetic.TheVariants as arithmetic
use Rattle.sed_typed.specs.declared.operators.Binary.{Binary}
use Rattle.sed_typed.specs.declared.operators.Binary.TheVariants as binary
use Rattle.sed_typed.specs.declared.operators.Comparison.{Comparison}
use Rattle.sed_typed.specs.declared.operators.Comparison.TheVariants as comparison
use Rattle.sed_typed.specs.declared.operators.Unary.TheVariants as unary
use Rattle.sed_typed.specs.declared.operators.Width.{Width}
use Rattle.sed_typed.specs.declared.operators.Width.TheVariants as width
use Rattle.sed_terms.specs.declared.judged.Judged.{Judged}
use Rattle.sed_terms.specs.declared.judged.Judged.TheVariants.{Sound}
use Rattle.sed_terms.specs.declared.sign.Sign.TheVariants as sign
use Rattle.sed_terms.specs.Faults.{Marks, broken, after, joined, unless, some_or}
use Rattle.sed_terms.specs.Forms.{indexed, has_elements}
use Rattle.sed_terms.specs.Sorts.{sort_of}
use Rattle.sed_terms.specs.Term.{Term, Absent, Node}
use Rattle.sed_body_rules.specs.Conversions.{is_number, is_bool, is_int, is_reference, width_of, meeting, in_width}
use Rattle.sed_body_rules.specs.Conversions.{beside}
use Rattle.sed_body_rules.specs.Wants.{wants, truth}

-- ---- one operand

abbrev pub negated : {F : Type 0} → Marks F → ℕ → Judged Term F → Judged Term F
negated m at x = after (truth m at x) (λ t. Sound (Node (sign.Unary unary.Not) t Absent))

abbrev pub opposite : {F : Type 0} → Marks F → ℕ → Judged Term F → Judged Term F
opposite m at x = after (wants m is_number at x) (λ t. Sound (Node (sign.Unary (unary.Negate (width_of t))) t Absent))

abbrev pub flipped : {F : Type 0} → Marks F → ℕ → Judged Term F → Judged Term F
flipped m at x = after (wants m is_number at x) (λ t. Sound (Node (sign.Unary (unary.Flip (width_of t))) t Absent))

-- a number as another primitive; a byte or a short is an int
abbrev pub cast_to : Primitive → Width → Term → Term
cast_to prim.Byte w t = Node (sign.Unary (unary.LowByte w)) t Absent
cast_to prim.Short w t = Node (sign.Unary (unary.LowShort w)) t Absent
cast_to prim.Int width.Long t = Node (sign.Unary unary.ToInt) t Absent
cast_to prim.Long width.Int t = Node (sign.Unary unary.ToLong) t Absent
cast_to p w t = t

abbrev pub is_cast : Primitive → Bool
is_cast prim.Bool = false
is_cast p = true

-- `at` is the place of the cast, and `right` that of its operand
abbrev pub cast : {F : Type 0} → Marks F → ℕ → Primitive → ℕ → Judged Term F → Judged Term F
cast m at p right x = joined m (unless m (is_cast p) (broken 13 at) p)
    (wants m is_number right x) (λ q t. Sound (cast_to q (width_of t) t))

-- ---- two operands

-- what an operator does
pub data Form : Type 0 where
  Numbers : Arithmetic → Form
  Shift : Arithmetic → Form
  Order : Comparison → Form
  -- of numbers, of bools and of references
  Equality : Comparison → Binary → Binary → Form
  Both : Form
  Either : Form

abbrev pub form_of : BinaryOp → Form
form_of op.Or = Either
form_of op.And = Both
form_of op.Equal = Equality comparison.Equal binary.SameTruth binary.SameReference
form_of op.NotEqual = Equality comparison.NotEqual binary.OtherTruth binary.OtherReference
form_of op.Less = Order comparison.Less
form_of op.LessOrEqual = Order comparison.LessOrEqual
form_of op.Greater = Order comparison.Greater
form_of op.GreaterOrEqual = Order comparison.GreaterOrEqual
form_of op.BitOr = Numbers arithmetic.BitOr
form_of op.BitXor = Numbers arithmetic.BitXor
form_of op.BitAnd = Numbers arithmetic.BitAnd
form_of op.ShiftLeft = Shift arithmetic.ShiftLeft
form_of op.ShiftRight = Shift arithmetic.ShiftRight
form_of op.Add = Numbers arithmetic.Add
form_of op.Subtract = Numbers arithmetic.Subtract
form_of op.Multiply = Numbers arithmetic.Multiply
form_of op.Divide = Numbers arithmetic.Divide
form_of op.Remainder = Numbers arithmetic.Remainder

abbrev pub calculated : Arithmetic → Width → Term → Term → Term
calculated a w x y = Node (sign.Binary (binary.Arithmetic a w)) (in_width w x) (in_width w y)

abbrev pub compared : Comparison → Width → Term → Term → Term
compared c w x y = Node (sign.Binary (binary.Compare c w)) (in_width w x) (in_width w y)

-- two numbers, two bools or two references, by these operators
abbrev pub equated_pair : Comparison → Binary → Binary → Term → Term → Option Term
equated_pair c truths references x y =
    if is_number (sort_of x) && is_number (sort_of y) then Some (compared c (meeting x y) x y)
    else if is_bool (sort_of x) && is_bool (sort_of y) then Some (Node (sign.Binary truths) x y)
    else if is_reference (sort_of x) && is_reference (sort_of y) then Some (Node (sign.Binary references) x y)
    else None

abbrev pub equated : Comparison → Binary → Binary → Term → Term → Option Term
equated c truths references x y =
    equated_pair c truths references (beside (sort_of y) (sort_of x) x) (beside (sort_of x) (sort_of y) y)

-- `at` is the place of the left operand, and of the whole; `right` that of the right one
abbrev pub operated : {F : Type 0} → Marks F → Form → ℕ → ℕ → Judged Term F → Judged Term F → Judged Term F
operated m (Numbers a) at right x y =
    joined m (wants m is_number at x) (wants m is_number right y) (λ s t. Sound (calculated a (meeting s t) s t))
operated m (Shift a) at right x y =
    joined m (wants m is_number at x) (wants m is_int right y) (λ s t.
    Sound (Node (sign.Binary (binary.Arithmetic a (width_of s))) s t))
operated m (Order c) at right x y =
    joined m (wants m is_number at x) (wants m is_number right y) (λ s t. Sound (compared c (meeting s t) s t))
operated m (Equality c truths references) at right x y =
    joined m x y (λ s t. some_or m (broken 13 at) (equated c truths references s t))
operated m Both at right x y = joined m (truth m at x) (truth m right y) (λ s t. Sound (Node sign.And s t))
operated m Either at right x y = joined m (truth m at x) (truth m right y) (λ s t. Sound (Node sign.Or s t))

-- an index: what stands before the bracket, with its place, and what is in it
abbrev pub element : {F : Type 0} → Marks F → ℕ → ℕ → Judged Term F → Judged Term F → Judged Term F
element m at right x y =
    joined m (wants m has_elements at x) (wants m is_int right y) (λ t index. Sound (indexed t index))
