-- What plain instructions do: those of operators, constants, and calls on texts.
use Rattle.std.proofs.Common.{◌≡◌, ℕ, ℤ, ◌+◌, ◌≤◌, ◌&&◌, true, List, [], ◌∷◌, length, Some, refl, sym, subst, arith}
use Rattle.std.proofs.lemmas.Bool.{and_from}
use Rattle.sed_typed.specs.declared.kind.Kind.{Kind}
use Rattle.sed_typed.specs.declared.kind.Kind.TheVariants as kind
use Rattle.sed_typed.specs.declared.operators.Arithmetic.{Arithmetic}
use Rattle.sed_typed.specs.declared.operators.Arithmetic.TheVariants as arithmetic
use Rattle.sed_typed.specs.declared.operators.Binary.{Binary}
use Rattle.sed_typed.specs.declared.operators.Binary.TheVariants as binary
use Rattle.sed_typed.specs.declared.operators.Comparison.{Comparison}
use Rattle.sed_typed.specs.declared.operators.Comparison.TheVariants as comparison
use Rattle.sed_typed.specs.declared.operators.TextCall.{TextCall}
use Rattle.sed_typed.specs.declared.operators.TextCall.TheVariants as text
use Rattle.sed_typed.specs.declared.operators.Unary.{Unary}
use Rattle.sed_typed.specs.declared.operators.Unary.TheVariants as unary
use Rattle.sed_typed.specs.declared.operators.Width.{Width}
use Rattle.sed_typed.specs.declared.operators.Width.TheVariants as width
use Rattle.sed_typed.specs.Kinds.{binary_kind, text_kind, unary_kind, width_kind}
use Rattle.sed_typed.specs.TypedExpr.{AreOperands, IsReference, operand_kind, right_kind, text_kinds}
use Rattle.scode_image.specs.declared.image.Image.{Image}
use Rattle.scode_image.specs.declared.image.ImageKind.{ImageKind}
use Rattle.scode_code.specs.Kinds.{bool, int, long, object, statics, str}
use Rattle.scode_code.specs.Wants.{meets}
use Rattle.scode_code.specs.declared.needs.Need.TheVariants.{Reference}
use Rattle.scode_code.proofs.Verifies.{all_go_to_themselves}
use Rattle.scode_ops.specs.declared.op.Op.{Op}
use Rattle.scode_ops.specs.declared.op.Op.TheVariants as op
use Rattle.scode_emit.specs.Instructions.{arithmetic_op, binary_op, comparison_op, pop_code, text_op, unary_code}
use Rattle.scode_entries.specs.Entries.{above}
use Rattle.scode_fine.proofs.Builds.{Does, builds, pop_does, steps}
use Rattle.scode_fine.proofs.Walks.{Ground, Stack, Stops, Walks, has_all, only, runs}

-- ---- constants

pub int_does : (g : Ground) (n : ℤ) (below : Stack) → Does g (op.Int n) below (int ∷ below)
int_does g n below at low high = steps below (int ∷ below) (op.Int n) refl refl refl low high

pub long_does : (g : Ground) (n : ℤ) (below : Stack) → Does g (op.Long n) below (long ∷ below)
long_does g n below at low high = steps below (long ∷ below) (op.Long n) refl refl refl low high

pub bool_does : (g : Ground) (t : ℕ) (below : Stack) → Does g (op.Bool t) below (bool ∷ below)
bool_does g t below at low high = steps below (bool ∷ below) (op.Bool t) refl refl refl low high

pub statics_does : (g : Ground) (below : Stack) → Does g op.Statics below (statics ∷ below)
statics_does g below at low high = steps below (statics ∷ below) op.Statics refl refl refl low high

pub ticks_does : (g : Ground) (below : Stack) → Does g op.Ticks below (long ∷ below)
ticks_does g below at low high = steps below (long ∷ below) op.Ticks refl refl refl low high

pub not_does : (g : Ground) (below : Stack) → Does g op.Not (bool ∷ below) (bool ∷ below)
not_does g below at low high = steps (bool ∷ below) (bool ∷ below) op.Not refl refl refl low high

pub turn_does : (g : Ground) (below : Stack) → Does g op.Turn below below
turn_does g below at low high = steps below below op.Turn refl refl refl low high

pub equal_does : (g : Ground) (below : Stack) → Does g op.IntEq (int ∷ int ∷ below) (bool ∷ below)
equal_does g below at low high = steps (int ∷ int ∷ below) (bool ∷ below) op.IntEq refl refl refl low high

pub to_byte_does : (g : Ground) (below : Stack) → Does g op.IntToByte (int ∷ below) (int ∷ below)
to_byte_does g below at low high = steps (int ∷ below) (int ∷ below) op.IntToByte refl refl refl low high

pub to_short_does : (g : Ground) (below : Stack) → Does g op.IntToShort (int ∷ below) (int ∷ below)
to_short_does g below at low high = steps (int ∷ below) (int ∷ below) op.IntToShort refl refl refl low high

-- ---- operators

pub arithmetic_does : (g : Ground) (a : Arithmetic) (w : Width) (below : Stack) →
    Does g (arithmetic_op a w) (above (right_kind a w) (above (width_kind w) below)) (above (width_kind w) below)
arithmetic_does g arithmetic.Add width.Int below at low high =
    steps (int ∷ int ∷ below) (int ∷ below) op.IntAdd refl refl refl low high
arithmetic_does g arithmetic.Subtract width.Int below at low high =
    steps (int ∷ int ∷ below) (int ∷ below) op.IntSub refl refl refl low high
arithmetic_does g arithmetic.Multiply width.Int below at low high =
    steps (int ∷ int ∷ below) (int ∷ below) op.IntMul refl refl refl low high
arithmetic_does g arithmetic.Divide width.Int below at low high =
    steps (int ∷ int ∷ below) (int ∷ below) op.IntDiv refl refl refl low high
arithmetic_does g arithmetic.Remainder width.Int below at low high =
    steps (int ∷ int ∷ below) (int ∷ below) op.IntRem refl refl refl low high
arithmetic_does g arithmetic.BitAnd width.Int below at low high =
    steps (int ∷ int ∷ below) (int ∷ below) op.IntAnd refl refl refl low high
arithmetic_does g arithmetic.BitOr width.Int below at low high =
    steps (int ∷ int ∷ below) (int ∷ below) op.IntOr refl refl refl low high
arithmetic_does g arithmetic.BitXor width.Int below at low high =
    steps (int ∷ int ∷ below) (int ∷ below) op.IntXor refl refl refl low high
arithmetic_does g arithmetic.ShiftLeft width.Int below at low high =
    steps (int ∷ int ∷ below) (int ∷ below) op.IntShl refl refl refl low high
arithmetic_does g arithmetic.ShiftRight width.Int below at low high =
    steps (int ∷ int ∷ below) (int ∷ below) op.IntShr refl refl refl low high
arithmetic_does g arithmetic.Add width.Long below at low high =
    steps (long ∷ long ∷ below) (long ∷ below) op.LongAdd refl refl refl low high
arithmetic_does g arithmetic.Subtract width.Long below at low high =
    steps (long ∷ long ∷ below) (long ∷ below) op.LongSub refl refl refl low high
arithmetic_does g arithmetic.Multiply width.Long below at low high =
    steps (long ∷ long ∷ below) (long ∷ below) op.LongMul refl refl refl low high
arithmetic_does g arithmetic.Divide width.Long below at low high =
    steps (long ∷ long ∷ below) (long ∷ below) op.LongDiv refl refl refl low high
arithmetic_does g arithmetic.Remainder width.Long below at low high =
    steps (long ∷ long ∷ below) (long ∷ below) op.LongRem refl refl refl low high
arithmetic_does g arithmetic.BitAnd width.Long below at low high =
    steps (long ∷ long ∷ below) (long ∷ below) op.LongAnd refl refl refl low high
arithmetic_does g arithmetic.BitOr width.Long below at low high =
    steps (long ∷ long ∷ below) (long ∷ below) op.LongOr refl refl refl low high
arithmetic_does g arithmetic.BitXor width.Long below at low high =
    steps (long ∷ long ∷ below) (long ∷ below) op.LongXor refl refl refl low high
arithmetic_does g arithmetic.ShiftLeft width.Long below at low high =
    steps (int ∷ long ∷ below) (long ∷ below) op.LongShl refl refl refl low high
arithmetic_does g arithmetic.ShiftRight width.Long below at low high =
    steps (int ∷ long ∷ below) (long ∷ below) op.LongShr refl refl refl low high

comparison_does : (g : Ground) (c : Comparison) (w : Width) (below : Stack) →
    Does g (comparison_op c w) (above (width_kind w) (above (width_kind w) below)) (bool ∷ below)
comparison_does g comparison.Equal width.Int below at low high =
    steps (int ∷ int ∷ below) (bool ∷ below) op.IntEq refl refl refl low high
comparison_does g comparison.NotEqual width.Int below at low high =
    steps (int ∷ int ∷ below) (bool ∷ below) op.IntNe refl refl refl low high
comparison_does g comparison.Less width.Int below at low high =
    steps (int ∷ int ∷ below) (bool ∷ below) op.IntLt refl refl refl low high
comparison_does g comparison.LessOrEqual width.Int below at low high =
    steps (int ∷ int ∷ below) (bool ∷ below) op.IntLe refl refl refl low high
comparison_does g comparison.Greater width.Int below at low high =
    steps (int ∷ int ∷ below) (bool ∷ below) op.IntGt refl refl refl low high
comparison_does g comparison.GreaterOrEqual width.Int below at low high =
    steps (int ∷ int ∷ below) (bool ∷ below) op.IntGe refl refl refl low high
comparison_does g comparison.Equal width.Long below at low high =
    steps (long ∷ long ∷ below) (bool ∷ below) op.LongEq refl refl refl low high
comparison_does g comparison.NotEqual width.Long below at low high =
    steps (long ∷ long ∷ below) (bool ∷ below) op.LongNe refl refl refl low high
comparison_does g comparison.Less width.Long below at low high =
    steps (long ∷ long ∷ below) (bool ∷ below) op.LongLt refl refl refl low high
comparison_does g comparison.LessOrEqual width.Long below at low high =
    steps (long ∷ long ∷ below) (bool ∷ below) op.LongLe refl refl refl low high
comparison_does g comparison.Greater width.Long below at low high =
    steps (long ∷ long ∷ below) (bool ∷ below) op.LongGt refl refl refl low high
comparison_does g comparison.GreaterOrEqual width.Long below at low high =
    steps (long ∷ long ∷ below) (bool ∷ below) op.LongGe refl refl refl low high

-- two references, of a Str or of objects, by what is asked of each
references : (g : Ground) (i : Op) →
    ((a b : ImageKind) (below : Stack) → meets g.image Reference a ≡ true → meets g.image Reference b ≡ true →
    Does g i (a ∷ b ∷ below) (bool ∷ below)) →
    (j k : Kind) (below : Stack) → IsReference j → IsReference k → Does g i (above k (above j below)) (bool ∷ below)
references g i does kind.Text kind.Text below r s = does str str below refl refl
references g i does kind.Text (kind.Object d) below r s = does (object d.0) str below refl refl
references g i does (kind.Object c) kind.Text below r s = does str (object c.0) below refl refl
references g i does (kind.Object c) (kind.Object d) below r s = does (object d.0) (object c.0) below refl refl
references g i does kind.Text k below r s = absurd s
references g i does (kind.Object c) k below r s = absurd s
references g i does j k below r s = absurd r

both_met : (image : Image) (a b : ImageKind) (below : Stack) → meets image Reference a ≡ true → meets image Reference b ≡ true →
    has_all image (Reference ∷ Reference ∷ []) (a ∷ b ∷ below) ≡ true
both_met image a b below e f =
    and_from (meets image Reference a) (meets image Reference b && true) e (and_from (meets image Reference b) true f refl)

same_does : (g : Ground) (a b : ImageKind) (below : Stack) → meets g.image Reference a ≡ true → meets g.image Reference b ≡ true →
    Does g op.RefEq (a ∷ b ∷ below) (bool ∷ below)
same_does g a b below e f at low high =
    builds (a ∷ b ∷ below) (bool ∷ below) op.RefEq refl (both_met g.image a b below e f) refl refl
    (all_go_to_themselves g.image g.m.locals) refl refl (all_go_to_themselves g.image (bool ∷ below)) low high

other_does : (g : Ground) (a b : ImageKind) (below : Stack) → meets g.image Reference a ≡ true → meets g.image Reference b ≡ true →
    Does g op.RefNe (a ∷ b ∷ below) (bool ∷ below)
other_does g a b below e f at low high =
    builds (a ∷ b ∷ below) (bool ∷ below) op.RefNe refl (both_met g.image a b below e f) refl refl
    (all_go_to_themselves g.image g.m.locals) refl refl (all_go_to_themselves g.image (bool ∷ below)) low high

-- operands of these kinds are those that the operator takes
by_kinds : (g : Ground) (i : Op) (a b j k : Kind) (below next : Stack) → j ≡ a → k ≡ b → Does g i (above b (above a below)) next →
    Does g i (above k (above j below)) next
by_kinds g i a b j k below next e f d =
    subst (λ (x : Kind). Does g i (above k (above x below)) next) (sym e)
    (subst (λ (x : Kind). Does g i (above x (above a below)) next) (sym f) d)

pub binary_does : (g : Ground) (b : Binary) (j k : Kind) (below : Stack) → AreOperands b j k →
    Does g (binary_op b) (above k (above j below)) (above (binary_kind b) below)
binary_does g (binary.Arithmetic a w) j k below h =
    by_kinds g (arithmetic_op a w) (width_kind w) (right_kind a w) j k below (above (width_kind w) below) h.0 h.1
    (arithmetic_does g a w below)
binary_does g (binary.Compare c w) j k below h =
    by_kinds g (comparison_op c w) (width_kind w) (width_kind w) j k below (bool ∷ below) h.0 h.1
    (comparison_does g c w below)
binary_does g binary.SameTruth j k below h =
    by_kinds g op.BoolEq kind.Bool kind.Bool j k below (bool ∷ below) h.0 h.1
    (λ at low high. steps (bool ∷ bool ∷ below) (bool ∷ below) op.BoolEq refl refl refl low high)
binary_does g binary.OtherTruth j k below h =
    by_kinds g op.BoolNe kind.Bool kind.Bool j k below (bool ∷ below) h.0 h.1
    (λ at low high. steps (bool ∷ bool ∷ below) (bool ∷ below) op.BoolNe refl refl refl low high)
binary_does g binary.SameReference j k below h = references g op.RefEq (same_does g) j k below h.0 h.1
binary_does g binary.OtherReference j k below h = references g op.RefNe (other_does g) j k below h.0 h.1

-- ---- operators on one value

pub unary_walks : (g : Ground) (at : ℕ) (u : Unary) (below : Stack) → length below + 1 ≤ g.m.stack →
    Walks g at (Some (above (operand_kind u) below)) (unary_code u) [] [] (Some (above (unary_kind u) below))
unary_walks g at unary.Not below low =
    only (steps (bool ∷ below) (bool ∷ below) op.Not refl refl refl (omega (arith, low)) (omega (arith, low)))
unary_walks g at (unary.Negate width.Int) below low =
    only (steps (int ∷ below) (int ∷ below) op.IntNeg refl refl refl (omega (arith, low)) (omega (arith, low)))
unary_walks g at (unary.Negate width.Long) below low =
    only (steps (long ∷ below) (long ∷ below) op.LongNeg refl refl refl (omega (arith, low)) (omega (arith, low)))
unary_walks g at (unary.Flip width.Int) below low =
    only (steps (int ∷ below) (int ∷ below) op.IntNot refl refl refl (omega (arith, low)) (omega (arith, low)))
unary_walks g at (unary.Flip width.Long) below low =
    only (steps (long ∷ below) (long ∷ below) op.LongNot refl refl refl (omega (arith, low)) (omega (arith, low)))
unary_walks g at unary.ToLong below low =
    only (steps (int ∷ below) (long ∷ below) op.IntToLong refl refl refl (omega (arith, low)) (omega (arith, low)))
unary_walks g at unary.ToInt below low =
    only (steps (long ∷ below) (int ∷ below) op.LongToInt refl refl refl (omega (arith, low)) (omega (arith, low)))
unary_walks g at (unary.LowByte width.Int) below low =
    only (steps (int ∷ below) (int ∷ below) op.IntToByte refl refl refl (omega (arith, low)) (omega (arith, low)))
unary_walks g at (unary.LowShort width.Int) below low =
    only (steps (int ∷ below) (int ∷ below) op.IntToShort refl refl refl (omega (arith, low)) (omega (arith, low)))
unary_walks g at (unary.LowByte width.Long) below low =
    runs (steps (long ∷ below) (int ∷ below) op.LongToInt refl refl refl (omega (arith, low)) (omega (arith, low)))
    (only (steps (int ∷ below) (int ∷ below) op.IntToByte refl refl refl (omega (arith, low)) (omega (arith, low))))
unary_walks g at (unary.LowShort width.Long) below low =
    runs (steps (long ∷ below) (int ∷ below) op.LongToInt refl refl refl (omega (arith, low)) (omega (arith, low)))
    (only (steps (int ∷ below) (int ∷ below) op.IntToShort refl refl refl (omega (arith, low)) (omega (arith, low))))

-- ---- a value that is taken off, where there is one

pub pop_walks : (g : Ground) (at : ℕ) (k : Kind) (below : Stack) → length below + 1 ≤ g.m.stack →
    Walks g at (Some (above k below)) (pop_code k) [] [] (Some below)
pop_walks g at kind.Void below low = Stops
pop_walks g at kind.Bool below low = only (pop_does g bool below at (omega (arith, low)) (omega (arith, low)))
pop_walks g at kind.Int below low = only (pop_does g int below at (omega (arith, low)) (omega (arith, low)))
pop_walks g at kind.Long below low = only (pop_does g long below at (omega (arith, low)) (omega (arith, low)))
pop_walks g at kind.Text below low = only (pop_does g str below at (omega (arith, low)) (omega (arith, low)))
pop_walks g at (kind.Object class) below low = only (pop_does g (object class.0) below at (omega (arith, low)) (omega (arith, low)))

-- ---- calls on texts

-- arguments of these kinds above what is there, the last on top
abbrev pub args_on : List Kind → Stack → Stack
args_on [] below = below
args_on (k ∷ ks) below = args_on ks (above k below)

pub text_does : (g : Ground) (t : TextCall) (below : Stack) →
    Does g (text_op t) (args_on (text_kinds t) (str ∷ below)) (above (text_kind t) below)
text_does g text.Length below at low high = steps (str ∷ below) (int ∷ below) op.StrLen refl refl refl low high
text_does g text.Get below at low high = steps (int ∷ str ∷ below) (int ∷ below) op.StrGet refl refl refl low high
text_does g text.Set below at low high = steps (int ∷ int ∷ str ∷ below) below op.StrSet refl refl refl low high
text_does g text.Equals below at low high = steps (str ∷ str ∷ below) (bool ∷ below) op.StrEq refl refl refl low high
text_does g text.Copy below at low high = steps (str ∷ str ∷ below) below op.StrCopy refl refl refl low high
