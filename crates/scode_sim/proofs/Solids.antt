-- Kinds that are not void: those of operands, and of what has a field.
use Rattle.std.proofs.Common.{◌≡◌, ℕ, Some, sym, subst}
use Rattle.sed_typed.specs.declared.kind.Kind.{Kind}
use Rattle.sed_typed.specs.declared.kind.Kind.TheVariants as kind
use Rattle.sed_typed.specs.declared.operators.Arithmetic.{Arithmetic}
use Rattle.sed_typed.specs.declared.operators.Arithmetic.TheVariants as arithmetic
use Rattle.sed_typed.specs.declared.operators.Binary.{Binary}
use Rattle.sed_typed.specs.declared.operators.Binary.TheVariants as binary
use Rattle.sed_typed.specs.declared.operators.Unary.{Unary}
use Rattle.sed_typed.specs.declared.operators.Unary.TheVariants as unary
use Rattle.sed_typed.specs.declared.operators.Width.{Width}
use Rattle.sed_typed.specs.declared.operators.Width.TheVariants as width
use Rattle.sed_typed.specs.declared.program.FieldForm.{FieldForm}
use Rattle.sed_typed.specs.declared.program.Program.{Program}
use Rattle.sed_typed.specs.Kinds.{width_kind, binary_kind}
use Rattle.sed_typed.specs.TypedExpr.{AreOperands, IsReference, operand_kind, right_kind, field_form}
use Rattle.sed_engine.proofs.Below.{absent}
use Rattle.scode_sim.proofs.Frames.{IsSolid}
use Rattle.scode_sim.proofs.Stores.{width_solid}

pub operand_solid : (u : Unary) → IsSolid (operand_kind u)
operand_solid unary.Not = tt
operand_solid (unary.Negate width.Int) = tt
operand_solid (unary.Negate width.Long) = tt
operand_solid (unary.Flip width.Int) = tt
operand_solid (unary.Flip width.Long) = tt
operand_solid unary.ToLong = tt
operand_solid unary.ToInt = tt
operand_solid (unary.LowByte width.Int) = tt
operand_solid (unary.LowByte width.Long) = tt
operand_solid (unary.LowShort width.Int) = tt
operand_solid (unary.LowShort width.Long) = tt

pub reference_solid : (k : Kind) → IsReference k → IsSolid k
reference_solid kind.Void h = absurd h
reference_solid kind.Bool h = tt
reference_solid kind.Int h = tt
reference_solid kind.Long h = tt
reference_solid kind.Text h = tt
reference_solid (kind.Object d) h = tt

pub right_solid : (op : Arithmetic) (k : Width) → IsSolid (right_kind op k)
right_solid arithmetic.ShiftLeft k = tt
right_solid arithmetic.ShiftRight k = tt
right_solid arithmetic.Add k = width_solid k
right_solid arithmetic.Subtract k = width_solid k
right_solid arithmetic.Multiply k = width_solid k
right_solid arithmetic.Divide k = width_solid k
right_solid arithmetic.Remainder k = width_solid k
right_solid arithmetic.BitAnd k = width_solid k
right_solid arithmetic.BitOr k = width_solid k
right_solid arithmetic.BitXor k = width_solid k

-- what has a field is an object
pub form_solid : (program : Program) (k : Kind) (i : ℕ) (f : FieldForm) → field_form program k i ≡ Some f → IsSolid k
form_solid program (kind.Object d) i f e = tt
form_solid program kind.Void i f e = absent f e
form_solid program kind.Bool i f e = tt
form_solid program kind.Int i f e = tt
form_solid program kind.Long i f e = tt
form_solid program kind.Text i f e = tt

-- both operands of an operator have cells, and its value
pub operands_solid : (op : Binary) (j k : Kind) → AreOperands op j k → IsSolid j × IsSolid k
operands_solid (binary.Arithmetic op w) j k h = (subst IsSolid (sym h.0) (width_solid w), subst IsSolid (sym h.1) (right_solid op w))
operands_solid (binary.Compare op w) j k h = (subst IsSolid (sym h.0) (width_solid w), subst IsSolid (sym h.1) (width_solid w))
operands_solid binary.SameTruth j k h = (subst IsSolid (sym h.0) tt, subst IsSolid (sym h.1) tt)
operands_solid binary.OtherTruth j k h = (subst IsSolid (sym h.0) tt, subst IsSolid (sym h.1) tt)
operands_solid binary.SameReference j k h = (reference_solid j h.0, reference_solid k h.1)
operands_solid binary.OtherReference j k h = (reference_solid j h.0, reference_solid k h.1)

pub binary_solid : (op : Binary) → IsSolid (binary_kind op)
binary_solid (binary.Arithmetic op w) = width_solid w
binary_solid (binary.Compare op w) = tt
binary_solid binary.SameTruth = tt
binary_solid binary.OtherTruth = tt
binary_solid binary.SameReference = tt
binary_solid binary.OtherReference = tt
