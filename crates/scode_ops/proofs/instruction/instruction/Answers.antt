use Rattle.std.proofs.Common.{◌∙◌, ap}
use Rattle.std.specs.Prelude.{Some}
use Rattle.scode_ops.specs.declared.operands.Operands.{Operands}
use Rattle.scode_ops.specs.Forms.{kind_of}
use Rattle.scode_ops.proofs.FormLemmas.{is_u2u1-number, is_i4-number, is_i8-number}
use Rattle.scode_ops.proofs.instruction.instruction.Goals as goal

pub returns-in-U2U1-clause-number : goal.returns-in-U2U1-clause-number
returns-in-U2U1-clause-number c = is_u2u1-number c.args.number (c.requires ∙ ap (λ (o : Operands). Some (kind_of o)) c.in-U2U1.is)

pub returns-in-I4-clause-number : goal.returns-in-I4-clause-number
returns-in-I4-clause-number c = is_i4-number c.args.number (c.requires ∙ ap (λ (o : Operands). Some (kind_of o)) c.in-I4.is)

pub returns-in-I8-clause-number : goal.returns-in-I8-clause-number
returns-in-I8-clause-number c = is_i8-number c.args.number (c.requires ∙ ap (λ (o : Operands). Some (kind_of o)) c.in-I8.is)
