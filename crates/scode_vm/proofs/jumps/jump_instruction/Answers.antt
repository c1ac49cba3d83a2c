use Rattle.std.proofs.Common.{Ok, sym, subst}
use Rattle.scode_ops.specs.declared.op.Op.{Op}
use Rattle.scode_code.specs.Steps.{effect}
use Rattle.scode_vm.specs.Doings.{Does}
use Rattle.scode_vm.proofs.jumps.jump_instruction.Goals as goal

pub returns-in-Jump : goal.returns-in-Jump
returns-in-Jump c =
    subst (λ (o : Op). Does (λ w. effect w o) c.args.cells.now (Ok tt) c.jump.new.cells) (sym c.in-Jump.is)
    c.jump.ensures
