use Rattle.std.proofs.Common.{◌∙◌}
use Rattle.scode_vm.proofs.Returns.{value_on}
use Rattle.scode_vm.proofs.calls.return_value.Goals as goal

pub returns : goal.returns
returns c = λ image turns moment.
    value_on image c.args.cells.now c.top-value.result c.top-value.ensures c.leave_with.new.self turns moment
    c.requires.2.runs (λ e. c.if-depth-eq1.false (c.depth.ensures ∙ e)) c.leave_with.ensures
