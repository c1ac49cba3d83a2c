use Rattle.std.proofs.Common.{◌∙◌, ap, Ok}
use Rattle.scode_engine.specs.AtWork.{running_on}
use Rattle.scode_engine.specs.Root.{rooted}
use Rattle.scode_engine.proofs.Steps.{begins_so, ends_by, ends_with, falls, goes_on}
use Rattle.scode_engine.proofs.looping.run.Goals as goal

pub steps-init : goal.steps-init
steps-init c =
    begins_so (rooted c.args.call.now) (running_on c.args.cells.now c.args.pool.now c.args.left.now) c.requires.work

pub steps-preserved : goal.steps-preserved
steps-preserved c =
    goes_on c.machines_end_once.ensures.sum (rooted c.args.call.now)
    (running_on c.args.cells.now c.args.pool.now c.args.left.now)
    (running_on c.steps.cells c.steps.pool c.steps.left) c.steps.invariant c.step.result
    (running_on c.step.new.cells c.step.new.pool c.step.new.left) c.step.ensures (c.in-Ok-On.is ∙ ap Ok
    c.in-Ok-On.field-0-is)

pub steps-smaller : goal.steps-smaller
steps-smaller c =
    falls c.machines_end_once.ensures.sum (rooted c.args.call.now)
    (running_on c.args.cells.now c.args.pool.now c.args.left.now)
    (running_on c.steps.cells c.steps.pool c.steps.left) c.steps.invariant c.step.result
    (running_on c.step.new.cells c.step.new.pool c.step.new.left) c.step.ensures
    c.fine_machines_go_on.ensures.falls (c.in-Ok-On.is ∙ ap Ok c.in-Ok-On.field-0-is)

pub returns-in-Ok-Over : goal.returns-in-Ok-Over
returns-in-Ok-Over c =
    ends_with c.machines_end_once.ensures.sum (rooted c.args.call.now)
    (running_on c.args.cells.now c.args.pool.now c.args.left.now)
    (running_on c.steps.cells c.steps.pool c.steps.left) c.steps.invariant c.step.result
    (running_on c.step.new.cells c.step.new.pool c.step.new.left) c.step.ensures c.in-Ok-Over.value
    (c.in-Ok-Over.is ∙ ap Ok c.in-Ok-Over.field-0-is)

pub returns-in-Err : goal.returns-in-Err
returns-in-Err c =
    ends_by c.machines_end_once.ensures.sum (rooted c.args.call.now)
    (running_on c.args.cells.now c.args.pool.now c.args.left.now)
    (running_on c.steps.cells c.steps.pool c.steps.left) c.steps.invariant c.step.result
    (running_on c.step.new.cells c.step.new.pool c.step.new.left) c.step.ensures c.in-Err.trap c.in-Err.is
