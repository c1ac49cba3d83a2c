use Rattle.std.proofs.Common.{◌<◌, ◌≤◌, length, ◌∙◌, arith}
use Rattle.sed_classes.specs.LimitRules.{statics_before}
use Rattle.sed_outline.specs.Rounds.{capped}
use Rattle.sed_first_fault.proofs.Loops.{declared_end, declared_next, row_end, row_item}
use Rattle.sed_first_fault.proofs.declared.classes_fault.Goals as goal

pub class_fault-requires-clause-before : goal.class_fault-requires-clause-before
class_fault-requires-clause-before c =
    let units = c.args.measured.now in
    let within : c.loop-class.class < length c.in_ok-before.before.items = omega arith in
    c.index.ensures
    ∙ row_item
    units
    (λ k. capped (statics_before units k))
    c.in_ok-before.before.items
    c.loop-class.class
    c.index.result.now
    c.in_ok-before.ensures
    within

pub loop-class-preserved : goal.loop-class-preserved
loop-class-preserved c =
    declared_next
    c.args.measured.now
    c.loop-class.class
    c.loop-class.far
    c.in_ok-fault.fault
    c.lesser-far.result
    c.in_ok-fault.ensures
    c.lesser-far.ensures
    c.loop-class.invariant

pub returns : goal.returns
returns c =
    let units = c.args.measured.now in
    let past : length c.in_ok-before.before.items ≤ c.loop-class.class = omega arith in
    declared_end
    units
    c.loop-class.class
    c.loop-class.far
    (row_end
    units
    (λ k. capped (statics_before units k))
    c.in_ok-before.before.items
    c.loop-class.class
    c.in_ok-before.ensures
    past)
    c.loop-class.invariant
