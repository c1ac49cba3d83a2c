use Rattle.std.proofs.Common.{None, sym, ap, ◌∙◌}
use Rattle.std.specs.List.{flat_map}
use Rattle.sed_faults.specs.Faults.{least}
use Rattle.sed_classes.specs.Faults.{first_of}
use Rattle.sed_classes.specs.Members.{members_of}
use Rattle.sed_first_fault.specs.Nodes.{spelled_faults}
use Rattle.sed_first_fault.specs.Parts.{spelled_at}
use Rattle.sed_first_fault.proofs.Loops.{row_end, row_item, spelled_begin, spelled_end, spelled_next}
use Rattle.sed_first_fault.proofs.declared.spellings_fault.Goals as goal

pub loop-class-init : goal.loop-class-init
loop-class-init c = spelled_begin c.args.measured.now

pub spelling_fault-fault-requires : goal.spelling_fault-fault-requires
spelling_fault-fault-requires c =
    let units = c.args.measured.now in
    row_item
    units
    (λ k. least (flat_map spelled_faults (members_of units k)))
    c.args.spelled.now
    c.loop-class.class
    None
    c.requires
    c.loop-class-test.true
    ∙ ap
    (λ u. least (flat_map spelled_faults (members_of u c.loop-class.class)))
    (sym (c.classes-classes.ensures ∙ c.based.ensures))

pub loop-class-preserved : goal.loop-class-preserved
loop-class-preserved c =
    spelled_next
    c.args.measured.now
    c.loop-class.class
    c.loop-class.far
    c.spelling_fault-fault.result
    c.lesser-far.result
    (c.spelling_fault-fault.ensures
    ∙ ap (λ u. first_of (spelled_at u c.loop-class.class)) (c.classes-classes.ensures ∙ c.based.ensures))
    c.lesser-far.ensures
    c.loop-class.invariant

pub returns : goal.returns
returns c =
    let units = c.args.measured.now in
    spelled_end
    units
    c.loop-class.class
    c.loop-class.far
    (row_end
    units
    (λ k. least (flat_map spelled_faults (members_of units k)))
    c.args.spelled.now
    c.loop-class.class
    c.requires
    c.loop-class-test.false)
    c.loop-class.invariant
