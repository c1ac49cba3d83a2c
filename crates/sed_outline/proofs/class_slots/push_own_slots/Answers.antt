use Rattle.std.proofs.Common.{arith, sym}
use Rattle.sed_classes.specs.Slots.{slot_of}
use Rattle.sed_value.proofs.Found.{found_step}
use Rattle.sed_outline.proofs.class_slots.push_own_slots.Goals as goal

pub loop-member-preserved : goal.loop-member-preserved
loop-member-preserved c =
    found_step
    (slot_of c.args.classes.now c.args.kit)
    c.loop-member.member-index
    c.args.all.now
    c.member-item.result
    c.args.into.now.items
    c.loop-member.into.items
    c.push_slot.new.into.items
    c.slot_of.result
    (omega arith)
    (sym c.member-item.is)
    c.slot_of.ensures
    c.in_ok-push_slot.ensures
    c.loop-member.invariant
