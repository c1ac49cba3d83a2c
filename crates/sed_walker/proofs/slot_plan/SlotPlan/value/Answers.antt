use Rattle.sed_engine.specs.Code.{slot_type}
use Rattle.sed_engine.specs.Program.{meaning_of}
use Rattle.sed_walker.proofs.Kept.{typed_slot, is_not_long}
use Rattle.sed_walker.proofs.slot_plan.SlotPlan.value.Goals as goal

pub value_in-requires : goal.value_in-requires
value_in-requires c =
    let plan = c.args.self.now in
    let t = typed_slot (slot_type (meaning_of plan.program) c.args.class c.args.slot.0) c.requires.property in
    is_not_long plan c.args.class c.args.cells.now c.args.slot.0 t.0 c.requires.tables c.requires.object t.1 c.in-Some.number c.in-Some.ensures
