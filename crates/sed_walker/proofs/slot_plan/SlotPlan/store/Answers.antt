use Rattle.std.proofs.Common.{◌≡◌, ◌∙◌, false, Some, Option, sym, ap, subst}
use Rattle.std.specs.Prelude.{ℕ, IsTrue, slice_get, slice_set}
use Rattle.std.specs.Option.{option_map, option_map_or}
use Rattle.sed_value.specs.Value.{goes_to}
use Rattle.sed_value.specs.declared.slot_type.SlotType.{SlotType}
use Rattle.sed_value.specs.declared.value.Value.{Value}
use Rattle.sed_typed.specs.declared.program.Program.{Program}
use Rattle.sed_typed.specs.Classes.{slots}
use Rattle.sed_engine.specs.Code.{property_type, slot_type}
use Rattle.sed_engine.specs.Program.{meaning_of}
use Rattle.sed_cells.specs.Places.{Plan}
use Rattle.sed_walker.specs.Slots.{object_of}
use Rattle.sed_walker.proofs.Kept.{has_cell, takes_bytes, stored_is}
use Rattle.sed_walker.proofs.slot_plan.SlotPlan.store.Goals as goal

-- the slot's type, from where it was found
type_is : (plan inside : Plan) (program : Program) (class slot : ℕ) (t : SlotType) → Some t ≡ property_type (option_map (λ s. s.form) (slice_get (slots program.schema.classes class) slot))
    → program ≡ inside.program → inside ≡ plan → slot_type (meaning_of plan.program) class slot ≡ Some t
type_is plan inside program class slot t found same view =
    ap (λ (p : Program). slot_type (meaning_of p) class slot) (sym (same ∙ ap (λ (q : Plan). q.program) view)) ∙ sym found

pub returns-in_default-cell : goal.returns-in_default-cell
returns-in_default-cell c =
    absurd
    (has_cell c.args.self.now c.args.class c.args.cells.now c.args.slot.0 c.in-Some.slot_type c.requires.tables c.requires.object
    (type_is c.args.self.now c.self.inside.plan c.program.result.now c.args.class c.args.slot.0 c.in-Some.slot_type c.in-Some.ensures c.program.ensures c.self.view_is)
    c.in_default-cell.ensures)

pub put_value-requires : goal.put_value-requires
put_value-requires c =
    let plan = c.args.self.now in
    let t = c.in-Some.slot_type in
    let is : slot_type (meaning_of plan.program) c.args.class c.args.slot.0 ≡ Some t =
    type_is plan c.self.inside.plan c.program.result.now c.args.class c.args.slot.0 t c.in-Some.ensures c.program.ensures c.self.view_is in
    let goes : IsTrue (goes_to t c.args.value.now) = subst (λ (o : Option SlotType). IsTrue (option_map_or (λ u. goes_to u c.args.value.now) o false)) is c.requires.may in
    takes_bytes plan c.args.class c.args.cells.now c.args.slot.0 t c.requires.tables c.requires.object is c.in-Some-cell.number c.in-Some-cell.ensures c.stored.result (c.stored.ensures.of_type goes)

pub returns : goal.returns
returns c =
    let plan = c.args.self.now in
    let t = c.in-Some.slot_type in
    let is : slot_type (meaning_of plan.program) c.args.class c.args.slot.0 ≡ Some t =
    type_is plan c.self.inside.plan c.program.result.now c.args.class c.args.slot.0 t c.in-Some.ensures c.program.ensures c.self.view_is in
    ap (object_of plan c.args.class) (c.put_value.ensures ∙ ap (λ (v : Value). slice_set c.args.cells.now c.in-Some-cell.number v) c.stored.ensures.kept)
    ∙ stored_is plan c.args.class c.args.cells.now c.args.slot.0 t c.requires.tables c.requires.object is c.in-Some-cell.number c.in-Some-cell.ensures c.args.value.now
