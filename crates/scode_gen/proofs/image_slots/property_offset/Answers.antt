use Rattle.std.proofs.Common.{◌∙◌, sym}
use Rattle.scode_gen.proofs.Placed.{offset_found}
use Rattle.scode_gen.proofs.image_slots.property_offset.Goals as goal

pub bounds-parts-field : goal.bounds-parts-field
bounds-parts-field c =
    let parts = c.args.parts.now in
    (offset_found parts.program.now parts.class c.args.number c.in-Some.field parts.all.now parts.offsets.now
    c.requires.fields c.requires.offsets (sym c.field_in_slot.ensures ∙ c.in-Some.is)).within

pub returns-in-Some : goal.returns-in-Some
returns-in-Some c =
    let parts = c.args.parts.now in
    (offset_found parts.program.now parts.class c.args.number c.in-Some.field parts.all.now parts.offsets.now
    c.requires.fields c.requires.offsets (sym c.field_in_slot.ensures ∙ c.in-Some.is)).is
