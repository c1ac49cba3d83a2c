use Rattle.std.proofs.Common.{◌∙◌, Some, None, sym}
use Rattle.scode_gen.proofs.Placed.{place_found}
use Rattle.scode_gen.proofs.image_slots.action_place.Goals as goal

pub returns-in-Some : goal.returns-in-Some
returns-in-Some c =
    let parts = c.args.parts.now in
    place_found parts.program.now parts.class parts.table.now c.args.name.now (Some c.in-Some.place)
    (c.tables_have_each_virtual_method.ensures.names parts.program.now c.requires.typed parts.class)
    c.requires.table (sym c.place_of_name.ensures ∙ c.in-Some.is)

pub returns-in-None : goal.returns-in-None
returns-in-None c =
    let parts = c.args.parts.now in
    place_found parts.program.now parts.class parts.table.now c.args.name.now None
    (c.tables_have_each_virtual_method.ensures.names parts.program.now c.requires.typed parts.class)
    c.requires.table (sym c.place_of_name.ensures ∙ c.in-None.is)
