use Rattle.scode_engine.proofs.Properties.{block_there, field_held, field_part, found_property, slot_found, slot_read}
use Rattle.scode_engine.proofs.slots.get_slot.Goals as goal

pub kind-requires : goal.kind-requires
kind-requires c =
    let image = c.args.image.now in
    let h = c.args.pool.now in
    let is = c.requires.loaded in
    block_there image h is c.args.p c.args.s.0 (found_property image h is c.args.p c.args.s.0 c.requires.property)

pub slot-requires : goal.slot-requires
slot-requires c =
    let image = c.args.image.now in
    let h = c.args.pool.now in
    let is = c.requires.loaded in
    slot_found image h is c.args.p c.args.s.0 (found_property image h is c.args.p c.args.s.0 c.requires.property)
    c.kind.result.0 c.kind.ensures

pub read_part-requires-clause-held : goal.read_part-requires-clause-held
read_part-requires-clause-held c =
    let image = c.args.image.now in
    let h = c.args.pool.now in
    let is = c.requires.loaded in
    field_held image h is c.args.p c.args.s.0 (found_property image h is c.args.p c.args.s.0 c.requires.property)
    c.kind.result.0 c.kind.ensures c.slot.result.now c.slot.ensures c.field_of-field.result c.field_of-field.ensures

pub read_part-requires-clause-stands : goal.read_part-requires-clause-stands
read_part-requires-clause-stands c =
    let image = c.args.image.now in
    let h = c.args.pool.now in
    let is = c.requires.loaded in
    field_part image h is c.args.p c.args.s.0 (found_property image h is c.args.p c.args.s.0 c.requires.property)
    c.kind.result.0 c.kind.ensures c.slot.result.now c.slot.ensures c.field_of-field.result c.field_of-field.ensures

pub returns : goal.returns
returns c =
    let image = c.args.image.now in
    let h = c.args.pool.now in
    let is = c.requires.loaded in
    slot_read image h is c.args.p c.args.s.0 (found_property image h is c.args.p c.args.s.0 c.requires.property)
    c.kind.result.0 c.kind.ensures c.slot.result.now c.slot.ensures c.field_of-field.result c.field_of-field.ensures
    c.read_part.result c.put.new.self c.read_part.ensures c.put.ensures
