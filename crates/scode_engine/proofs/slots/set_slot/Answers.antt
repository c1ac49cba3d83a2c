use Rattle.std.proofs.Common.{ℕ, subst, sym}
use Rattle.std.specs.Prelude.{IsTrue}
use Rattle.sed_value.specs.Value.{goes_to, stored}
use Rattle.sed_value.specs.declared.value.Value.{Value}
use Rattle.sed_typed.specs.Contents.{Path}
use Rattle.sed_engine.specs.Values.{Component}
use Rattle.scode_code.specs.Image.{meaning_of}
use Rattle.scode_code.specs.Tables.{form_of}
use Rattle.scode_mem.specs.declared.block.Block.TheVariants as block
use Rattle.scode_state.specs.Stands.{IsStored, StandsAt}
use Rattle.scode_engine.specs.Loaded.{object_in}
use Rattle.scode_engine.specs.Slots.{type_of}
use Rattle.scode_engine.proofs.Properties.{block_there, field_held, field_part, found_store, limit_stays, loaded_stored, slot_found, slot_stored, statics_stay, value_goes}
use Rattle.scode_engine.proofs.slots.set_slot.Goals as goal

-- what the store did, with the value that was lent
stored_there : (c : goal.After-write_part) → (class : ℕ) (path : Path)
    → StandsAt c.args.image.now class Component path c.args.pool.now (block.Live c.args.p)
    c.field_of-field.result.offset (form_of c.field_of-field.result)
    → IsStored c.args.image.now class Component path c.args.pool.now c.write_part.new.pool (block.Live c.args.p)
    (stored (type_of c.field_of-field.result) c.args.v.now)
stored_there c class path at =
    subst (λ (u : Value). IsStored c.args.image.now class Component path c.args.pool.now c.write_part.new.pool
    (block.Live c.args.p) (stored (type_of c.field_of-field.result) u)) c.value.ensures
    (c.write_part.ensures class path at)

pub kind-requires : goal.kind-requires
kind-requires c =
    let image = c.args.image.now in
    let h = c.args.pool.now in
    let is = c.requires.loaded in
    let v = c.args.v.now in
    let f = found_store image h is c.args.p c.args.s.0 v c.requires.may in
    block_there image h is c.args.p c.args.s.0 f

pub slot-requires : goal.slot-requires
slot-requires c =
    let image = c.args.image.now in
    let h = c.args.pool.now in
    let is = c.requires.loaded in
    let v = c.args.v.now in
    let f = found_store image h is c.args.p c.args.s.0 v c.requires.may in
    slot_found image h is c.args.p c.args.s.0 f c.kind.result.0 c.kind.ensures

pub write_part-requires-clause-held : goal.write_part-requires-clause-held
write_part-requires-clause-held c =
    let image = c.args.image.now in
    let h = c.args.pool.now in
    let is = c.requires.loaded in
    let v = c.args.v.now in
    let f = found_store image h is c.args.p c.args.s.0 v c.requires.may in
    field_held image h is c.args.p c.args.s.0 f c.kind.result.0 c.kind.ensures c.slot.result.now c.slot.ensures
    c.field_of-field.result c.field_of-field.ensures

pub write_part-requires-clause-stands : goal.write_part-requires-clause-stands
write_part-requires-clause-stands c =
    let image = c.args.image.now in
    let h = c.args.pool.now in
    let is = c.requires.loaded in
    let v = c.args.v.now in
    let f = found_store image h is c.args.p c.args.s.0 v c.requires.may in
    field_part image h is c.args.p c.args.s.0 f c.kind.result.0 c.kind.ensures c.slot.result.now c.slot.ensures
    c.field_of-field.result c.field_of-field.ensures

pub write_part-requires-clause-goes : goal.write_part-requires-clause-goes
write_part-requires-clause-goes c =
    let image = c.args.image.now in
    let h = c.args.pool.now in
    let is = c.requires.loaded in
    let v = c.args.v.now in
    let f = found_store image h is c.args.p c.args.s.0 v c.requires.may in
    subst (λ (u : Value). IsTrue (goes_to (type_of c.field_of-field.result) u)) (sym c.value.ensures)
    (value_goes image h is c.args.p c.args.s.0 f c.kind.result.0 c.kind.ensures c.slot.result.now c.slot.ensures
    c.field_of-field.result c.field_of-field.ensures v c.requires.may)

pub returns-clause-loaded : goal.returns-clause-loaded
returns-clause-loaded c =
    let image = c.args.image.now in
    let h = c.args.pool.now in
    let is = c.requires.loaded in
    let v = c.args.v.now in
    let f = found_store image h is c.args.p c.args.s.0 v c.requires.may in
    loaded_stored image h is c.args.p c.args.s.0 f c.kind.result.0 c.kind.ensures c.slot.result.now c.slot.ensures
    c.field_of-field.result c.field_of-field.ensures v c.requires.may c.write_part.new.pool
    (stored_there c)
    (λ object may. c.what_is_kept_fits.ensures.stored (meaning_of image) (object_in image f.k) c.args.s.0 v
    (c.verified_images_are_whole.ensures image is.verified) object may)

pub returns-clause-written : goal.returns-clause-written
returns-clause-written c =
    let image = c.args.image.now in
    let h = c.args.pool.now in
    let is = c.requires.loaded in
    let v = c.args.v.now in
    let f = found_store image h is c.args.p c.args.s.0 v c.requires.may in
    slot_stored image h is c.args.p c.args.s.0 f c.kind.result.0 c.kind.ensures c.slot.result.now c.slot.ensures
    c.field_of-field.result c.field_of-field.ensures v c.requires.may c.write_part.new.pool
    (stored_there c)

pub returns-clause-statics : goal.returns-clause-statics
returns-clause-statics c =
    let image = c.args.image.now in
    let h = c.args.pool.now in
    let is = c.requires.loaded in
    let v = c.args.v.now in
    let f = found_store image h is c.args.p c.args.s.0 v c.requires.may in
    statics_stay image h is c.args.p c.args.s.0 f c.kind.result.0 c.kind.ensures c.slot.result.now c.slot.ensures
    c.field_of-field.result c.field_of-field.ensures v c.requires.may c.write_part.new.pool
    (stored_there c)

pub returns-clause-limit : goal.returns-clause-limit
returns-clause-limit c =
    let image = c.args.image.now in
    let h = c.args.pool.now in
    let is = c.requires.loaded in
    let v = c.args.v.now in
    let f = found_store image h is c.args.p c.args.s.0 v c.requires.may in
    limit_stays image h is c.args.p c.args.s.0 f c.kind.result.0 c.kind.ensures c.slot.result.now c.slot.ensures
    c.field_of-field.result c.field_of-field.ensures v c.requires.may c.write_part.new.pool
    (stored_there c)
