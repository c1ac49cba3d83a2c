use Rattle.std.proofs.Common.{◌+◌, drop, arith}
use Rattle.scode_cells.specs.declared.cell.Cell.{Cell}
use Rattle.scode_cells.specs.declared.cell.Cell.TheVariants as cell
use Rattle.scode_cells.specs.Frames.{running}
use Rattle.scode_access.proofs.DoneParts.{object_leads, part_does, part_null, part_pops, part_room, part_stands}
use Rattle.scode_access.proofs.Going.{left_is, none_popped, pushed_is, room_on, some_popped}
use Rattle.scode_access.proofs.fields.object_inside.Goals as goal

pub pop_object-requires : goal.pop_object-requires
pop_object-requires c =
    part_pops c.requires.0 c.args.cells.now c.args.pool.now c.fields_are_found.ensures.objects c.fields_are_found.ensures.found 8 c.args.at c.args.class
    c.requires.1

pub overflow_add-place : goal.overflow_add-place
overflow_add-place c =
    let s = c.args.cells.now in
    let new = c.pop_object.new.cells in
    let o = c.in-Some.object in
    let t = some_popped s new c.pop_object.result o c.in-Some.is c.pop_object.ensures.top in
    let stands = part_stands c.requires.0 s c.args.pool.now c.fields_are_found.ensures.objects c.fields_are_found.ensures.found 8 c.args.at c.args.class
    o.block o.offset t.0 (running new).stack t.1 c.requires.1 in
    omega (arith, stands.1.reach)

pub push-requires-clause-room : goal.push-requires-clause-room
push-requires-clause-room c =
    let s = c.args.cells.now in
    let new = c.pop_object.new.cells in
    let o = c.in-Some.object in
    let t = some_popped s new c.pop_object.result o c.in-Some.is c.pop_object.ensures.top in
    let v : Cell = cell.Object o.block (o.offset + c.args.at) c.args.class in
    room_on s new (drop 1 (running s).stack) v c.pop_object.ensures.rest
    (part_room c.requires.0 s c.args.pool.now c.fields_are_found.ensures.objects c.fields_are_found.ensures.found 8 c.args.at c.args.class
    o.block o.offset t.0 (running new).stack t.1 c.requires.1 v
    (λ k place spot ground stands. object_leads c.requires.0 s c.args.pool.now c.parts_are_led_to.ensures.objects c.args.class c.args.at
    o.block o.offset k place spot ground stands))

pub returns-in-Some : goal.returns-in-Some
returns-in-Some c = λ image.
    let s = c.args.cells.now in
    let new = c.pop_object.new.cells in
    let o = c.in-Some.object in
    let t = some_popped s new c.pop_object.result o c.in-Some.is c.pop_object.ensures.top in
    let v : Cell = cell.Object o.block (o.offset + c.args.at) c.args.class in
    part_does image s c.args.pool.now c.fields_are_found.ensures.objects c.fields_are_found.ensures.found 8 c.args.at c.args.class o.block o.offset t.0
    (running new).stack t.1 v
    (λ k place spot ground stands. object_leads image s c.args.pool.now c.parts_are_led_to.ensures.objects c.args.class c.args.at o.block
    o.offset k place spot ground stands)
    c.push.new.self
    (pushed_is s new c.push.new.self (drop 1 (running s).stack) v c.pop_object.ensures.rest c.push.ensures)

pub returns-in-None : goal.returns-in-None
returns-in-None c = λ image.
    let s = c.args.cells.now in
    let new = c.pop_object.new.cells in
    part_null image s c.args.pool.now c.fields_are_found.ensures.objects c.fields_are_found.ensures.found 8 c.args.at c.args.class (running new).stack
    (none_popped s new c.pop_object.result c.in-None.is c.pop_object.ensures.top) new
    (left_is s new (drop 1 (running s).stack) c.pop_object.ensures.rest)
