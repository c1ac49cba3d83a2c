use Rattle.std.proofs.Common.{◌+◌, ◌∙◌, drop, pos, ap, arith}
use Rattle.scode_cells.specs.declared.cell.Cell.{Cell}
use Rattle.scode_cells.specs.declared.cell.Cell.TheVariants as cell
use Rattle.scode_cells.specs.Frames.{pushed, running}
use Rattle.scode_access.proofs.DoneParts.{size_does, size_null, size_pops, size_room, size_stands}
use Rattle.scode_access.proofs.Going.{left_is, none_popped, pushed_is, room_on, some_popped}
use Rattle.scode_access.proofs.OnParts.{has_front}
use Rattle.scode_access.proofs.fields.size_of_buf.Goals as goal

pub pop_object-requires : goal.pop_object-requires
pop_object-requires c =
    size_pops c.requires.0 c.args.cells.now c.args.pool.now c.fields_are_found.ensures.buf_objects c.fields_are_found.ensures.bufs c.args.at c.requires.1

pub overflow_add-place : goal.overflow_add-place
overflow_add-place c =
    let s = c.args.cells.now in
    let new = c.pop_object.new.cells in
    let o = c.in-Some.object in
    let t = some_popped s new c.pop_object.result o c.in-Some.is c.pop_object.ensures.top in
    let stands = size_stands c.requires.0 s c.args.pool.now c.fields_are_found.ensures.buf_objects c.fields_are_found.ensures.bufs c.args.at o.block
    o.offset t.0 (running new).stack t.1 c.requires.1 in
    omega (arith, stands.1.1.reach)

pub buf_length-size-requires : goal.buf_length-size-requires
buf_length-size-requires c =
    let s = c.args.cells.now in
    let new = c.pop_object.new.cells in
    let o = c.in-Some.object in
    let t = some_popped s new c.pop_object.result o c.in-Some.is c.pop_object.ensures.top in
    let stands = size_stands c.requires.0 s c.args.pool.now c.fields_are_found.ensures.buf_objects c.fields_are_found.ensures.bufs c.args.at o.block
    o.offset t.0 (running new).stack t.1 c.requires.1 in
    has_front c.args.pool.now o.block (o.offset + c.args.at) (stands.0 + 2) 2 stands.1.1.has (omega arith)

pub push-requires-clause-room : goal.push-requires-clause-room
push-requires-clause-room c =
    let s = c.args.cells.now in
    let new = c.pop_object.new.cells in
    let o = c.in-Some.object in
    let t = some_popped s new c.pop_object.result o c.in-Some.is c.pop_object.ensures.top in
    room_on s new (drop 1 (running s).stack) (cell.Int (pos c.buf_length-size.result)) c.pop_object.ensures.rest
    (size_room c.requires.0 s c.args.pool.now c.fields_are_found.ensures.buf_objects c.fields_are_found.ensures.bufs c.args.at o.block o.offset t.0
    (running new).stack t.1 c.requires.1 c.buf_length-size.result c.buf_length-size.ensures.path)

pub returns-in-Some : goal.returns-in-Some
returns-in-Some c = λ image.
    let s = c.args.cells.now in
    let new = c.pop_object.new.cells in
    let o = c.in-Some.object in
    let t = some_popped s new c.pop_object.result o c.in-Some.is c.pop_object.ensures.top in
    size_does image s c.args.pool.now c.fields_are_found.ensures.buf_objects c.fields_are_found.ensures.bufs c.args.at o.block o.offset t.0
    (running new).stack t.1 c.buf_length-size.result c.buf_length-size.ensures.path c.push.new.self
    (pushed_is s new c.push.new.self (drop 1 (running s).stack) (cell.Int (pos c.buf_length-size.result))
    c.pop_object.ensures.rest
    (c.push.ensures ∙ ap (λ (v : Cell). pushed new v) c.number_cell.ensures))

pub returns-in-None : goal.returns-in-None
returns-in-None c = λ image.
    let s = c.args.cells.now in
    let new = c.pop_object.new.cells in
    size_null image s c.args.pool.now c.fields_are_found.ensures.buf_objects c.fields_are_found.ensures.bufs c.args.at (running new).stack
    (none_popped s new c.pop_object.result c.in-None.is c.pop_object.ensures.top) new
    (left_is s new (drop 1 (running s).stack) c.pop_object.ensures.rest)
