use Rattle.std.proofs.Common.{drop, arith}
use Rattle.scode_cells.specs.Frames.{running}
use Rattle.scode_access.proofs.DoneFields.{get_does, get_null, get_pops, get_room, get_stands}
use Rattle.scode_access.proofs.Going.{left_is, none_popped, pushed_is, room_on, some_popped}
use Rattle.scode_access.proofs.fields.get_field.Goals as goal

pub pop_object-requires : goal.pop_object-requires
pop_object-requires c =
    get_pops c.fields_are_found.ensures.objects c.fields_are_found.ensures.found c.args.p c.args.at c.requires.0
    c.args.cells.now c.args.pool.now c.requires.1

pub overflow_add-place : goal.overflow_add-place
overflow_add-place c =
    let s = c.args.cells.now in
    let new = c.pop_object.new.cells in
    let o = c.in-Some.object in
    let t = some_popped s new c.pop_object.result o c.in-Some.is c.pop_object.ensures.top in
    let stands = get_stands c.fields_are_found.ensures.objects c.fields_are_found.ensures.found c.args.p c.args.at
    c.requires.0 s c.args.pool.now o.block o.offset t.0 (running new).stack t.1 c.requires.1 in
    omega (arith, stands.1.reach)

pub read_cell-requires : goal.read_cell-requires
read_cell-requires c =
    let s = c.args.cells.now in
    let new = c.pop_object.new.cells in
    let o = c.in-Some.object in
    let t = some_popped s new c.pop_object.result o c.in-Some.is c.pop_object.ensures.top in
    (get_stands c.fields_are_found.ensures.objects c.fields_are_found.ensures.found c.args.p c.args.at
    c.requires.0 s c.args.pool.now o.block o.offset t.0 (running new).stack t.1 c.requires.1).1.has

pub push-requires-clause-room : goal.push-requires-clause-room
push-requires-clause-room c =
    let s = c.args.cells.now in
    let new = c.pop_object.new.cells in
    let o = c.in-Some.object in
    let t = some_popped s new c.pop_object.result o c.in-Some.is c.pop_object.ensures.top in
    room_on s new (drop 1 (running s).stack) c.read_cell.result c.pop_object.ensures.rest
    (get_room c.fields_are_found.ensures.objects c.fields_are_found.ensures.found c.args.p c.args.at
    c.requires.0 s c.args.pool.now o.block o.offset t.0 (running new).stack t.1 c.requires.1 c.read_cell.result
    c.read_cell.ensures.path)

pub returns-in-Some : goal.returns-in-Some
returns-in-Some c = λ image.
    let s = c.args.cells.now in
    let new = c.pop_object.new.cells in
    let o = c.in-Some.object in
    let t = some_popped s new c.pop_object.result o c.in-Some.is c.pop_object.ensures.top in
    get_does c.fields_are_found.ensures.objects c.fields_are_found.ensures.found c.args.p c.args.at image s
    c.args.pool.now o.block o.offset t.0 (running new).stack t.1 c.read_cell.result c.read_cell.ensures.path
    c.push.new.self
    (pushed_is s new c.push.new.self (drop 1 (running s).stack) c.read_cell.result c.pop_object.ensures.rest
    c.push.ensures)

pub returns-in-None : goal.returns-in-None
returns-in-None c = λ image.
    let s = c.args.cells.now in
    let new = c.pop_object.new.cells in
    get_null c.fields_are_found.ensures.objects c.fields_are_found.ensures.found c.args.p c.args.at image s
    c.args.pool.now (running new).stack (none_popped s new c.pop_object.result c.in-None.is c.pop_object.ensures.top) new
    (left_is s new (drop 1 (running s).stack) c.pop_object.ensures.rest)
