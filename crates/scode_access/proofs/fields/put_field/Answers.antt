use Rattle.std.proofs.Common.{◌∷◌, ◌∙◌, List, drop, ap, arith}
use Rattle.scode_cells.specs.declared.cell.Cell.{Cell}
use Rattle.scode_cells.specs.Frames.{popped, running}
use Rattle.scode_access.proofs.DoneFields.{put_does, put_null, put_number, put_pops, put_some, put_stands}
use Rattle.scode_access.proofs.Going.{left_is, none_popped, popped_is, some_popped}
use Rattle.scode_access.proofs.fields.put_field.Goals as goal

pub pop-v-requires : goal.pop-v-requires
pop-v-requires c =
    put_some c.fields_are_found.ensures.objects c.fields_are_found.ensures.found c.args.p c.args.at c.requires.0
    c.args.cells.now c.args.pool.now c.requires.1

pub pop_object-requires : goal.pop_object-requires
pop_object-requires c =
    let s = c.args.cells.now in
    put_pops c.fields_are_found.ensures.objects c.fields_are_found.ensures.found c.args.p c.args.at c.requires.0
    s c.args.pool.now c.requires.1 c.pop-v.result (running c.pop-v.new.self).stack
    (popped_is s c.pop-v.new.self c.pop-v.result c.pop-v.ensures.top c.pop-v.ensures.rest)

pub overflow_add-place : goal.overflow_add-place
overflow_add-place c =
    let s = c.args.cells.now in
    let one = c.pop-v.new.self in
    let new = c.pop_object.new.cells in
    let o = c.in-Some.object in
    let t = some_popped one new c.pop_object.result o c.in-Some.is c.pop_object.ensures.top in
    let e = popped_is s one c.pop-v.result c.pop-v.ensures.top c.pop-v.ensures.rest
    ∙ ap (λ (cells : List Cell). c.pop-v.result ∷ cells) t.1 in
    let stands = put_stands c.fields_are_found.ensures.objects c.fields_are_found.ensures.found c.args.p c.args.at
    c.requires.0 s c.args.pool.now c.pop-v.result o.block o.offset t.0 (running new).stack e c.requires.1 in
    omega (arith, stands.1.reach)

pub write_cell-requires-clause-there : goal.write_cell-requires-clause-there
write_cell-requires-clause-there c =
    let s = c.args.cells.now in
    let one = c.pop-v.new.self in
    let new = c.pop_object.new.cells in
    let o = c.in-Some.object in
    let t = some_popped one new c.pop_object.result o c.in-Some.is c.pop_object.ensures.top in
    let e = popped_is s one c.pop-v.result c.pop-v.ensures.top c.pop-v.ensures.rest
    ∙ ap (λ (cells : List Cell). c.pop-v.result ∷ cells) t.1 in
    (put_stands c.fields_are_found.ensures.objects c.fields_are_found.ensures.found c.args.p c.args.at
    c.requires.0 s c.args.pool.now c.pop-v.result o.block o.offset t.0 (running new).stack e c.requires.1).1.has

pub write_cell-requires-clause-kind : goal.write_cell-requires-clause-kind
write_cell-requires-clause-kind c =
    let s = c.args.cells.now in
    put_number c.fields_are_found.ensures.objects c.fields_are_found.ensures.found c.args.p c.args.at c.requires.0
    s c.args.pool.now c.requires.1 c.pop-v.result (running c.pop-v.new.self).stack
    (popped_is s c.pop-v.new.self c.pop-v.result c.pop-v.ensures.top c.pop-v.ensures.rest)

pub returns-in-Some : goal.returns-in-Some
returns-in-Some c = λ image.
    let s = c.args.cells.now in
    let one = c.pop-v.new.self in
    let new = c.pop_object.new.cells in
    let o = c.in-Some.object in
    let t = some_popped one new c.pop_object.result o c.in-Some.is c.pop_object.ensures.top in
    let e = popped_is s one c.pop-v.result c.pop-v.ensures.top c.pop-v.ensures.rest
    ∙ ap (λ (cells : List Cell). c.pop-v.result ∷ cells) t.1 in
    put_does c.fields_are_found.ensures.objects c.fields_are_found.ensures.found c.args.p c.args.at image s
    c.args.pool.now c.pop-v.result o.block o.offset t.0 (running new).stack e c.write_cell.new.pool
    c.write_cell.ensures.path new
    (left_is s new (drop 1 (drop 1 (running s).stack)) (c.pop_object.ensures.rest ∙ ap popped c.pop-v.ensures.rest))

pub returns-in-None : goal.returns-in-None
returns-in-None c = λ image.
    let s = c.args.cells.now in
    let one = c.pop-v.new.self in
    let new = c.pop_object.new.cells in
    let e = popped_is s one c.pop-v.result c.pop-v.ensures.top c.pop-v.ensures.rest
    ∙ ap (λ (cells : List Cell). c.pop-v.result ∷ cells)
    (none_popped one new c.pop_object.result c.in-None.is c.pop_object.ensures.top) in
    put_null c.fields_are_found.ensures.objects c.fields_are_found.ensures.found c.args.p c.args.at image s
    c.args.pool.now c.pop-v.result (running new).stack e new
    (left_is s new (drop 1 (drop 1 (running s).stack)) (c.pop_object.ensures.rest ∙ ap popped c.pop-v.ensures.rest))
