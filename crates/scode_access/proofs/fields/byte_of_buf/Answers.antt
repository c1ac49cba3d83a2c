use Rattle.std.proofs.Common.{◌+◌, ◌∷◌, ◌∙◌, ℕ, List, drop, pos, subst, ap, arith, ◌≡◌, FitsSigned, rules}
use Rattle.std.specs.Prelude.{ℤ}
use Rattle.std.specs.Int.{w32}
use Rattle.std.proofs.lemmas.Int.{to_z-of_z}
use Rattle.sed_engine.specs.Texts.{index_within}
use Rattle.scode_vm.specs.Doings.{as_stop}
use Rattle.scode_cells.specs.declared.cell.Cell.{Cell}
use Rattle.scode_cells.specs.declared.cell.Cell.TheVariants as cell
use Rattle.scode_cells.specs.Frames.{popped, pushed, running}
use Rattle.scode_access.proofs.DoneParts.{byte_does, byte_int, byte_null, byte_object, byte_room, byte_stands, byte_traps}
use Rattle.scode_access.proofs.Going.{index_err, index_ok, index_under, left_is, none_popped, pushed_is, room_on, some_popped}
use Rattle.scode_access.proofs.OnParts.{byte_there, has_front}
use Rattle.scode_access.proofs.fields.byte_of_buf.Goals as goal

pub pop_int-index-requires : goal.pop_int-index-requires
pop_int-index-requires c =
    byte_int c.requires.0 c.args.cells.now c.args.pool.now c.fields_are_found.ensures.objects c.fields_are_found.ensures.found c.args.at
    c.args.capacity c.requires.1

pub pop_object-requires : goal.pop_object-requires
pop_object-requires c =
    byte_object c.requires.0 c.args.cells.now c.args.pool.now c.fields_are_found.ensures.objects c.fields_are_found.ensures.found c.args.at
    c.args.capacity c.requires.1
    c.pop_int-index.result (running c.pop_int-index.new.cells).stack c.pop_int-index.ensures.top

pub overflow_add-place : goal.overflow_add-place
overflow_add-place c =
    let s = c.args.cells.now in
    let one = c.pop_int-index.new.cells in
    let new = c.pop_object.new.cells in
    let o = c.in-Some.object in
    let n = c.pop_int-index.result in
    let t = some_popped one new c.pop_object.result o c.in-Some.is c.pop_object.ensures.top in
    let e = c.pop_int-index.ensures.top ∙ ap (λ (cells : List Cell). cell.Int n ∷ cells) t.1 in
    let stands = byte_stands c.requires.0 s c.args.pool.now c.fields_are_found.ensures.objects c.fields_are_found.ensures.found c.args.at
    c.args.capacity n o.block o.offset t.0
    (running new).stack e c.requires.1 in
    omega (arith, stands.1.reach)

pub buf_length-size-requires : goal.buf_length-size-requires
buf_length-size-requires c =
    let s = c.args.cells.now in
    let one = c.pop_int-index.new.cells in
    let new = c.pop_object.new.cells in
    let o = c.in-Some.object in
    let n = c.pop_int-index.result in
    let t = some_popped one new c.pop_object.result o c.in-Some.is c.pop_object.ensures.top in
    let e = c.pop_int-index.ensures.top ∙ ap (λ (cells : List Cell). cell.Int n ∷ cells) t.1 in
    let stands = byte_stands c.requires.0 s c.args.pool.now c.fields_are_found.ensures.objects c.fields_are_found.ensures.found c.args.at
    c.args.capacity n o.block o.offset t.0
    (running new).stack e c.requires.1 in
    has_front c.args.pool.now o.block (o.offset + c.args.at) (c.args.capacity + 2) 2 stands.1.has (omega arith)

pub buf_byte-byte-requires-clause-there : goal.buf_byte-byte-requires-clause-there
buf_byte-byte-requires-clause-there c =
    let fits : FitsSigned w32 c.pop_int-index.result = search rules in
    let told = subst (λ (m : ℤ). as_stop c.index_below.result ≡ index_within c.buf_length-size.result m)
    (to_z-of_z w32 c.pop_int-index.result fits) c.index_below.ensures.index in
    let s = c.args.cells.now in
    let one = c.pop_int-index.new.cells in
    let new = c.pop_object.new.cells in
    let o = c.in-Some.object in
    let n = c.pop_int-index.result in
    let t = some_popped one new c.pop_object.result o c.in-Some.is c.pop_object.ensures.top in
    let e = c.pop_int-index.ensures.top ∙ ap (λ (cells : List Cell). cell.Int n ∷ cells) t.1 in
    let i = c.in-Ok.i in
    let size = c.buf_length-size.result in
    let below = index_under c.index_below.result i size c.in-Ok.is c.index_below.ensures.below in
    let within = index_ok c.index_below.result i size n c.in-Ok.is told in
    let stands = byte_stands c.requires.0 s c.args.pool.now c.fields_are_found.ensures.objects c.fields_are_found.ensures.found c.args.at
    c.args.capacity n o.block o.offset t.0
    (running new).stack e c.requires.1 in
    let there = byte_there c.args.pool.now o.block (o.offset + c.args.at) c.args.capacity size i
    (c.fields_are_found.ensures.whole _ _ _ _ _ _ _ stands.1) c.buf_length-size.ensures.bytes below in
    there.0

pub buf_byte-byte-requires-clause-reach : goal.buf_byte-byte-requires-clause-reach
buf_byte-byte-requires-clause-reach c =
    let fits : FitsSigned w32 c.pop_int-index.result = search rules in
    let told = subst (λ (m : ℤ). as_stop c.index_below.result ≡ index_within c.buf_length-size.result m)
    (to_z-of_z w32 c.pop_int-index.result fits) c.index_below.ensures.index in
    let s = c.args.cells.now in
    let one = c.pop_int-index.new.cells in
    let new = c.pop_object.new.cells in
    let o = c.in-Some.object in
    let n = c.pop_int-index.result in
    let t = some_popped one new c.pop_object.result o c.in-Some.is c.pop_object.ensures.top in
    let e = c.pop_int-index.ensures.top ∙ ap (λ (cells : List Cell). cell.Int n ∷ cells) t.1 in
    let i = c.in-Ok.i in
    let size = c.buf_length-size.result in
    let below = index_under c.index_below.result i size c.in-Ok.is c.index_below.ensures.below in
    let within = index_ok c.index_below.result i size n c.in-Ok.is told in
    let stands = byte_stands c.requires.0 s c.args.pool.now c.fields_are_found.ensures.objects c.fields_are_found.ensures.found c.args.at
    c.args.capacity n o.block o.offset t.0
    (running new).stack e c.requires.1 in
    let there = byte_there c.args.pool.now o.block (o.offset + c.args.at) c.args.capacity size i
    (c.fields_are_found.ensures.whole _ _ _ _ _ _ _ stands.1) c.buf_length-size.ensures.bytes below in
    omega (arith, stands.1.reach, there.1, below)

pub push-requires-clause-room : goal.push-requires-clause-room
push-requires-clause-room c =
    let fits : FitsSigned w32 c.pop_int-index.result = search rules in
    let told = subst (λ (m : ℤ). as_stop c.index_below.result ≡ index_within c.buf_length-size.result m)
    (to_z-of_z w32 c.pop_int-index.result fits) c.index_below.ensures.index in
    let s = c.args.cells.now in
    let one = c.pop_int-index.new.cells in
    let new = c.pop_object.new.cells in
    let o = c.in-Some.object in
    let n = c.pop_int-index.result in
    let t = some_popped one new c.pop_object.result o c.in-Some.is c.pop_object.ensures.top in
    let e = c.pop_int-index.ensures.top ∙ ap (λ (cells : List Cell). cell.Int n ∷ cells) t.1 in
    let i = c.in-Ok.i in
    let size = c.buf_length-size.result in
    let below = index_under c.index_below.result i size c.in-Ok.is c.index_below.ensures.below in
    let within = index_ok c.index_below.result i size n c.in-Ok.is told in
    room_on s new (drop 1 (drop 1 (running s).stack)) (cell.Int (pos c.buf_byte-byte.result)) (c.pop_object.ensures.rest ∙ ap popped c.pop_int-index.ensures.rest)
    (byte_room c.requires.0 s c.args.pool.now c.fields_are_found.ensures.objects c.fields_are_found.ensures.found c.args.at
    c.args.capacity n o.block o.offset t.0
    (running new).stack e size i c.buf_byte-byte.result c.buf_length-size.ensures.path within below
    c.buf_byte-byte.ensures.path c.requires.1)

pub returns-in-Ok : goal.returns-in-Ok
returns-in-Ok c = λ image.
    let fits : FitsSigned w32 c.pop_int-index.result = search rules in
    let told = subst (λ (m : ℤ). as_stop c.index_below.result ≡ index_within c.buf_length-size.result m)
    (to_z-of_z w32 c.pop_int-index.result fits) c.index_below.ensures.index in
    let s = c.args.cells.now in
    let one = c.pop_int-index.new.cells in
    let new = c.pop_object.new.cells in
    let o = c.in-Some.object in
    let n = c.pop_int-index.result in
    let t = some_popped one new c.pop_object.result o c.in-Some.is c.pop_object.ensures.top in
    let e = c.pop_int-index.ensures.top ∙ ap (λ (cells : List Cell). cell.Int n ∷ cells) t.1 in
    let i = c.in-Ok.i in
    let size = c.buf_length-size.result in
    let below = index_under c.index_below.result i size c.in-Ok.is c.index_below.ensures.below in
    let within = index_ok c.index_below.result i size n c.in-Ok.is told in
    byte_does image s c.args.pool.now c.fields_are_found.ensures.objects c.fields_are_found.ensures.found c.args.at
    c.args.capacity n o.block o.offset t.0
    (running new).stack e size i c.buf_byte-byte.result c.buf_length-size.ensures.path within below
    c.buf_byte-byte.ensures.path c.push.new.self
    (pushed_is s new c.push.new.self (drop 1 (drop 1 (running s).stack)) (cell.Int (pos c.buf_byte-byte.result)) (c.pop_object.ensures.rest ∙ ap popped c.pop_int-index.ensures.rest)
    (c.push.ensures ∙ ap (λ (v : Cell). pushed new v) (c.number_cell.ensures
    ∙ ap (λ (m : ℕ). cell.Int (pos m)) c.from.ensures)))

pub returns-in-Err : goal.returns-in-Err
returns-in-Err c = λ image.
    let fits : FitsSigned w32 c.pop_int-index.result = search rules in
    let told = subst (λ (m : ℤ). as_stop c.index_below.result ≡ index_within c.buf_length-size.result m)
    (to_z-of_z w32 c.pop_int-index.result fits) c.index_below.ensures.index in
    let s = c.args.cells.now in
    let one = c.pop_int-index.new.cells in
    let new = c.pop_object.new.cells in
    let o = c.in-Some.object in
    let n = c.pop_int-index.result in
    let t = some_popped one new c.pop_object.result o c.in-Some.is c.pop_object.ensures.top in
    let e = c.pop_int-index.ensures.top ∙ ap (λ (cells : List Cell). cell.Int n ∷ cells) t.1 in
    let trap = c.in-Err.trap in
    let size = c.buf_length-size.result in
    byte_traps image s c.args.pool.now c.fields_are_found.ensures.objects c.fields_are_found.ensures.found c.args.at
    c.args.capacity n o.block o.offset t.0
    (running new).stack e size trap c.buf_length-size.ensures.path
    (index_err c.index_below.result trap size n c.in-Err.is told) new
    (left_is s new (drop 1 (drop 1 (running s).stack)) (c.pop_object.ensures.rest ∙ ap popped c.pop_int-index.ensures.rest))

pub returns-in-None : goal.returns-in-None
returns-in-None c = λ image.
    let s = c.args.cells.now in
    let one = c.pop_int-index.new.cells in
    let new = c.pop_object.new.cells in
    let n = c.pop_int-index.result in
    let e = c.pop_int-index.ensures.top ∙ ap (λ (cells : List Cell). cell.Int n ∷ cells)
    (none_popped one new c.pop_object.result c.in-None.is c.pop_object.ensures.top) in
    byte_null image s c.args.pool.now c.fields_are_found.ensures.objects c.fields_are_found.ensures.found c.args.at
    c.args.capacity n (running new).stack e new
    (left_is s new (drop 1 (drop 1 (running s).stack)) (c.pop_object.ensures.rest ∙ ap popped c.pop_int-index.ensures.rest))
