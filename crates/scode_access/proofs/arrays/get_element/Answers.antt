use Rattle.std.proofs.Common.{◌∷◌, ◌∙◌, ℕ, List, drop, sym, subst, ap, arith, ◌≡◌, FitsSigned, rules}
use Rattle.std.specs.Prelude.{ℤ}
use Rattle.std.specs.Int.{w32}
use Rattle.std.proofs.lemmas.Int.{to_z-of_z}
use Rattle.sed_engine.specs.Texts.{index_within}
use Rattle.scode_vm.specs.Doings.{as_stop}
use Rattle.sed_value.specs.SlotType.{width_of}
use Rattle.scode_mem.specs.Blocks.{HasBytes}
use Rattle.scode_cells.specs.declared.cell.Cell.{Cell}
use Rattle.scode_cells.specs.declared.cell.Cell.TheVariants as cell
use Rattle.scode_cells.specs.Frames.{popped, running}
use Rattle.scode_access.proofs.DoneArrays.{get_does, get_int, get_null, get_object, get_room, get_stands, get_traps}
use Rattle.scode_access.proofs.Going.{index_err, index_ok, index_under, left_is, none_popped, pushed_is, room_on, some_popped}
use Rattle.scode_access.proofs.Reading.{ReadsCell}
use Rattle.scode_access.proofs.arrays.get_element.Goals as goal

pub pop_int-index-requires : goal.pop_int-index-requires
pop_int-index-requires c =
    get_int c.fields_are_found.ensures.objects c.fields_are_found.ensures.found c.fields_are_found.ensures.elements
    c.args.p c.args.at c.args.count c.requires.0
    c.args.cells.now c.args.pool.now c.requires.1

pub pop_object-requires : goal.pop_object-requires
pop_object-requires c =
    get_object c.fields_are_found.ensures.objects c.fields_are_found.ensures.found c.fields_are_found.ensures.elements
    c.args.p c.args.at c.args.count c.requires.0
    c.args.cells.now c.args.pool.now c.requires.1 c.pop_int-index.result (running c.pop_int-index.new.cells).stack c.pop_int-index.ensures.top

pub element_place-place-requires : goal.element_place-place-requires
element_place-place-requires c =
    let fits : FitsSigned w32 c.pop_int-index.result = search rules in
    let told = subst (λ (m : ℤ). as_stop c.index_below.result ≡ index_within c.args.count m)
    (to_z-of_z w32 c.pop_int-index.result fits) c.index_below.ensures.index in
    let s = c.args.cells.now in
    let one = c.pop_int-index.new.cells in
    let new = c.pop_object.new.cells in
    let o = c.in-Some.object in
    let n = c.pop_int-index.result in
    let t = some_popped one new c.pop_object.result o c.in-Some.is c.pop_object.ensures.top in
    let e = c.pop_int-index.ensures.top ∙ ap (λ (cells : List Cell). cell.Int n ∷ cells) t.1 in
    let i = c.in-Ok.i in
    let below = index_under c.index_below.result i c.args.count c.in-Ok.is c.index_below.ensures.below in
    let within = index_ok c.index_below.result i c.args.count n c.in-Ok.is told in
    let stands = get_stands c.fields_are_found.ensures.objects c.fields_are_found.ensures.found c.fields_are_found.ensures.elements
    c.args.p c.args.at c.args.count c.requires.0 s c.args.pool.now n o.block o.offset t.0
    (running new).stack e i below within c.requires.1 in
    omega (arith, stands.1.reach)

pub read_cell-requires : goal.read_cell-requires
read_cell-requires c =
    let fits : FitsSigned w32 c.pop_int-index.result = search rules in
    let told = subst (λ (m : ℤ). as_stop c.index_below.result ≡ index_within c.args.count m)
    (to_z-of_z w32 c.pop_int-index.result fits) c.index_below.ensures.index in
    let s = c.args.cells.now in
    let one = c.pop_int-index.new.cells in
    let new = c.pop_object.new.cells in
    let o = c.in-Some.object in
    let n = c.pop_int-index.result in
    let t = some_popped one new c.pop_object.result o c.in-Some.is c.pop_object.ensures.top in
    let e = c.pop_int-index.ensures.top ∙ ap (λ (cells : List Cell). cell.Int n ∷ cells) t.1 in
    let i = c.in-Ok.i in
    let below = index_under c.index_below.result i c.args.count c.in-Ok.is c.index_below.ensures.below in
    let within = index_ok c.index_below.result i c.args.count n c.in-Ok.is told in
    let stands = get_stands c.fields_are_found.ensures.objects c.fields_are_found.ensures.found c.fields_are_found.ensures.elements
    c.args.p c.args.at c.args.count c.requires.0 s c.args.pool.now n o.block o.offset t.0
    (running new).stack e i below within c.requires.1 in
    subst (λ (at : ℕ). HasBytes c.args.pool.now o.block at (width_of c.args.p)) (sym c.element_place-place.ensures) stands.1.has

pub push-requires-clause-room : goal.push-requires-clause-room
push-requires-clause-room c =
    let fits : FitsSigned w32 c.pop_int-index.result = search rules in
    let told = subst (λ (m : ℤ). as_stop c.index_below.result ≡ index_within c.args.count m)
    (to_z-of_z w32 c.pop_int-index.result fits) c.index_below.ensures.index in
    let s = c.args.cells.now in
    let one = c.pop_int-index.new.cells in
    let new = c.pop_object.new.cells in
    let o = c.in-Some.object in
    let n = c.pop_int-index.result in
    let t = some_popped one new c.pop_object.result o c.in-Some.is c.pop_object.ensures.top in
    let e = c.pop_int-index.ensures.top ∙ ap (λ (cells : List Cell). cell.Int n ∷ cells) t.1 in
    let i = c.in-Ok.i in
    let below = index_under c.index_below.result i c.args.count c.in-Ok.is c.index_below.ensures.below in
    let within = index_ok c.index_below.result i c.args.count n c.in-Ok.is told in
    room_on s new (drop 1 (drop 1 (running s).stack)) c.read_cell.result (c.pop_object.ensures.rest ∙ ap popped c.pop_int-index.ensures.rest)
    (get_room c.fields_are_found.ensures.objects c.fields_are_found.ensures.found c.fields_are_found.ensures.elements
    c.args.p c.args.at c.args.count c.requires.0 s c.args.pool.now n o.block o.offset t.0
    (running new).stack e i below within c.requires.1 c.read_cell.result
    (subst (λ (at : ℕ). ReadsCell c.args.p c.args.pool.now o.block at c.read_cell.result) c.element_place-place.ensures
    c.read_cell.ensures.path))

pub returns-in-Ok : goal.returns-in-Ok
returns-in-Ok c = λ image.
    let fits : FitsSigned w32 c.pop_int-index.result = search rules in
    let told = subst (λ (m : ℤ). as_stop c.index_below.result ≡ index_within c.args.count m)
    (to_z-of_z w32 c.pop_int-index.result fits) c.index_below.ensures.index in
    let s = c.args.cells.now in
    let one = c.pop_int-index.new.cells in
    let new = c.pop_object.new.cells in
    let o = c.in-Some.object in
    let n = c.pop_int-index.result in
    let t = some_popped one new c.pop_object.result o c.in-Some.is c.pop_object.ensures.top in
    let e = c.pop_int-index.ensures.top ∙ ap (λ (cells : List Cell). cell.Int n ∷ cells) t.1 in
    let i = c.in-Ok.i in
    let below = index_under c.index_below.result i c.args.count c.in-Ok.is c.index_below.ensures.below in
    let within = index_ok c.index_below.result i c.args.count n c.in-Ok.is told in
    get_does c.fields_are_found.ensures.objects c.fields_are_found.ensures.found c.fields_are_found.ensures.elements
    c.args.p c.args.at c.args.count image s c.args.pool.now n o.block o.offset t.0
    (running new).stack e i below within c.read_cell.result
    (subst (λ (at : ℕ). ReadsCell c.args.p c.args.pool.now o.block at c.read_cell.result) c.element_place-place.ensures
    c.read_cell.ensures.path)
    c.push.new.self
    (pushed_is s new c.push.new.self (drop 1 (drop 1 (running s).stack)) c.read_cell.result (c.pop_object.ensures.rest ∙ ap popped c.pop_int-index.ensures.rest) c.push.ensures)

pub returns-in-Err : goal.returns-in-Err
returns-in-Err c = λ image.
    let fits : FitsSigned w32 c.pop_int-index.result = search rules in
    let told = subst (λ (m : ℤ). as_stop c.index_below.result ≡ index_within c.args.count m)
    (to_z-of_z w32 c.pop_int-index.result fits) c.index_below.ensures.index in
    let s = c.args.cells.now in
    let one = c.pop_int-index.new.cells in
    let new = c.pop_object.new.cells in
    let o = c.in-Some.object in
    let n = c.pop_int-index.result in
    let t = some_popped one new c.pop_object.result o c.in-Some.is c.pop_object.ensures.top in
    let e = c.pop_int-index.ensures.top ∙ ap (λ (cells : List Cell). cell.Int n ∷ cells) t.1 in
    let trap = c.in-Err.trap in
    get_traps c.fields_are_found.ensures.objects c.fields_are_found.ensures.found c.fields_are_found.ensures.elements
    c.args.p c.args.at c.args.count image s c.args.pool.now n o.block o.offset t.0
    (running new).stack e trap (index_err c.index_below.result trap c.args.count n c.in-Err.is told) new
    (left_is s new (drop 1 (drop 1 (running s).stack)) (c.pop_object.ensures.rest ∙ ap popped c.pop_int-index.ensures.rest))

pub returns-in-None : goal.returns-in-None
returns-in-None c = λ image.
    let s = c.args.cells.now in
    let one = c.pop_int-index.new.cells in
    let new = c.pop_object.new.cells in
    let n = c.pop_int-index.result in
    let e = c.pop_int-index.ensures.top ∙ ap (λ (cells : List Cell). cell.Int n ∷ cells)
    (none_popped one new c.pop_object.result c.in-None.is c.pop_object.ensures.top) in
    get_null c.fields_are_found.ensures.objects c.fields_are_found.ensures.found c.fields_are_found.ensures.elements
    c.args.p c.args.at c.args.count image s c.args.pool.now n (running new).stack e new
    (left_is s new (drop 1 (drop 1 (running s).stack)) (c.pop_object.ensures.rest ∙ ap popped c.pop_int-index.ensures.rest))
