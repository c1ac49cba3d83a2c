use Rattle.std.proofs.Common.{◌∷◌, ◌∙◌, ℕ, List, drop, sym, subst, ap, arith, ◌≡◌, FitsSigned, rules}
use Rattle.std.specs.Prelude.{ℤ}
use Rattle.std.specs.Int.{w32}
use Rattle.std.proofs.lemmas.Int.{to_z-of_z}
use Rattle.sed_engine.specs.Texts.{index_within}
use Rattle.scode_vm.specs.Doings.{as_stop}
use Rattle.sed_value.specs.SlotType.{width_of}
use Rattle.scode_mem.specs.Blocks.{HasBytes}
use Rattle.scode_cells.specs.declared.cell.Cell.{Cell}
use Rattle.scode_cells.specs.declared.cell.Cell.TheVariants as cell
use Rattle.scode_cells.specs.Frames.{popped, running}
use Rattle.scode_access.proofs.DoneArrays.{put_does, put_int, put_null, put_number, put_object, put_some, put_stands, put_traps}
use Rattle.scode_access.proofs.Going.{index_err, index_ok, index_under, left_is, none_popped, popped_is, some_popped}
use Rattle.scode_access.proofs.Storing.{StoresCell}
use Rattle.scode_access.proofs.arrays.put_element.Goals as goal

pub pop-v-requires : goal.pop-v-requires
pop-v-requires c =
    put_some c.fields_are_found.ensures.objects c.fields_are_found.ensures.found c.fields_are_found.ensures.elements
    c.args.p c.args.at c.args.count c.requires.0
    c.args.cells.now c.args.pool.now c.requires.1

pub pop_int-index-requires : goal.pop_int-index-requires
pop_int-index-requires c =
    let s = c.args.cells.now in
    put_int c.fields_are_found.ensures.objects c.fields_are_found.ensures.found c.fields_are_found.ensures.elements
    c.args.p c.args.at c.args.count c.requires.0
    s c.args.pool.now c.pop-v.result (running c.pop-v.new.self).stack
    (popped_is s c.pop-v.new.self c.pop-v.result c.pop-v.ensures.top c.pop-v.ensures.rest) c.requires.1

pub pop_object-requires : goal.pop_object-requires
pop_object-requires c =
    let s = c.args.cells.now in
    put_object c.fields_are_found.ensures.objects c.fields_are_found.ensures.found c.fields_are_found.ensures.elements
    c.args.p c.args.at c.args.count c.requires.0
    s c.args.pool.now c.requires.1 c.pop-v.result c.pop_int-index.result (running c.pop_int-index.new.cells).stack
    (popped_is s c.pop-v.new.self c.pop-v.result c.pop-v.ensures.top c.pop-v.ensures.rest
    ∙ ap (λ (cells : List Cell). c.pop-v.result ∷ cells) c.pop_int-index.ensures.top)

pub element_place-place-requires : goal.element_place-place-requires
element_place-place-requires c =
    let fits : FitsSigned w32 c.pop_int-index.result = search rules in
    let told = subst (λ (m : ℤ). as_stop c.index_below.result ≡ index_within c.args.count m)
    (to_z-of_z w32 c.pop_int-index.result fits) c.index_below.ensures.index in
    let s = c.args.cells.now in
    let first = c.pop-v.new.self in
    let one = c.pop_int-index.new.cells in
    let new = c.pop_object.new.cells in
    let o = c.in-Some.object in
    let v = c.pop-v.result in
    let n = c.pop_int-index.result in
    let t = some_popped one new c.pop_object.result o c.in-Some.is c.pop_object.ensures.top in
    let e = popped_is s first v c.pop-v.ensures.top c.pop-v.ensures.rest
    ∙ ap (λ (cells : List Cell). v ∷ cells) (c.pop_int-index.ensures.top ∙ ap (λ (cells : List Cell). cell.Int n ∷ cells) t.1) in
    let i = c.in-Ok.i in
    let below = index_under c.index_below.result i c.args.count c.in-Ok.is c.index_below.ensures.below in
    let within = index_ok c.index_below.result i c.args.count n c.in-Ok.is told in
    let stands = put_stands c.fields_are_found.ensures.objects c.fields_are_found.ensures.found c.fields_are_found.ensures.elements
    c.args.p c.args.at c.args.count c.requires.0 s c.args.pool.now v n o.block o.offset t.0
    (running new).stack e i below within c.requires.1 in
    omega (arith, stands.1.reach)

pub write_cell-requires-clause-there : goal.write_cell-requires-clause-there
write_cell-requires-clause-there c =
    let fits : FitsSigned w32 c.pop_int-index.result = search rules in
    let told = subst (λ (m : ℤ). as_stop c.index_below.result ≡ index_within c.args.count m)
    (to_z-of_z w32 c.pop_int-index.result fits) c.index_below.ensures.index in
    let s = c.args.cells.now in
    let first = c.pop-v.new.self in
    let one = c.pop_int-index.new.cells in
    let new = c.pop_object.new.cells in
    let o = c.in-Some.object in
    let v = c.pop-v.result in
    let n = c.pop_int-index.result in
    let t = some_popped one new c.pop_object.result o c.in-Some.is c.pop_object.ensures.top in
    let e = popped_is s first v c.pop-v.ensures.top c.pop-v.ensures.rest
    ∙ ap (λ (cells : List Cell). v ∷ cells) (c.pop_int-index.ensures.top ∙ ap (λ (cells : List Cell). cell.Int n ∷ cells) t.1) in
    let i = c.in-Ok.i in
    let below = index_under c.index_below.result i c.args.count c.in-Ok.is c.index_below.ensures.below in
    let within = index_ok c.index_below.result i c.args.count n c.in-Ok.is told in
    let stands = put_stands c.fields_are_found.ensures.objects c.fields_are_found.ensures.found c.fields_are_found.ensures.elements
    c.args.p c.args.at c.args.count c.requires.0 s c.args.pool.now v n o.block o.offset t.0
    (running new).stack e i below within c.requires.1 in
    subst (λ (at : ℕ). HasBytes c.args.pool.now o.block at (width_of c.args.p)) (sym c.element_place-place.ensures) stands.1.has

pub write_cell-requires-clause-kind : goal.write_cell-requires-clause-kind
write_cell-requires-clause-kind c =
    let s = c.args.cells.now in
    put_number c.fields_are_found.ensures.objects c.fields_are_found.ensures.found c.fields_are_found.ensures.elements
    c.args.p c.args.at c.args.count c.requires.0
    s c.args.pool.now c.pop-v.result (running c.pop-v.new.self).stack
    (popped_is s c.pop-v.new.self c.pop-v.result c.pop-v.ensures.top c.pop-v.ensures.rest) c.requires.1

pub returns-in-Ok : goal.returns-in-Ok
returns-in-Ok c = λ image.
    let fits : FitsSigned w32 c.pop_int-index.result = search rules in
    let told = subst (λ (m : ℤ). as_stop c.index_below.result ≡ index_within c.args.count m)
    (to_z-of_z w32 c.pop_int-index.result fits) c.index_below.ensures.index in
    let s = c.args.cells.now in
    let first = c.pop-v.new.self in
    let one = c.pop_int-index.new.cells in
    let new = c.pop_object.new.cells in
    let o = c.in-Some.object in
    let v = c.pop-v.result in
    let n = c.pop_int-index.result in
    let t = some_popped one new c.pop_object.result o c.in-Some.is c.pop_object.ensures.top in
    let e = popped_is s first v c.pop-v.ensures.top c.pop-v.ensures.rest
    ∙ ap (λ (cells : List Cell). v ∷ cells) (c.pop_int-index.ensures.top ∙ ap (λ (cells : List Cell). cell.Int n ∷ cells) t.1) in
    let i = c.in-Ok.i in
    let below = index_under c.index_below.result i c.args.count c.in-Ok.is c.index_below.ensures.below in
    let within = index_ok c.index_below.result i c.args.count n c.in-Ok.is told in
    put_does c.fields_are_found.ensures.objects c.fields_are_found.ensures.found c.fields_are_found.ensures.elements
    c.args.p c.args.at c.args.count image s c.args.pool.now v n o.block o.offset t.0
    (running new).stack e i below within c.write_cell.new.pool
    (subst (λ (at : ℕ). StoresCell c.args.p c.args.pool.now c.write_cell.new.pool o.block at v) c.element_place-place.ensures
    c.write_cell.ensures.path)
    new (left_is s new (drop 1 (drop 1 (drop 1 (running s).stack))) (c.pop_object.ensures.rest ∙ ap popped (c.pop_int-index.ensures.rest ∙ ap popped c.pop-v.ensures.rest)))

pub returns-in-Err : goal.returns-in-Err
returns-in-Err c = λ image.
    let fits : FitsSigned w32 c.pop_int-index.result = search rules in
    let told = subst (λ (m : ℤ). as_stop c.index_below.result ≡ index_within c.args.count m)
    (to_z-of_z w32 c.pop_int-index.result fits) c.index_below.ensures.index in
    let s = c.args.cells.now in
    let first = c.pop-v.new.self in
    let one = c.pop_int-index.new.cells in
    let new = c.pop_object.new.cells in
    let o = c.in-Some.object in
    let v = c.pop-v.result in
    let n = c.pop_int-index.result in
    let t = some_popped one new c.pop_object.result o c.in-Some.is c.pop_object.ensures.top in
    let e = popped_is s first v c.pop-v.ensures.top c.pop-v.ensures.rest
    ∙ ap (λ (cells : List Cell). v ∷ cells) (c.pop_int-index.ensures.top ∙ ap (λ (cells : List Cell). cell.Int n ∷ cells) t.1) in
    let trap = c.in-Err.trap in
    put_traps c.fields_are_found.ensures.objects c.fields_are_found.ensures.found c.fields_are_found.ensures.elements
    c.args.p c.args.at c.args.count image s c.args.pool.now v n o.block o.offset t.0
    (running new).stack e trap (index_err c.index_below.result trap c.args.count n c.in-Err.is told) new
    (left_is s new (drop 1 (drop 1 (drop 1 (running s).stack))) (c.pop_object.ensures.rest ∙ ap popped (c.pop_int-index.ensures.rest ∙ ap popped c.pop-v.ensures.rest)))

pub returns-in-None : goal.returns-in-None
returns-in-None c = λ image.
    let s = c.args.cells.now in
    let first = c.pop-v.new.self in
    let one = c.pop_int-index.new.cells in
    let new = c.pop_object.new.cells in
    let v = c.pop-v.result in
    let n = c.pop_int-index.result in
    let e = popped_is s first v c.pop-v.ensures.top c.pop-v.ensures.rest
    ∙ ap (λ (cells : List Cell). v ∷ cells) (c.pop_int-index.ensures.top ∙ ap (λ (cells : List Cell). cell.Int n ∷ cells)
    (none_popped one new c.pop_object.result c.in-None.is c.pop_object.ensures.top)) in
    put_null c.fields_are_found.ensures.objects c.fields_are_found.ensures.found c.fields_are_found.ensures.elements
    c.args.p c.args.at c.args.count image s c.args.pool.now v n (running new).stack e new
    (left_is s new (drop 1 (drop 1 (drop 1 (running s).stack))) (c.pop_object.ensures.rest ∙ ap popped (c.pop_int-index.ensures.rest ∙ ap popped c.pop-v.ensures.rest)))
