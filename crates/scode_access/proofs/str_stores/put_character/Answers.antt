use Rattle.std.proofs.Common.{◌∷◌, ◌∙◌, ◌-◌, ◌<◌, ℕ, ℤ, List, subst, ap, arith, ◌≡◌, FitsSigned, rules}
use Rattle.std.specs.Int.{w32}
use Rattle.std.specs.Prelude.{IfOk}
use Rattle.std.proofs.lemmas.Int.{to_z-of_z}
use Rattle.sed_engine.specs.Texts.{index_within}
use Rattle.scode_cells.specs.declared.cell.Cell.{Cell}
use Rattle.scode_cells.specs.declared.cell.Cell.TheVariants as cell
use Rattle.scode_cells.specs.Frames.{running}
use Rattle.scode_vm.specs.Doings.{as_stop}
use Rattle.scode_access.proofs.DoneStrStores.{SetsCharacter, none_else, set_does, set_kind, set_null, set_second, set_some, set_stands, set_text, set_top, set_traps, three_left, three_off}
use Rattle.scode_access.proofs.Going.{index_err, index_ok, index_under}
use Rattle.scode_access.proofs.str_stores.put_character.Goals as goal

pub pop_int-character-requires : goal.pop_int-character-requires
pop_int-character-requires c =
    set_top c.strs_are_found.ensures.found c.strs_are_found.ensures.objects c.strs_hold_bytes.ensures c.requires.0
    c.args.cells.now c.args.pool.now c.requires.1

pub pop_int-index-requires : goal.pop_int-index-requires
pop_int-index-requires c =
    set_second c.strs_are_found.ensures.found c.strs_are_found.ensures.objects c.strs_hold_bytes.ensures c.requires.0
    c.args.cells.now c.args.pool.now c.requires.1 c.pop_int-character.result (running c.pop_int-character.new.cells).stack
    c.pop_int-character.ensures.top

pub pop-into-requires : goal.pop-into-requires
pop-into-requires c =
    set_some c.strs_are_found.ensures.found c.strs_are_found.ensures.objects c.strs_hold_bytes.ensures c.requires.0
    c.args.cells.now c.args.pool.now c.requires.1 c.pop_int-character.result c.pop_int-index.result
    (running c.pop_int-index.new.cells).stack
    (c.pop_int-character.ensures.top
    ∙ ap (λ (cells : List Cell). cell.Int c.pop_int-character.result ∷ cells) c.pop_int-index.ensures.top)

pub unreachable-requires : goal.unreachable-requires
unreachable-requires c =
    let all = three_off c.args.cells.now c.pop_int-character.new.cells c.pop_int-index.new.cells c.pop-into.new.self
    c.pop_int-character.result c.pop_int-index.result c.pop-into.result c.pop_int-character.ensures.top
    c.pop_int-character.ensures.rest c.pop_int-index.ensures.top c.pop_int-index.ensures.rest c.pop-into.ensures.top
    c.pop-into.ensures.rest in
    let x = c.pop_int-character.result in
    let n = c.pop_int-index.result in
    let rest = (running c.pop-into.new.self).stack in
    none_else c.pop-into.result
    (set_kind c.strs_are_found.ensures.found c.strs_are_found.ensures.objects c.strs_hold_bytes.ensures c.requires.0
    c.args.cells.now c.args.pool.now c.requires.1 x n c.pop-into.result rest all)
    c.in_default.not-Str c.in_default.not-Text c.in_default.not-Null

pub overflow_sub-size : goal.overflow_sub-size
overflow_sub-size c =
    let all = three_off c.args.cells.now c.pop_int-character.new.cells c.pop_int-index.new.cells c.pop-into.new.self
    c.pop_int-character.result c.pop_int-index.result c.pop-into.result c.pop_int-character.ensures.top
    c.pop_int-character.ensures.rest c.pop_int-index.ensures.top c.pop_int-index.ensures.rest c.pop-into.ensures.top
    c.pop-into.ensures.rest in
    let x = c.pop_int-character.result in
    let n = c.pop_int-index.result in
    let rest = (running c.pop-into.new.self).stack in
    let e = all ∙ ap (λ (v : Cell). cell.Int x ∷ cell.Int n ∷ v ∷ rest) c.in-Str.is in
    let t = set_stands c.strs_are_found.ensures.found c.strs_are_found.ensures.objects c.strs_hold_bytes.ensures c.requires.0
    c.args.cells.now c.args.pool.now x n c.in-Str.block c.in-Str.offset c.in-Str.size rest e c.requires.1 in
    let sized = c.parts_are_led_to.ensures.strs _ _ _ _ _ _ _ c.requires.1.ground t.stands in
    omega (arith, sized.0)

pub overflow_cast-i : goal.overflow_cast-i
overflow_cast-i c =
    let all = three_off c.args.cells.now c.pop_int-character.new.cells c.pop_int-index.new.cells c.pop-into.new.self
    c.pop_int-character.result c.pop_int-index.result c.pop-into.result c.pop_int-character.ensures.top
    c.pop_int-character.ensures.rest c.pop_int-index.ensures.top c.pop_int-index.ensures.rest c.pop-into.ensures.top
    c.pop-into.ensures.rest in
    let x = c.pop_int-character.result in
    let n = c.pop_int-index.result in
    let rest = (running c.pop-into.new.self).stack in
    let e = all ∙ ap (λ (v : Cell). cell.Int x ∷ cell.Int n ∷ v ∷ rest) c.in-Str.is in
    let t = set_stands c.strs_are_found.ensures.found c.strs_are_found.ensures.objects c.strs_hold_bytes.ensures c.requires.0
    c.args.cells.now c.args.pool.now x n c.in-Str.block c.in-Str.offset c.in-Str.size rest e c.requires.1 in
    let sized = c.parts_are_led_to.ensures.strs _ _ _ _ _ _ _ c.requires.1.ground t.stands in
    let below = index_under c.index_below.result c.in-Ok.i (c.in-Str.size - 1) c.in-Ok.is
    (subst (λ (k : ℕ). IfOk c.index_below.result (λ i. i < k)) c.from.ensures c.index_below.ensures.below) in
    omega (arith, sized.1, below)

pub set_character-requires-clause-within : goal.set_character-requires-clause-within
set_character-requires-clause-within c =
    let all = three_off c.args.cells.now c.pop_int-character.new.cells c.pop_int-index.new.cells c.pop-into.new.self
    c.pop_int-character.result c.pop_int-index.result c.pop-into.result c.pop_int-character.ensures.top
    c.pop_int-character.ensures.rest c.pop_int-index.ensures.top c.pop_int-index.ensures.rest c.pop-into.ensures.top
    c.pop-into.ensures.rest in
    let x = c.pop_int-character.result in
    let n = c.pop_int-index.result in
    let rest = (running c.pop-into.new.self).stack in
    let e = all ∙ ap (λ (v : Cell). cell.Int x ∷ cell.Int n ∷ v ∷ rest) c.in-Str.is in
    let t = set_stands c.strs_are_found.ensures.found c.strs_are_found.ensures.objects c.strs_hold_bytes.ensures c.requires.0
    c.args.cells.now c.args.pool.now x n c.in-Str.block c.in-Str.offset c.in-Str.size rest e c.requires.1 in
    let sized = c.parts_are_led_to.ensures.strs _ _ _ _ _ _ _ c.requires.1.ground t.stands in
    let below = index_under c.index_below.result c.in-Ok.i (c.in-Str.size - 1) c.in-Ok.is
    (subst (λ (k : ℕ). IfOk c.index_below.result (λ i. i < k)) c.from.ensures c.index_below.ensures.below) in
    omega (arith, sized.0, below)

pub set_character-requires-clause-there : goal.set_character-requires-clause-there
set_character-requires-clause-there c =
    let all = three_off c.args.cells.now c.pop_int-character.new.cells c.pop_int-index.new.cells c.pop-into.new.self
    c.pop_int-character.result c.pop_int-index.result c.pop-into.result c.pop_int-character.ensures.top
    c.pop_int-character.ensures.rest c.pop_int-index.ensures.top c.pop_int-index.ensures.rest c.pop-into.ensures.top
    c.pop-into.ensures.rest in
    let x = c.pop_int-character.result in
    let n = c.pop_int-index.result in
    let rest = (running c.pop-into.new.self).stack in
    let e = all ∙ ap (λ (v : Cell). cell.Int x ∷ cell.Int n ∷ v ∷ rest) c.in-Str.is in
    let t = set_stands c.strs_are_found.ensures.found c.strs_are_found.ensures.objects c.strs_hold_bytes.ensures c.requires.0
    c.args.cells.now c.args.pool.now x n c.in-Str.block c.in-Str.offset c.in-Str.size rest e c.requires.1 in
    t.stands.has

pub set_character-requires-clause-reach : goal.set_character-requires-clause-reach
set_character-requires-clause-reach c =
    let all = three_off c.args.cells.now c.pop_int-character.new.cells c.pop_int-index.new.cells c.pop-into.new.self
    c.pop_int-character.result c.pop_int-index.result c.pop-into.result c.pop_int-character.ensures.top
    c.pop_int-character.ensures.rest c.pop_int-index.ensures.top c.pop_int-index.ensures.rest c.pop-into.ensures.top
    c.pop-into.ensures.rest in
    let x = c.pop_int-character.result in
    let n = c.pop_int-index.result in
    let rest = (running c.pop-into.new.self).stack in
    let e = all ∙ ap (λ (v : Cell). cell.Int x ∷ cell.Int n ∷ v ∷ rest) c.in-Str.is in
    let t = set_stands c.strs_are_found.ensures.found c.strs_are_found.ensures.objects c.strs_hold_bytes.ensures c.requires.0
    c.args.cells.now c.args.pool.now x n c.in-Str.block c.in-Str.offset c.in-Str.size rest e c.requires.1 in
    t.stands.reach

pub returns-in-Ok : goal.returns-in-Ok
returns-in-Ok c = λ image.
    let all = three_off c.args.cells.now c.pop_int-character.new.cells c.pop_int-index.new.cells c.pop-into.new.self
    c.pop_int-character.result c.pop_int-index.result c.pop-into.result c.pop_int-character.ensures.top
    c.pop_int-character.ensures.rest c.pop_int-index.ensures.top c.pop_int-index.ensures.rest c.pop-into.ensures.top
    c.pop-into.ensures.rest in
    let left = three_left c.args.cells.now c.pop_int-character.new.cells c.pop_int-index.new.cells c.pop-into.new.self
    c.pop_int-character.result c.pop_int-index.result c.pop-into.result c.pop_int-character.ensures.top
    c.pop_int-character.ensures.rest c.pop_int-index.ensures.top c.pop_int-index.ensures.rest c.pop-into.ensures.top
    c.pop-into.ensures.rest in
    let x = c.pop_int-character.result in
    let n = c.pop_int-index.result in
    let rest = (running c.pop-into.new.self).stack in
    let e = all ∙ ap (λ (v : Cell). cell.Int x ∷ cell.Int n ∷ v ∷ rest) c.in-Str.is in
    let fits : FitsSigned w32 c.pop_int-index.result = search rules in
    let told = subst (λ (m : ℤ). as_stop c.index_below.result ≡ index_within c.from.result m)
    (to_z-of_z w32 c.pop_int-index.result fits) c.index_below.ensures.index
    ∙ ap (λ (k : ℕ). index_within k c.pop_int-index.result) c.from.ensures in
    let within = index_ok c.index_below.result c.in-Ok.i (c.in-Str.size - 1) n c.in-Ok.is told in
    let whole : FitsSigned w32 c.pop_int-character.result = search rules in
    let stores = subst (λ (m : ℤ). SetsCharacter c.args.pool.now c.set_character.new.pool c.in-Str.block c.in-Str.offset
    c.in-Str.size c.in-Ok.i m) (to_z-of_z w32 c.pop_int-character.result whole) c.set_character.ensures.path in
    set_does c.strs_are_found.ensures.found c.strs_are_found.ensures.objects c.strs_hold_bytes.ensures image
    c.args.cells.now c.args.pool.now x n c.in-Str.block c.in-Str.offset c.in-Str.size rest e c.in-Ok.i within
    c.set_character.new.pool stores c.pop-into.new.self left

pub returns-in-Err : goal.returns-in-Err
returns-in-Err c = λ image.
    let all = three_off c.args.cells.now c.pop_int-character.new.cells c.pop_int-index.new.cells c.pop-into.new.self
    c.pop_int-character.result c.pop_int-index.result c.pop-into.result c.pop_int-character.ensures.top
    c.pop_int-character.ensures.rest c.pop_int-index.ensures.top c.pop_int-index.ensures.rest c.pop-into.ensures.top
    c.pop-into.ensures.rest in
    let left = three_left c.args.cells.now c.pop_int-character.new.cells c.pop_int-index.new.cells c.pop-into.new.self
    c.pop_int-character.result c.pop_int-index.result c.pop-into.result c.pop_int-character.ensures.top
    c.pop_int-character.ensures.rest c.pop_int-index.ensures.top c.pop_int-index.ensures.rest c.pop-into.ensures.top
    c.pop-into.ensures.rest in
    let x = c.pop_int-character.result in
    let n = c.pop_int-index.result in
    let rest = (running c.pop-into.new.self).stack in
    let e = all ∙ ap (λ (v : Cell). cell.Int x ∷ cell.Int n ∷ v ∷ rest) c.in-Str.is in
    let fits : FitsSigned w32 c.pop_int-index.result = search rules in
    let told = subst (λ (m : ℤ). as_stop c.index_below.result ≡ index_within c.from.result m)
    (to_z-of_z w32 c.pop_int-index.result fits) c.index_below.ensures.index
    ∙ ap (λ (k : ℕ). index_within k c.pop_int-index.result) c.from.ensures in
    let out = index_err c.index_below.result c.in-Err.trap (c.in-Str.size - 1) n c.in-Err.is told in
    set_traps c.strs_are_found.ensures.found c.strs_are_found.ensures.objects c.strs_hold_bytes.ensures image
    c.args.cells.now c.args.pool.now x n c.in-Str.block c.in-Str.offset c.in-Str.size rest e c.in-Err.trap out
    c.pop-into.new.self left

pub returns-in-Text : goal.returns-in-Text
returns-in-Text c = λ image.
    let all = three_off c.args.cells.now c.pop_int-character.new.cells c.pop_int-index.new.cells c.pop-into.new.self
    c.pop_int-character.result c.pop_int-index.result c.pop-into.result c.pop_int-character.ensures.top
    c.pop_int-character.ensures.rest c.pop_int-index.ensures.top c.pop_int-index.ensures.rest c.pop-into.ensures.top
    c.pop-into.ensures.rest in
    let left = three_left c.args.cells.now c.pop_int-character.new.cells c.pop_int-index.new.cells c.pop-into.new.self
    c.pop_int-character.result c.pop_int-index.result c.pop-into.result c.pop_int-character.ensures.top
    c.pop_int-character.ensures.rest c.pop_int-index.ensures.top c.pop_int-index.ensures.rest c.pop-into.ensures.top
    c.pop-into.ensures.rest in
    let x = c.pop_int-character.result in
    let n = c.pop_int-index.result in
    let rest = (running c.pop-into.new.self).stack in
    let e = all ∙ ap (λ (v : Cell). cell.Int x ∷ cell.Int n ∷ v ∷ rest) c.in-Text.is in
    set_text c.strs_are_found.ensures.found c.strs_are_found.ensures.objects c.strs_hold_bytes.ensures image
    c.args.cells.now c.args.pool.now x n c.in-Text.field-0 rest e c.pop-into.new.self left

pub returns-in-Null : goal.returns-in-Null
returns-in-Null c = λ image.
    let all = three_off c.args.cells.now c.pop_int-character.new.cells c.pop_int-index.new.cells c.pop-into.new.self
    c.pop_int-character.result c.pop_int-index.result c.pop-into.result c.pop_int-character.ensures.top
    c.pop_int-character.ensures.rest c.pop_int-index.ensures.top c.pop_int-index.ensures.rest c.pop-into.ensures.top
    c.pop-into.ensures.rest in
    let left = three_left c.args.cells.now c.pop_int-character.new.cells c.pop_int-index.new.cells c.pop-into.new.self
    c.pop_int-character.result c.pop_int-index.result c.pop-into.result c.pop_int-character.ensures.top
    c.pop_int-character.ensures.rest c.pop_int-index.ensures.top c.pop_int-index.ensures.rest c.pop-into.ensures.top
    c.pop-into.ensures.rest in
    let x = c.pop_int-character.result in
    let n = c.pop_int-index.result in
    let rest = (running c.pop-into.new.self).stack in
    let e = all ∙ ap (λ (v : Cell). cell.Int x ∷ cell.Int n ∷ v ∷ rest) c.in-Null.is in
    set_null c.strs_are_found.ensures.found c.strs_are_found.ensures.objects c.strs_hold_bytes.ensures image
    c.args.cells.now c.args.pool.now x n rest e c.pop-into.new.self left
