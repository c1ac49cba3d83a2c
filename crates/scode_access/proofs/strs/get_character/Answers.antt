use Rattle.std.proofs.Common.{◌∷◌, ◌∙◌, [], List, FitsSigned, rules, drop, ap, sym, subst}
use Rattle.std.specs.Prelude.{ℤ}
use Rattle.std.specs.Int.{w32}
use Rattle.std.proofs.lemmas.Int.{to_z-of_z}
use Rattle.sed_typed.specs.declared.operators.TextCall.TheVariants as calls
use Rattle.scode_cells.specs.declared.cell.Cell.{Cell}
use Rattle.scode_cells.specs.declared.cell.Cell.TheVariants as cell
use Rattle.scode_cells.specs.Frames.{popped, running}
use Rattle.scode_access.specs.Strs.{Calls, MayCall}
use Rattle.scode_access.proofs.DoneStrs.{call_does, call_room, call_traps, get_int, get_opens, get_some, gets, may_call}
use Rattle.scode_access.proofs.Going.{left_is, popped_is, pushed_is, room_on}
use Rattle.scode_access.proofs.strs.get_character.Goals as goal

pub pop_int-index-requires : goal.pop_int-index-requires
pop_int-index-requires c = get_int c.args.image.now c.args.cells.now c.args.pool.now c.requires

pub pop-v-requires : goal.pop-v-requires
pop-v-requires c =
    get_some c.args.image.now c.args.cells.now c.args.pool.now c.requires c.pop_int-index.result
    (running c.pop_int-index.new.cells).stack c.pop_int-index.ensures.top

pub character_in-requires : goal.character_in-requires
character_in-requires c =
    let s = c.args.cells.now in
    let one = c.pop_int-index.new.cells in
    let new = c.pop-v.new.self in
    let n = c.pop_int-index.result in
    let v = c.pop-v.result in
    let e = c.pop_int-index.ensures.top
    ∙ ap (λ (cells : List Cell). cell.Int n ∷ cells) (popped_is one new v c.pop-v.ensures.top c.pop-v.ensures.rest) in
    let fits : FitsSigned w32 n = search rules in
    subst (λ (m : ℤ). MayCall calls.Get v (cell.Int m ∷ []) c.args.image.now c.args.pool.now) (sym (to_z-of_z w32 n fits))
    (may_call c.args.image.now s c.args.pool.now gets calls.Get v (cell.Int n ∷ []) (running new).stack
    (get_opens c.args.image.now s c.args.pool.now n v (running new).stack e) c.requires)

pub push-requires-clause-room : goal.push-requires-clause-room
push-requires-clause-room c =
    let s = c.args.cells.now in
    let one = c.pop_int-index.new.cells in
    let new = c.pop-v.new.self in
    let n = c.pop_int-index.result in
    let v = c.pop-v.result in
    let e = c.pop_int-index.ensures.top
    ∙ ap (λ (cells : List Cell). cell.Int n ∷ cells) (popped_is one new v c.pop-v.ensures.top c.pop-v.ensures.rest) in
    let fits : FitsSigned w32 n = search rules in
    let told = subst (λ (m : ℤ). Calls calls.Get v (cell.Int m ∷ []) c.args.image.now c.args.pool.now c.character_in.result)
    (to_z-of_z w32 n fits) c.character_in.ensures in
    let so = subst (Calls calls.Get v (cell.Int n ∷ []) c.args.image.now c.args.pool.now) c.in-Ok.is told in
    room_on s new (drop 1 (drop 1 (running s).stack)) c.in-Ok.byte
    (c.pop-v.ensures.rest ∙ ap popped c.pop_int-index.ensures.rest)
    (call_room c.args.image.now s c.args.pool.now gets calls.Get v (cell.Int n ∷ []) (running new).stack
    (get_opens c.args.image.now s c.args.pool.now n v (running new).stack e) c.in-Ok.byte so c.requires)

pub returns-in-Ok : goal.returns-in-Ok
returns-in-Ok c =
    let s = c.args.cells.now in
    let one = c.pop_int-index.new.cells in
    let new = c.pop-v.new.self in
    let n = c.pop_int-index.result in
    let v = c.pop-v.result in
    let e = c.pop_int-index.ensures.top
    ∙ ap (λ (cells : List Cell). cell.Int n ∷ cells) (popped_is one new v c.pop-v.ensures.top c.pop-v.ensures.rest) in
    let fits : FitsSigned w32 n = search rules in
    let told = subst (λ (m : ℤ). Calls calls.Get v (cell.Int m ∷ []) c.args.image.now c.args.pool.now c.character_in.result)
    (to_z-of_z w32 n fits) c.character_in.ensures in
    let so = subst (Calls calls.Get v (cell.Int n ∷ []) c.args.image.now c.args.pool.now) c.in-Ok.is told in
    call_does c.args.image.now s c.args.pool.now gets calls.Get v (cell.Int n ∷ []) (running new).stack
    (get_opens c.args.image.now s c.args.pool.now n v (running new).stack e) c.in-Ok.byte so
    c.push.new.self
    (pushed_is s new c.push.new.self (drop 1 (drop 1 (running s).stack)) c.in-Ok.byte
    (c.pop-v.ensures.rest ∙ ap popped c.pop_int-index.ensures.rest) c.push.ensures)

pub returns-in-Err : goal.returns-in-Err
returns-in-Err c =
    let s = c.args.cells.now in
    let one = c.pop_int-index.new.cells in
    let new = c.pop-v.new.self in
    let n = c.pop_int-index.result in
    let v = c.pop-v.result in
    let e = c.pop_int-index.ensures.top
    ∙ ap (λ (cells : List Cell). cell.Int n ∷ cells) (popped_is one new v c.pop-v.ensures.top c.pop-v.ensures.rest) in
    let fits : FitsSigned w32 n = search rules in
    let told = subst (λ (m : ℤ). Calls calls.Get v (cell.Int m ∷ []) c.args.image.now c.args.pool.now c.character_in.result)
    (to_z-of_z w32 n fits) c.character_in.ensures in
    let so = subst (Calls calls.Get v (cell.Int n ∷ []) c.args.image.now c.args.pool.now) c.in-Err.is told in
    call_traps c.args.image.now s c.args.pool.now gets calls.Get v (cell.Int n ∷ []) (running new).stack
    (get_opens c.args.image.now s c.args.pool.now n v (running new).stack e) c.in-Err.trap
    so new
    (left_is s new (drop 1 (drop 1 (running s).stack)) (c.pop-v.ensures.rest ∙ ap popped c.pop_int-index.ensures.rest))
