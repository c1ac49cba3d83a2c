use Rattle.std.proofs.Common.{◌∷◌, ◌∙◌, [], List, drop, ap, subst}
use Rattle.sed_typed.specs.declared.operators.TextCall.TheVariants as calls
use Rattle.scode_cells.specs.declared.cell.Cell.{Cell}
use Rattle.scode_cells.specs.Frames.{popped, running}
use Rattle.scode_access.specs.Strs.{Calls}
use Rattle.scode_access.proofs.DoneStrs.{call_does, call_room, call_traps, compares, equal_more, equal_opens, equal_some, may_call}
use Rattle.scode_access.proofs.Going.{left_is, popped_is, pushed_is, room_on}
use Rattle.scode_access.proofs.strs.equal_strs.Goals as goal

pub pop-other-requires : goal.pop-other-requires
pop-other-requires c = equal_some c.args.image.now c.args.cells.now c.args.pool.now c.requires

pub pop-v-requires : goal.pop-v-requires
pop-v-requires c =
    let s = c.args.cells.now in
    let one = c.pop-other.new.self in
    equal_more c.args.image.now s c.args.pool.now c.requires c.pop-other.result (running one).stack
    (popped_is s one c.pop-other.result c.pop-other.ensures.top c.pop-other.ensures.rest)

pub sameness_in-requires : goal.sameness_in-requires
sameness_in-requires c =
    let s = c.args.cells.now in
    let one = c.pop-other.new.self in
    let new = c.pop-v.new.self in
    let other = c.pop-other.result in
    let v = c.pop-v.result in
    let e = popped_is s one other c.pop-other.ensures.top c.pop-other.ensures.rest
    ∙ ap (λ (cells : List Cell). other ∷ cells) (popped_is one new v c.pop-v.ensures.top c.pop-v.ensures.rest) in
    may_call c.args.image.now s c.args.pool.now compares calls.Equals v (other ∷ []) (running new).stack
    (equal_opens c.args.image.now s c.args.pool.now other v (running new).stack e) c.requires

pub push-requires-clause-room : goal.push-requires-clause-room
push-requires-clause-room c =
    let s = c.args.cells.now in
    let one = c.pop-other.new.self in
    let new = c.pop-v.new.self in
    let other = c.pop-other.result in
    let v = c.pop-v.result in
    let e = popped_is s one other c.pop-other.ensures.top c.pop-other.ensures.rest
    ∙ ap (λ (cells : List Cell). other ∷ cells) (popped_is one new v c.pop-v.ensures.top c.pop-v.ensures.rest) in
    room_on s new (drop 1 (drop 1 (running s).stack)) c.in-Ok.same
    (c.pop-v.ensures.rest ∙ ap popped c.pop-other.ensures.rest)
    (call_room c.args.image.now s c.args.pool.now compares calls.Equals v (other ∷ []) (running new).stack
    (equal_opens c.args.image.now s c.args.pool.now other v (running new).stack e) c.in-Ok.same
    (subst (Calls calls.Equals v (other ∷ []) c.args.image.now c.args.pool.now) c.in-Ok.is c.sameness_in.ensures)
    c.requires)

pub returns-in-Ok : goal.returns-in-Ok
returns-in-Ok c =
    let s = c.args.cells.now in
    let one = c.pop-other.new.self in
    let new = c.pop-v.new.self in
    let other = c.pop-other.result in
    let v = c.pop-v.result in
    let e = popped_is s one other c.pop-other.ensures.top c.pop-other.ensures.rest
    ∙ ap (λ (cells : List Cell). other ∷ cells) (popped_is one new v c.pop-v.ensures.top c.pop-v.ensures.rest) in
    call_does c.args.image.now s c.args.pool.now compares calls.Equals v (other ∷ []) (running new).stack
    (equal_opens c.args.image.now s c.args.pool.now other v (running new).stack e) c.in-Ok.same
    (subst (Calls calls.Equals v (other ∷ []) c.args.image.now c.args.pool.now) c.in-Ok.is c.sameness_in.ensures)
    c.push.new.self
    (pushed_is s new c.push.new.self (drop 1 (drop 1 (running s).stack)) c.in-Ok.same
    (c.pop-v.ensures.rest ∙ ap popped c.pop-other.ensures.rest) c.push.ensures)

pub returns-in-Err : goal.returns-in-Err
returns-in-Err c =
    let s = c.args.cells.now in
    let one = c.pop-other.new.self in
    let new = c.pop-v.new.self in
    let other = c.pop-other.result in
    let v = c.pop-v.result in
    let e = popped_is s one other c.pop-other.ensures.top c.pop-other.ensures.rest
    ∙ ap (λ (cells : List Cell). other ∷ cells) (popped_is one new v c.pop-v.ensures.top c.pop-v.ensures.rest) in
    call_traps c.args.image.now s c.args.pool.now compares calls.Equals v (other ∷ []) (running new).stack
    (equal_opens c.args.image.now s c.args.pool.now other v (running new).stack e) c.in-Err.trap
    (subst (Calls calls.Equals v (other ∷ []) c.args.image.now c.args.pool.now) c.in-Err.is c.sameness_in.ensures) new
    (left_is s new (drop 1 (drop 1 (running s).stack)) (c.pop-v.ensures.rest ∙ ap popped c.pop-other.ensures.rest))
