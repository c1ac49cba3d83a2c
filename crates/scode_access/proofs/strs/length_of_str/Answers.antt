use Rattle.std.proofs.Common.{[], drop, subst}
use Rattle.sed_typed.specs.declared.operators.TextCall.TheVariants as calls
use Rattle.scode_cells.specs.Frames.{running}
use Rattle.scode_access.specs.Strs.{Calls}
use Rattle.scode_access.proofs.DoneStrs.{call_does, call_room, call_traps, length_opens, length_some, may_call, measures}
use Rattle.scode_access.proofs.Going.{left_is, popped_is, pushed_is, room_on}
use Rattle.scode_access.proofs.strs.length_of_str.Goals as goal

pub pop-v-requires : goal.pop-v-requires
pop-v-requires c = length_some c.args.image.now c.args.cells.now c.args.pool.now c.requires

pub length_in-requires : goal.length_in-requires
length_in-requires c =
    let s = c.args.cells.now in
    let new = c.pop-v.new.self in
    let v = c.pop-v.result in
    let e = popped_is s new v c.pop-v.ensures.top c.pop-v.ensures.rest in
    may_call c.args.image.now s c.args.pool.now measures calls.Length v [] (running new).stack
    (length_opens c.args.image.now s c.args.pool.now v (running new).stack e) c.requires

pub push-requires-clause-room : goal.push-requires-clause-room
push-requires-clause-room c =
    let s = c.args.cells.now in
    let new = c.pop-v.new.self in
    let v = c.pop-v.result in
    let e = popped_is s new v c.pop-v.ensures.top c.pop-v.ensures.rest in
    room_on s new (drop 1 (running s).stack) c.in-Ok.count c.pop-v.ensures.rest
    (call_room c.args.image.now s c.args.pool.now measures calls.Length v [] (running new).stack
    (length_opens c.args.image.now s c.args.pool.now v (running new).stack e) c.in-Ok.count
    (subst (Calls calls.Length v [] c.args.image.now c.args.pool.now) c.in-Ok.is c.length_in.ensures) c.requires)

pub returns-in-Ok : goal.returns-in-Ok
returns-in-Ok c =
    let s = c.args.cells.now in
    let new = c.pop-v.new.self in
    let v = c.pop-v.result in
    let e = popped_is s new v c.pop-v.ensures.top c.pop-v.ensures.rest in
    call_does c.args.image.now s c.args.pool.now measures calls.Length v [] (running new).stack
    (length_opens c.args.image.now s c.args.pool.now v (running new).stack e) c.in-Ok.count
    (subst (Calls calls.Length v [] c.args.image.now c.args.pool.now) c.in-Ok.is c.length_in.ensures) c.push.new.self
    (pushed_is s new c.push.new.self (drop 1 (running s).stack) c.in-Ok.count c.pop-v.ensures.rest c.push.ensures)

pub returns-in-Err : goal.returns-in-Err
returns-in-Err c =
    let s = c.args.cells.now in
    let new = c.pop-v.new.self in
    let v = c.pop-v.result in
    let e = popped_is s new v c.pop-v.ensures.top c.pop-v.ensures.rest in
    call_traps c.args.image.now s c.args.pool.now measures calls.Length v [] (running new).stack
    (length_opens c.args.image.now s c.args.pool.now v (running new).stack e) c.in-Err.trap
    (subst (Calls calls.Length v [] c.args.image.now c.args.pool.now) c.in-Err.is c.length_in.ensures) new
    (left_is s new (drop 1 (running s).stack) c.pop-v.ensures.rest)
