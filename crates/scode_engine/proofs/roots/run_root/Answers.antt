use Rattle.scode_engine.specs.AtWork.{running_on}
use Rattle.scode_engine.specs.Root.{rooted}
use Rattle.scode_engine.proofs.Ends.{ends_so, has_place, works}
use Rattle.scode_engine.proofs.roots.run_root.Goals as goal

pub begin-requires-clause-room : goal.begin-requires-clause-room
begin-requires-clause-room c =
    has_place (rooted c.args.call.now) c.args.number c.args.argument
    (running_on c.args.cells.now c.args.pool.now c.args.left.now) c.requires.begins
    c.fine_machines_go_on.ensures.begins_fine

pub run-result-requires-clause-work : goal.run-result-requires-clause-work
run-result-requires-clause-work c =
    works (rooted c.args.call.now) c.args.number c.args.argument
    (running_on c.args.cells.now c.args.pool.now c.args.left.now) c.requires.begins c.begin.new.cells
    c.begin.ensures.begins c.begin.ensures.most c.fine_machines_go_on.ensures.begins_fine c.has_root.ensures.class
    c.begin.ensures.runs

pub returns : goal.returns
returns c =
    ends_so (rooted c.args.call.now) c.args.number c.args.argument
    (running_on c.args.cells.now c.args.pool.now c.args.left.now) c.requires.begins c.begin.new.cells
    c.begin.ensures.begins c.begin.ensures.most c.verified_calls_are_over.ensures c.machines_end_once.ensures.once
    c.run-result.result (running_on c.run-result.new.cells c.run-result.new.pool c.run-result.new.left)
    c.run-result.ensures c.clear.new.self c.clear.ensures
