use Rattle.scode_engine.specs.AtWork.{running_on}
use Rattle.scode_engine.specs.Root.{rooted}
use Rattle.scode_engine.specs.RootCall.{question_of}
use Rattle.scode_engine.proofs.Answering.{answered_by, argument_found, may_begin}
use Rattle.scode_engine.proofs.calls.run_method.Goals as goal

pub argument_cell-given-requires : goal.argument_cell-given-requires
argument_cell-given-requires c =
    let q = rooted c.args.call.now in
    let x = question_of q (running_on c.args.cells.now c.args.pool.now c.args.turns) c.args.which c.args.argument.now in
    argument_found q x c.args.number (c.has_root.ensures.root q.image x c.requires.ready.verified c.requires.ready.asked)
    c.requires.found

pub run_root-came-requires-clause-begins : goal.run_root-came-requires-clause-begins
run_root-came-requires-clause-begins c =
    let q = rooted c.args.call.now in
    let r = running_on c.args.cells.now c.args.pool.now c.args.turns in
    let x = question_of q r c.args.which c.args.argument.now in
    may_begin q c.args.which c.args.argument.now r c.requires.ready c.args.number c.argument_cell-given.result
    c.requires.found
    (argument_found q x c.args.number (c.has_root.ensures.root q.image x c.requires.ready.verified c.requires.ready.asked)
    c.requires.found)
    c.argument_cell-given.ensures

pub returns : goal.returns
returns c =
    let q = rooted c.args.call.now in
    let r = running_on c.args.cells.now c.args.pool.now c.args.turns in
    let x = question_of q r c.args.which c.args.argument.now in
    answered_by q c.args.which c.args.argument.now r c.requires.ready c.args.number c.argument_cell-given.result
    c.requires.found
    (argument_found q x c.args.number (c.has_root.ensures.root q.image x c.requires.ready.verified c.requires.ready.asked)
    c.requires.found)
    c.argument_cell-given.ensures c.run_root-came.result
    (running_on c.run_root-came.new.cells c.run_root-came.new.pool c.run_root-came.new.left)
    c.run_root-came.ensures c.call_end.result c.call_end.ensures
