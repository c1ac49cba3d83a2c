use Rattle.std.proofs.Common.{◌∙◌, ℕ, Option, Ok, ap}
use Rattle.scode_engine.specs.AtWork.{running_on}
use Rattle.scode_engine.specs.Root.{rooted}
use Rattle.scode_engine.specs.RootCall.{question_of}
use Rattle.scode_engine.proofs.Answering.{answered_by_none, method_found}
use Rattle.scode_engine.proofs.calls.answer.Goals as goal

pub root_method-requires-clause-found : goal.root_method-requires-clause-found
root_method-requires-clause-found c =
    let q = rooted c.args.call.now in
    let x = question_of q (running_on c.args.cells.now c.args.pool.now c.args.turns) c.args.which c.args.argument.now in
    method_found q x (c.has_root.ensures.root q.image x c.requires.ready.verified c.requires.ready.asked)

pub returns-in-None : goal.returns-in-None
returns-in-None c =
    let q = rooted c.args.call.now in
    let r = running_on c.args.cells.now c.args.pool.now c.args.turns in
    let x = question_of q r c.args.which c.args.argument.now in
    answered_by_none q c.args.which c.args.argument.now r c.requires.ready
    (c.root_method.ensures ∙ ap (λ (o : Option ℕ). Ok o) c.in-None.is)
    (c.has_root.ensures.root q.image x c.requires.ready.verified c.requires.ready.asked)
