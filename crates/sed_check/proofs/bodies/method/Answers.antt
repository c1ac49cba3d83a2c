use Rattle.sed_check.specs.Judgements.{method_at}
use Rattle.sed_check.proofs.Grown.{grown_by_one}
use Rattle.sed_check.proofs.bodies.method.Goals as goal

pub returns : goal.returns
returns c =
    let found = c.in_ok-judgement.judgement in
    grown_by_one c.args.tables.now (method_at c.args.tables.now c.args.number c.args.class c.args.member.now)
    c.args.bodies.now c.note.new.bodies found.fault found.is_known found.tree
    c.in_ok-judgement.ensures.fault c.in_ok-judgement.ensures.known c.in_ok-judgement.ensures.tree
    c.in_ok-note.ensures.first c.in_ok-note.ensures.known c.in_ok-note.ensures.trees
