use Rattle.sed_rules.proofs.Chains.{item_settled}
use Rattle.sed_rules.proofs.settled.settled_at.Goals as goal

pub returns-then-is_same-clause-known : goal.returns-then-is_same-clause-known
returns-then-is_same-clause-known c = λ units all.
    item_settled units c.args.row.now c.index_of.result c.in-Some.found all c.in-Some.ensures
