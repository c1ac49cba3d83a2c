use Rattle.sed_rules.proofs.Chains.{put_settled}
use Rattle.sed_rules.proofs.settled.put.Goals as goal

pub returns : goal.returns
returns c = λ units known all. put_settled units c.args.row.now c.index_of-index.result c.args.settled known all
