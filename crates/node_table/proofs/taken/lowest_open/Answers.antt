use Rattle.node_table.proofs.TakenLemmas.{lowest_open}
use Rattle.node_table.proofs.taken.lowest_open.Goals as goal

pub returns-clause-bound : goal.returns-clause-bound
returns-clause-bound c = (lowest_open c.args.word c.trailing_ones.result c.ranges.word.fits c.requires c.trailing_ones.ensures).within

pub returns-clause-open : goal.returns-clause-open
returns-clause-open c = (lowest_open c.args.word c.trailing_ones.result c.ranges.word.fits c.requires c.trailing_ones.ensures).free

pub returns-clause-below : goal.returns-clause-below
returns-clause-below c = (lowest_open c.args.word c.trailing_ones.result c.ranges.word.fits c.requires c.trailing_ones.ensures).below
