use Rattle.sub_table.proofs.TableLemmas.{sums}
use Rattle.sub_table.proofs.table.mask_of.Goals as goal

pub returns-clause-parts : goal.returns-clause-parts
returns-clause-parts c = sums c.args.tree c.args.config c.args.runtime c.args.links c.bit.result c.bit-2.result c.bit-3.result c.bit-4.result c.bit.ensures c.bit-2.ensures c.bit-3.ensures c.bit-4.ensures
