use Rattle.std.proofs.Common.{◌∙◌}
use Rattle.sub_table.proofs.TableLemmas.{last_is}
use Rattle.sub_table.proofs.table.SubTable.last.Goals as goal

pub returns : goal.returns
returns c = c.last.ensures ∙ last_is c.args.self.now c.events_of.result.now c.args.place c.args.id.0 c.number_of.result c.args.part c.requires.place c.requires.id c.events_of.ensures c.number_of.ensures.same
