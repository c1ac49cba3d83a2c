use Rattle.std.proofs.Common.{◌∙◌}
use Rattle.sub_table.proofs.KeptLemmas.{free_behind, with_behind}
use Rattle.sub_table.proofs.links.Links.push.Goals as goal

pub insert-requires-clause-target : goal.insert-requires-clause-target
insert-requires-clause-target c = free_behind c.args.link c.args.self.now c.requires.order

pub returns : goal.returns
returns c = c.insert.ensures ∙ with_behind c.args.link c.args.self.now c.requires.order
