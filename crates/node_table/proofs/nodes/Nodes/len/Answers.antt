use Rattle.std.proofs.Common.{ap, ◌∙◌}
use Rattle.std.specs.FinMap as map
use Rattle.node_table.proofs.IndexLemmas.{len_is}
use Rattle.node_table.proofs.nodes.Nodes.len.Goals as goal

pub returns : goal.returns
returns c = c.len.ensures ∙ len_is 4096 c.self.inside.index.items c.self.inside.slab c.self.invariant.indexed ∙ ap map.len c.self.view_is
