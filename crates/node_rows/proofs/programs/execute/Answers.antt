use Rattle.std.proofs.Common.{◌∙◌}
use Rattle.std.specs.FinMap as map
use Rattle.comp_tree.specs.Held.{components_of}
use Rattle.link_prop.proofs.CallLemmas.{entry_fault, entry_live}
use Rattle.node_rows.proofs.programs.execute.Goals as goal

pub execute-requires-clause-live : goal.execute-requires-clause-live
execute-requires-clause-live g c =
    entry_live (g.E.Engine.live c.args.tree.now.engine) (map.get (components_of g.E.Engine c.args.tree.now).by_id c.args.id.0) c.in-Some.entry c.in-Some.ensures.told

pub execute-requires-clause-no_fault : goal.execute-requires-clause-no_fault
execute-requires-clause-no_fault g c =
    entry_fault (g.E.Engine.live c.args.tree.now.engine) (map.get (components_of g.E.Engine c.args.tree.now).by_id c.args.id.0) c.in-Some.entry c.in-Some.ensures.told
    ∙ c.if-entry-ne0.false
