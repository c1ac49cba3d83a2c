use Rattle.std.proofs.Common.{subst}
use Rattle.std.specs.FinMap as map
use Rattle.sed_wire.specs.Writing.{Appends}
use Rattle.comp_tree.specs.Held.{components_of}
use Rattle.app_writer.proofs.FoundRows.{class-told, found-is}
use Rattle.app_writer.proofs.row.put_entry.Goals as goal

pub put_found-requires-clause-class : goal.put_found-requires-clause-class
put_found-requires-clause-class g c =
    class-told (g.E.Engine.live c.args.tree.now.engine) (map.get (components_of g.E.Engine c.args.tree.now).by_id c.args.id.0) c.args.entry.now c.requires.told

pub returns : goal.returns
returns g c =
    let m = g.E.Engine.meaning c.args.tree.now.engine in
    let all = (components_of g.E.Engine c.args.tree.now).by_id in
    subst (Appends c.args.writer.now c.put_found.new.writer)
    (found-is m (g.E.Engine.live c.args.tree.now.engine) all c.args.id.0 c.args.entry.now c.child-first_child.result c.sibling_of-next_sibling.result
    c.child-first_child.ensures c.sibling_of-next_sibling.ensures c.requires.told)
    c.put_found.ensures
