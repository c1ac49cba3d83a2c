use Rattle.std.proofs.Common.{arith}
use Rattle.comp_tree.specs.Held.{components_of}
use Rattle.app_writer.proofs.Lengths.{tree-length}
use Rattle.app_writer.proofs.measure.tree_length.Goals as goal

pub returns-clause-length : goal.returns-clause-length
returns-clause-length g c =
    let m = g.E.Engine.meaning c.args.tree.now.engine in
    let whole = tree-length m (components_of g.E.Engine c.args.tree.now).by_id in
    let front = rw c.schema.ensures.same at c.front_length.ensures.length in
    let rows = c.rows_length.ensures.length in
    omega (arith, whole, front, rows)
