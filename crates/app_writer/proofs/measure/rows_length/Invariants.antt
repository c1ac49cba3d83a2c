use Rattle.std.proofs.Common.{◌≡◌, ◌+◌, ◌*◌, ◌≤◌, length}
use Rattle.comp_tree.specs.Held.{components_of}
use Rattle.app_writer.specs.Written.{rows_text}
use Rattle.app_writer.proofs.RowsLeft.{rows_from}
use Rattle.app_writer.proofs.measure.rows_length.Given as goal

-- the rows before this id are counted, each with no more than 443 bytes
abbrev pub invariant-loop-id : goal.invariant-loop-id
invariant-loop-id g l =
    (l.total + length (rows_from (g.E.Engine.meaning l.tree.engine) (components_of g.E.Engine l.tree).by_id l.id)
    ≡ length (rows_text (g.E.Engine.meaning l.tree.engine) (components_of g.E.Engine l.tree).by_id))
    × (l.total ≤ 443 * l.id)
