use Rattle.std.proofs.Common.{◌≤◌, length}
use Rattle.sed_wire.specs.Writing.{room}
use Rattle.comp_tree.specs.Held.{components_of}
use Rattle.app_parts.proofs.SoFar.{SoFar}
use Rattle.app_writer.specs.Written.{rows_text}
use Rattle.app_writer.proofs.RowsLeft.{rows_from}
use Rattle.app_writer.proofs.writing.put_rows.Given as goal

-- the rows before this id are put, and there is room for the others
abbrev pub invariant-loop-id : goal.invariant-loop-id
invariant-loop-id g l =
    SoFar l.fn.writer l.writer (rows_text (g.E.Engine.meaning l.tree.engine) (components_of g.E.Engine l.tree).by_id)
    (rows_from (g.E.Engine.meaning l.tree.engine) (components_of g.E.Engine l.tree).by_id l.id)
    × (length (rows_from (g.E.Engine.meaning l.tree.engine) (components_of g.E.Engine l.tree).by_id l.id) ≤ room l.writer)
