use Rattle.app_front.specs.declared.rows.FileRow.{FileRow}
use Rattle.comp_tree.proofs.LeftLemmas.{IsLeft}
use Rattle.app_reader.proofs.passed.has_much_data.Given as goal

abbrev pub invariant-loop-row : goal.invariant-loop-row
invariant-loop-row g l = IsLeft (λ (r : FileRow). (g.E.Engine.meaning l.engine).data_size r.kind.0) (g.E.Engine.limit l.engine) l.rows l.row-index l.left
