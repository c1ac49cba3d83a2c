use Rattle.std.proofs.Common.{◌∙◌, ap, List}
use Rattle.std.proofs.Math.ListN.{set}
use Rattle.std.proofs.lemmas.List.{map-set}
use Rattle.sed_value.specs.declared.value.Value.{Value}
use Rattle.sed_cells.specs.Cells.{cell_value}
use Rattle.sed_cells.proofs.cells.Cells.put.Goals as goal
use Rattle.sed_cells.proofs.cells.Cells.put.Goals.{in-Bytes-1, in-Nothing-1}

pub returns-then-number-len : goal.returns-then-number-len
returns-then-number-len c =
    let done = map-set cell_value c.self.inside.all.items c.args.number c.args.cell ∙ ap (λ (vs : List Value). set vs c.args.number (cell_value c.args.cell)) c.self.view_is in
    elim c.match-index_mut-cell.branch [ in-Bytes-1 w ↦ w.self-is ∙ done | in-Nothing-1 w ↦ w.self-is ∙ done ]
