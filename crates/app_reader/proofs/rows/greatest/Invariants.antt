use Rattle.std.proofs.Common.{◌≡◌, ℕ, max, take}
use Rattle.std.specs.List.{fold}
use Rattle.app_front.specs.declared.rows.FileRow.{FileRow}
use Rattle.app_reader.proofs.rows.greatest.Given as goal

abbrev pub invariant-loop-row : goal.invariant-loop-row
invariant-loop-row l = l.greatest ≡ fold (λ (n : ℕ) (r : FileRow). max n r.id.0) 0 (take l.row-index l.rows)
