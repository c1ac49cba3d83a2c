use Rattle.std.proofs.Common.{ℕ, ◌<◌, ◌≡◌}
use Rattle.std.specs.Prelude.{slice_get, Some}
use Rattle.app_front.specs.declared.rows.FileRow.{FileRow}
use Rattle.app_reader.specs.FormedFile.{GivesItsValues}
use Rattle.app_reader.proofs.holding.all_give.Given as goal

abbrev pub invariant-loop-place : goal.invariant-loop-place
invariant-loop-place g l = (k : ℕ) (r : FileRow) → k < l.place → slice_get l.rows k ≡ Some r → GivesItsValues (g.E.Engine.meaning l.engine) r
