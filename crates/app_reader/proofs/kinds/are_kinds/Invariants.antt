use Rattle.std.proofs.Common.{◌≡◌, ℕ, ◌<◌}
use Rattle.std.specs.Prelude.{slice_get, Some}
use Rattle.sed_engine.specs.Code.{Meaning}
use Rattle.app_front.specs.declared.rows.FileRow.{FileRow}
use Rattle.app_reader.proofs.EachRow.{IsKind}
use Rattle.app_reader.proofs.kinds.are_kinds.Given as goal

abbrev pub invariant-loop-place : goal.invariant-loop-place
invariant-loop-place l = (m : Meaning) → m.schema ≡ l.schema → (k : ℕ) (r : FileRow) → k < l.place → slice_get l.rows k ≡ Some r → IsKind m k r
