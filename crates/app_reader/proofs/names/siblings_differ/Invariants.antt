use Rattle.std.proofs.Common.{◌≡◌, ℕ, ◌<◌, List, map}
use Rattle.std.specs.Prelude.{slice_get, Some}
use Rattle.std.specs.List.{IsDistinct}
use Rattle.std.specs.Str.{bytes_eq}
use Rattle.app_reader.specs.Checks.{name_at}
use Rattle.app_reader.proofs.names.siblings_differ.Given as goal

abbrev pub invariant-loop-place : goal.invariant-loop-place
invariant-loop-place l = (k : ℕ) (list : List ℕ) → k < l.place → slice_get l.lists k ≡ Some list → IsDistinct bytes_eq (map (name_at l.rows) list)
