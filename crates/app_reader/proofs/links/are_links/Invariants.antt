use Rattle.std.proofs.Common.{◌≡◌, ℕ, ◌<◌}
use Rattle.std.specs.Prelude.{slice_get, Some}
use Rattle.sed_engine.specs.Code.{Meaning}
use Rattle.sub_table.specs.Link.{Link}
use Rattle.app_reader.specs.FormedFile.{IsLinkIn}
use Rattle.app_reader.proofs.links.are_links.Given as goal

abbrev pub invariant-loop-place : goal.invariant-loop-place
invariant-loop-place l = (m : Meaning) → m.schema ≡ l.schema → (k : ℕ) (link : Link) → k < l.place → slice_get l.links k ≡ Some link → IsLinkIn m l.rows link
