use Rattle.std.proofs.Common.{◌≡◌, take}
use Rattle.app_reader.specs.Entries.{ids_there}
use Rattle.app_reader.proofs.entries.ids_at.Given as goal

-- those so far
abbrev pub invariant-loop-place : goal.invariant-loop-place
invariant-loop-place l = l.ids.items ≡ ids_there l.rows (take l.place-index l.places)
