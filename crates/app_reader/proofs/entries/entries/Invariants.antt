use Rattle.std.proofs.Common.{◌≡◌, take, map as map_list}
use Rattle.app_reader.specs.Entries.{entry_of}
use Rattle.app_reader.proofs.entries.entries.Given as goal

-- those so far
abbrev pub invariant-loop-place : goal.invariant-loop-place
invariant-loop-place l = l.entries.items ≡ map_list (entry_of l.rows l.lists) (take l.place l.rows)
