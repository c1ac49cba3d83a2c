use Rattle.std.proofs.Common.{◌≡◌}
use Rattle.sub_table.specs.declared.part.Part.{Part}
use Rattle.sub_table.specs.Table.{most_bytes}
use Rattle.sub_table.proofs.TableLemmas.{ClearedPlaces}
use Rattle.sub_table.proofs.table.SubTable.drop_id.Given as goal

abbrev pub invariant-loop-place : goal.invariant-loop-place
invariant-loop-place l = ClearedPlaces l.place l.id.0 l.initial.self l.self × ((part : Part) → most_bytes l.self part ≡ most_bytes l.initial.self part)
