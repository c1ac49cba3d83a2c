use Rattle.std.proofs.Common.{◌≡◌}
use Rattle.sub_table.specs.declared.part.Part.{Part}
use Rattle.sub_table.specs.Table.{most_bytes}
use Rattle.sub_table.proofs.TableLemmas.{ClearedIds}
use Rattle.sub_table.proofs.table.SubTable.drop_session.Given as goal

abbrev pub invariant-loop-id : goal.invariant-loop-id
invariant-loop-id l = ClearedIds l.place l.id l.initial.self l.self × ((part : Part) → most_bytes l.self part ≡ most_bytes l.initial.self part)
