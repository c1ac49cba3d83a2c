use Rattle.std.proofs.Common.{◌≡◌}
use Rattle.sub_table.specs.declared.part.Part.{Part}
use Rattle.sub_table.specs.Table.{most_bytes}
use Rattle.sox_events.proofs.DropLemmas.{Dropped}
use Rattle.sox_events.proofs.subs.drop_all_dead.Given as goal

abbrev pub invariant-loop-id : goal.invariant-loop-id
invariant-loop-id g l = Dropped g.E.Engine l.initial.app l.id l.initial.table l.table × ((part : Part) → most_bytes l.table part ≡ most_bytes l.initial.table part)
