use Rattle.std.proofs.Common.{◌≡◌, ◌-◌}
use Rattle.std.specs.Prelude.{nat_lt}
use Rattle.sub_table.specs.Table.{at}
use Rattle.sox_events.specs.Compared.{Counts}
use Rattle.sox_events.specs.Due.{Passes}
use Rattle.sox_events.proofs.next.next_of.Given as goal

-- the parts of the ids below this one are passed
abbrev pub invariant-ids : goal.invariant-ids
invariant-ids g l = record {
  passes : Passes g.E.Engine l.initial.app l.app (at l.initial.table) l.place (λ i q. nat_lt i l.from);
  table : l.table ≡ l.initial.table;
  into : l.into ≡ l.initial.into;
  counted : Counts l.initial.app l.app (at l.initial.table) l.place l.initial.compared l.compared;
}

abbrev pub decreases-ids : goal.decreases-ids
decreases-ids g l = 4096 - l.from
