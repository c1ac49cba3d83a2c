use Rattle.std.proofs.Common.{rules, ◌≡◌, true, false, is_some, refl, ap}
use Rattle.sub_table.specs.declared.table.SubTable.{SubTable}
use Rattle.sub_table.specs.Table.{at, most_bytes}
use Rattle.sox_events.proofs.AllIds.{first_turn, last_turn, turn_gives, turn_passes}
use Rattle.sox_events.proofs.Counting.{counts_next, counts_none}
use Rattle.sox_events.proofs.Rooms.{room_kept}
use Rattle.sox_events.proofs.next.next_of.Goals as goal

pub ids-init : goal.ids-init
ids-init g c = record {
  passes = first_turn g.E.Engine c.args.place c.args.app.now (at c.args.table.now);
  table = refl;
  into = refl;
  counted = counts_none c.args.place c.args.app.now (at c.args.table.now) c.args.compared.now;
}

pub ids-preserved : goal.ids-preserved
ids-preserved g c =
    let none : is_some c.event_of-given.result ≡ false = search rules in
    let turn = turn_passes g.E.Engine c.args.place c.ids.from c.in-Some.id.0 c.args.app.now c.ids.app c.event_of-given.new.app c.args.table.now c.ids.table
    c.event_of-given.new.table c.args.into.now c.ids.into c.event_of-given.new.into c.event_of-given.result _ c.in-Some.ensures
    c.ids.invariant.passes c.ids.invariant.table c.ids.invariant.into none c.event_of-given.ensures.event in
    record {
      passes = turn.0;
      table = turn.1;
      into = turn.2;
      counted = counts_next c.args.place c.args.app.now c.ids.app c.event_of-given.new.app c.args.table.now c.ids.table c.args.compared.now c.ids.compared
          c.event_of-given.new.compared c.ids.invariant.table c.ids.invariant.counted c.event_of-given.ensures.compared;
    }

pub event_of-given-requires-clause-room : goal.event_of-given-requires-clause-room
event_of-given-requires-clause-room g c = λ part.
    room_kept g.E.Engine c.args.app.now c.ids.app c.args.table.now c.ids.table part c.ids.invariant.passes.meaning
    (ap (λ (t : SubTable). most_bytes t part) c.ids.invariant.table) (c.requires.room part)

pub returns-then-is_some-clause-event : goal.returns-then-is_some-clause-event
returns-then-is_some-clause-event g c =
    let some : is_some c.event_of-given.result ≡ true = search rules in
    turn_gives g.E.Engine c.args.place _ c.ids.from c.in-Some.id.0 c.args.app.now c.ids.app c.event_of-given.new.app c.args.table.now c.ids.table
    c.event_of-given.new.table c.args.into.now c.ids.into c.event_of-given.new.into c.event_of-given.result c.in-Some.ensures
    c.ids.invariant.passes c.ids.invariant.table c.ids.invariant.into some c.event_of-given.ensures.event

pub returns-clause-event : goal.returns-clause-event
returns-clause-event g c = (
  last_turn g.E.Engine c.args.place c.ids.from c.args.app.now c.ids.app c.args.table.now c.ids.table c.ids.invariant.passes c.ids.invariant.table c.in_default.ensures,
  ap at c.ids.invariant.table,
  c.ids.invariant.into,
)

pub returns-then-is_some-clause-compared : goal.returns-then-is_some-clause-compared
returns-then-is_some-clause-compared g c =
    counts_next c.args.place c.args.app.now c.ids.app c.event_of-given.new.app c.args.table.now c.ids.table c.args.compared.now c.ids.compared
    c.event_of-given.new.compared c.ids.invariant.table c.ids.invariant.counted c.event_of-given.ensures.compared
