use Rattle.std.proofs.Common.{rules, ◌≡◌, true, take, sym, ◌∙◌}
use Rattle.sub_table.specs.Table.{at}
use Rattle.sox_events.proofs.FourParts.{match_map}
use Rattle.sox_events.proofs.OnePart.{counts_one, gives_one, passes_one}
use Rattle.sox_events.proofs.Counting.{counts_none}
use Rattle.sox_events.proofs.next.event_of_part.Goals as goal

pub returns-clause-event : goal.returns-clause-event
returns-clause-event g c =
    let found : c.may_be_due.result ≡ true = search rules in
    match_map _ _ _ _ c.event_of_bytes.result
    (λ m. (
      passes_one g.E.Engine c.args.app.now c.settle.new.self (at c.args.table.now) c.args.place c.args.id.0 c.args.part c.bit_of.result c.requires.live
          (sym c.may_be_due.ensures ∙ found) c.bit_of.ensures c.settle.ensures.marks c.settle.ensures.stays c.settle.ensures.same.meaning c.settle.ensures.same.steady
          (take c.put_part-count.result c.put_part-count.new.bytes) c.put_part-count.ensures.front m.0,
      m.1,
      m.2,
    ))
    (λ count m. gives_one g.E.Engine c.args.app.now c.settle.new.self (at c.args.table.now) c.args.place c.args.id.0 c.args.part c.bit_of.result c.requires.live
    (sym c.may_be_due.ensures ∙ found) c.bit_of.ensures c.settle.ensures.marks c.settle.ensures.stays c.settle.ensures.same.meaning c.settle.ensures.same.steady
    (take c.put_part-count.result c.put_part-count.new.bytes) c.put_part-count.ensures.front (at c.event_of_bytes.new.table) count c.args.into.now c.event_of_bytes.new.into m.0 m.1 m.2)
    c.event_of_bytes.ensures.event

pub returns-then-not-may_be_due-clause-compared : goal.returns-then-not-may_be_due-clause-compared
returns-then-not-may_be_due-clause-compared g c = counts_none c.args.place c.args.app.now (at c.args.table.now) c.args.compared.now

pub returns-clause-compared : goal.returns-clause-compared
returns-clause-compared g c =
    let found : c.may_be_due.result ≡ true = search rules in
    counts_one g.E.Engine c.args.app.now c.settle.new.self (at c.args.table.now) c.args.place c.args.id.0 c.args.part c.bit_of.result c.requires.live
    (sym c.may_be_due.ensures ∙ found) c.bit_of.ensures c.settle.ensures.marks c.args.compared.now c.event_of_bytes.new.compared c.requires.bound c.event_of_bytes.ensures.compared
