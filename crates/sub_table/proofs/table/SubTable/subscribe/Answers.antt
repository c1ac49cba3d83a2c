use Rattle.sub_table.specs.Events.{subscribed}
use Rattle.sub_table.specs.Parts.{is_in}
use Rattle.sub_table.proofs.TableLemmas.{all_changed}
use Rattle.sub_table.proofs.table.SubTable.subscribe.Goals as goal

pub returns-clause-after : goal.returns-clause-after
returns-clause-after c =
    all_changed subscribed c.args.self.now
    (record { tree = c.subscribe_if.new.events; config = c.subscribe_if-2.new.events; runtime = c.subscribe_if-3.new.events; links = c.subscribe_if-4.new.events })
    (is_in c.args.mask) c.args.place c.args.id.0 c.number_of-number.result c.requires.place c.requires.id c.number_of-number.ensures.same
    c.is_in.result c.is_in-2.result c.is_in-3.result c.is_in-4.result c.is_in.ensures c.is_in-2.ensures c.is_in-3.ensures c.is_in-4.ensures
    c.subscribe_if.ensures.after c.subscribe_if-2.ensures.after c.subscribe_if-3.ensures.after c.subscribe_if-4.ensures.after
