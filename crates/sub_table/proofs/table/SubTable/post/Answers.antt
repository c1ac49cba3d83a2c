use Rattle.sub_table.specs.Events.{posted}
use Rattle.sub_table.specs.Parts.{is_part}
use Rattle.sub_table.proofs.TableLemmas.{all_changed}
use Rattle.sub_table.proofs.table.SubTable.post.Goals as goal

pub returns-clause-after : goal.returns-clause-after
returns-clause-after c =
    all_changed (posted c.args.event.now) c.args.self.now
    (record { tree = c.post_if.new.events; config = c.post_if-2.new.events; runtime = c.post_if-3.new.events; links = c.post_if-4.new.events })
    (is_part c.args.part) c.args.place c.args.id.0 c.number_of-number.result c.requires.place c.requires.id c.number_of-number.ensures.same
    c.is.result c.is-2.result c.is-3.result c.is-4.result c.is.ensures c.is-2.ensures c.is-3.ensures c.is-4.ensures
    c.post_if.ensures.after c.post_if-2.ensures.after c.post_if-3.ensures.after c.post_if-4.ensures.after
