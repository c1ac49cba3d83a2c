use Rattle.sedona_laws.proofs.AnyWords.{is_either, is_sure, its_answer, its_line, its_want, outside}
use Rattle.sedona_laws.proofs.words.words_outside_the_table_do_nothing.Goals as goal

pub returns-clause-usage : goal.returns-clause-usage
returns-clause-usage g c = λ words old new status answers one. outside g.F.Files g.L.Link g.C.Clock g.D.Disk g.O.Sink words old new status answers one

pub returns-clause-usage_comes : goal.returns-clause-usage_comes
returns-clause-usage_comes g c = λ words old new status answers none. is_either words (g.O.Sink.text old.sink) (g.O.Sink.text new.sink) (g.O.Sink.faults old.sink) (g.O.Sink.faults new.sink) status (its_answer g.F.Files g.L.Link g.C.Clock g.D.Disk g.O.Sink words old new status answers none)

pub returns-clause-usage_sure : goal.returns-clause-usage_sure
returns-clause-usage_sure g c = λ words old new status answers run none. is_sure words (g.O.Sink.text old.sink) (g.O.Sink.text new.sink) (g.O.Sink.faults old.sink) (g.O.Sink.faults new.sink) status (its_answer g.F.Files g.L.Link g.C.Clock g.D.Disk g.O.Sink words old new status answers none) run

pub returns-clause-usage_line : goal.returns-clause-usage_line
returns-clause-usage_line g c = λ words old new status answers one.
    let none = outside g.F.Files g.L.Link g.C.Clock g.D.Disk g.O.Sink words old new status answers one in
    its_line words (g.O.Sink.text old.sink) (g.O.Sink.text new.sink) (g.O.Sink.faults old.sink) (g.O.Sink.faults new.sink) status (its_answer g.F.Files g.L.Link g.C.Clock g.D.Disk g.O.Sink words old new status answers none) one

pub returns-clause-usage_wanted : goal.returns-clause-usage_wanted
returns-clause-usage_wanted g c = λ words old new status answers none seven. its_want words (g.O.Sink.text old.sink) (g.O.Sink.text new.sink) (g.O.Sink.faults old.sink) (g.O.Sink.faults new.sink) status (its_answer g.F.Files g.L.Link g.C.Clock g.D.Disk g.O.Sink words old new status answers none) seven

pub returns-clause-usage_files : goal.returns-clause-usage_files
returns-clause-usage_files g c = λ words old new status answers none. (answers.outside_the_table none).files

pub returns-clause-usage_disk : goal.returns-clause-usage_disk
returns-clause-usage_disk g c = λ words old new status answers none. (answers.outside_the_table none).disk

pub returns-clause-usage_link : goal.returns-clause-usage_link
returns-clause-usage_link g c = λ words old new status answers none. (answers.outside_the_table none).link

pub returns-clause-usage_clock : goal.returns-clause-usage_clock
returns-clause-usage_clock g c = λ words old new status answers none. (answers.outside_the_table none).clock
