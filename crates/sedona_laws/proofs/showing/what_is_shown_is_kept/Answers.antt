use Rattle.sedona_laws.proofs.ShownBy.{opens_to_none, shows_kept}
use Rattle.sedona_laws.proofs.showing.what_is_shown_is_kept.Goals as goal

pub returns-clause-shown : goal.returns-clause-shown
returns-clause-shown g c = λ names store limit old new status does at.
    shows_kept g.F.Files g.D.Disk old.files new.files old.disk new.disk names store limit (g.O.Sink.text old.sink) (g.O.Sink.text new.sink) (g.O.Sink.faults old.sink) (g.O.Sink.faults new.sink) status at does.answered

pub returns-clause-opens_to_none : goal.returns-clause-opens_to_none
returns-clause-opens_to_none g c = λ names store limit old new status does five told.
    opens_to_none g.F.Files g.D.Disk c.bytes_are_read_as_one.ensures (record { slot = c.stores_open_to_one.ensures.slot; payload = c.stores_open_to_one.ensures.payload })
    old.files new.files old.disk new.disk names store limit (g.O.Sink.text old.sink) (g.O.Sink.text new.sink) (g.O.Sink.faults old.sink) (g.O.Sink.faults new.sink) status five told does.answered
