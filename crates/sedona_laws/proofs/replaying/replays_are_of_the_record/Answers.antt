use Rattle.sedona_laws.proofs.ReplayRun.{holds_none, replayed_by}
use Rattle.sedona_laws.proofs.replaying.replays_are_of_the_record.Goals as goal

pub returns-clause-replayed : goal.returns-clause-replayed
returns-clause-replayed g c = λ asked file old new status does at.
    replayed_by g.F.Files g.D.Disk (record { slot = c.stores_open_to_one.ensures.slot; payload = c.stores_open_to_one.ensures.payload }) (λ x. g.met.D.Disk.is_disk x)
    old.files new.files old.disk new.disk asked file (g.O.Sink.text old.sink) (g.O.Sink.text new.sink) (g.O.Sink.faults old.sink) (g.O.Sink.faults new.sink) status at does.answered

pub returns-clause-holds_none : goal.returns-clause-holds_none
returns-clause-holds_none g c = λ asked file old new status does five told.
    holds_none g.F.Files g.D.Disk c.bytes_are_read_as_one.ensures (record { slot = c.stores_open_to_one.ensures.slot; payload = c.stores_open_to_one.ensures.payload })
    old.files new.files old.disk new.disk asked file (g.O.Sink.text old.sink) (g.O.Sink.text new.sink) (g.O.Sink.faults old.sink) (g.O.Sink.faults new.sink) status five told does.answered
