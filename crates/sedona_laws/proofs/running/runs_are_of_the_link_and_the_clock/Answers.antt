use Rattle.sedona_laws.proofs.LiveRun.{done_live, runs_none}
use Rattle.sedona_laws.proofs.running.runs_are_of_the_link_and_the_clock.Goals as goal

pub returns-clause-ran : goal.returns-clause-ran
returns-clause-ran g c = λ asked old new status does at. done_live g.L.Link g.C.Clock asked.port status old.link new.link old.clock new.clock _ does.live at

pub returns-clause-runs_none : goal.returns-clause-runs_none
returns-clause-runs_none g c = λ asked old new status does five told.
    runs_none g.F.Files g.D.Disk c.bytes_are_read_as_one.ensures (record { slot = c.stores_open_to_one.ensures.slot; payload = c.stores_open_to_one.ensures.payload })
    old.files new.files old.disk new.disk asked (g.O.Sink.text old.sink) (g.O.Sink.text new.sink) (g.O.Sink.faults old.sink) (g.O.Sink.faults new.sink) status five told does.answered
