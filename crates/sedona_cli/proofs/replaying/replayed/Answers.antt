use Rattle.std.proofs.Common.{ap}
use Rattle.sedona_words.specs.Asked.{asked_node}
use Rattle.sedona_words.specs.Command.{Replay}
use Rattle.sedona_cli.specs.Given.{ended_as, given_record}
use Rattle.sedona_cli.proofs.ReplaySteps.{replay_goes, replay_refused}
use Rattle.sedona_cli.proofs.replaying.replayed.Goals as goal

pub returns-in-Ok : goal.returns-in-Ok
returns-in-Ok g c =
    replay_goes g.F.Files g.D.Disk c.args.files.now c.read_inputs.new.files c.args.disk.now c.replayed_from.new.disk (asked_node c.args.words) c.args.file.now (ended_as given_record c.read_inputs.result) (given_record c.in-Ok.inputs) _
    (ap (ended_as given_record) c.in-Ok.is)
    c.read_inputs.ensures.read (λ reads read. c.replayed_from.ensures c.args.file.now reads read)

pub returns-in-Err : goal.returns-in-Err
returns-in-Err g c =
    replay_refused g.F.Files g.D.Disk c.args.files.now c.read_inputs.new.files c.args.disk.now (asked_node c.args.words) c.args.file.now (ended_as given_record c.read_inputs.result) c.in-Err.refusal _
    (ap (ended_as given_record) c.in-Err.is)
    c.read_inputs.ensures.read (λ asks came. c.refuse.ensures.answered (Replay (asked_node c.args.words) c.args.file.now) asks came)
