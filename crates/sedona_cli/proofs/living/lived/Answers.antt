use Rattle.std.proofs.Common.{ap, refl}
use Rattle.sedona_words.specs.Asked.{asked_node, asked_run}
use Rattle.sedona_words.specs.Command.{Run}
use Rattle.sedona_cli.specs.Given.{ended_as, given_of}
use Rattle.sedona_cli.specs.Run.{unasked}
use Rattle.sedona_cli.proofs.LiveSteps.{asks_so, inputs_unlinked, live_goes, live_unread, not_linked, ran_by_files}
use Rattle.sedona_cli.proofs.living.lived.Goals as goal

pub returns-in-Ok-clause-answered : goal.returns-in-Ok-clause-answered
returns-in-Ok-clause-answered g c =
    live_goes g.F.Files g.D.Disk c.args.files.now c.node_inputs.new.files c.args.disk.now c.run_from.new.disk (asked_node c.args.words.node) (ended_as given_of c.node_inputs.result) (given_of c.in-Ok.inputs) _
    (ap (ended_as given_of) c.in-Ok.is)
    c.node_inputs.ensures (λ reads read. c.run_from.ensures.answered reads read)

pub returns-in-Ok-clause-live : goal.returns-in-Ok-clause-live
returns-in-Ok-clause-live g c =
    asks_so g.L.Link g.C.Clock c.args.words.port _ c.args.link.now c.run_from.new.link c.args.clock.now c.run_from.new.clock _ _
    (λ at kept. ran_by_files g.F.Files g.D.Disk g.L.Link g.C.Clock (asked_run c.args.words) c.args.files.now c.node_inputs.new.files (ended_as given_of c.node_inputs.result) (given_of c.in-Ok.inputs) (ap (ended_as given_of) c.in-Ok.is) c.node_inputs.ensures
    c.args.link.now c.run_from.new.link c.args.clock.now c.run_from.new.clock c.args.disk.now c.run_from.new.disk _ _ _ kept)
    c.run_from.ensures.live

pub returns-in-Err-clause-answered : goal.returns-in-Err-clause-answered
returns-in-Err-clause-answered g c =
    live_unread g.F.Files g.D.Disk c.args.files.now c.node_inputs.new.files c.args.disk.now (asked_run c.args.words) (ended_as given_of c.node_inputs.result) c.in-Err.refusal _
    (ap (ended_as given_of) c.in-Err.is)
    c.node_inputs.ensures (λ asks came. c.refuse.ensures.answered (Run (asked_run c.args.words)) asks came)

pub returns-in-Err-clause-live : goal.returns-in-Err-clause-live
returns-in-Err-clause-live g c =
    unasked (not_linked _ c.in-Err.refusal c.refuse.ensures.undone c.refuse.ensures.numbered
    (inputs_unlinked g.F.Files c.args.files.now c.node_inputs.new.files (asked_node c.args.words.node) (ended_as given_of c.node_inputs.result) c.in-Err.refusal (ap (ended_as given_of) c.in-Err.is) c.node_inputs.ensures)) refl refl
