use Rattle.std.proofs.Common.{subst, sym}
use Rattle.std.specs.Prelude.{IfOk}
use Rattle.app_save.specs.Saving.{AllStores}
use Rattle.input_files.specs.Inputs.{HasEntries}
use Rattle.scode_code.specs.Image.{meaning_of}
use Rattle.sed_node.specs.Standing.{setup_of}
use Rattle.sedona_words.specs.Asked.{asked_node}
use Rattle.sedona_words.specs.Command.{Replay}
use Rattle.sedona_cli.specs.Given.{given_record}
use Rattle.sedona_cli.specs.Nodes.{IsReady}
use Rattle.sedona_cli.proofs.ReplaySteps.{refusal_answers, run_answers}
use Rattle.sedona_cli.proofs.replaying.replayed_from.Goals as goal

pub play-requires-clause-stores : goal.play-requires-clause-stores
play-requires-clause-stores g c = λ told. subst (λ r. IfOk r (λ ready. AllStores (setup_of ready).slot (g.D.Disk.meaning c.ready.new.disk))) c.in-Ok.is (c.ready.ensures.stores told)

pub play-requires-clause-entries : goal.play-requires-clause-entries
play-requires-clause-entries g c = subst HasEntries (sym c.as_slice.ensures) c.requires.entries

pub returns-in-Ok : goal.returns-in-Ok
returns-in-Ok g c = λ file reads read.
    run_answers g.D.Disk c.args.disk.now c.ready.new.disk c.play.new.disk (asked_node c.args.words) (given_record c.args.inputs) file reads _ _ _ _ _
    (λ a. IsReady _ _ c.args.words.turns (meaning_of c.args.inputs.code) c.args.inputs.users c.args.inputs.secret a c.in-Ok.node) read c.in-Ok.ensures.opened
    (λ a is. c.play.ensures (asked_node c.args.words) (given_record c.args.inputs) a (sym c.as_slice.ensures) is)

pub returns : goal.returns
returns g c = λ file reads read.
    refusal_answers g.D.Disk c.args.disk.now c.ready.new.disk (asked_node c.args.words) (given_record c.args.inputs) file reads _ _ _ _ _ c.in-Err.refusal read
    (λ asks came. c.refuse.ensures.answered (Replay (asked_node c.args.words) file) asks came) c.in-Err.ensures.refused
