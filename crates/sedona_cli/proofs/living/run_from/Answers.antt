use Rattle.sedona_words.specs.Asked.{asked_run}
use Rattle.sedona_words.specs.Command.{Run}
use Rattle.scode_code.specs.Image.{meaning_of}
use Rattle.sedona_cli.specs.Given.{given_of}
use Rattle.sedona_cli.specs.Run.{unasked}
use Rattle.sedona_cli.proofs.LiveSteps.{asks_so, live_answers, live_refused, not_linked, open_unlinked, runs_kept}
use Rattle.std.proofs.Common.{refl, subst}
use Rattle.std.specs.Prelude.{IfOk}
use Rattle.app_save.specs.Saving.{AllStores}
use Rattle.sedona_cli.proofs.living.run_from.Goals as goal

pub run_app-requires-clause-stores : goal.run_app-requires-clause-stores
run_app-requires-clause-stores g c = λ told. subst (λ r. IfOk r (λ held. AllStores held.0 (g.D.Disk.meaning c.open_app.new.disk))) c.in-Ok.is (c.open_app.ensures.stores told)

pub returns-in-Ok-clause-answered : goal.returns-in-Ok-clause-answered
returns-in-Ok-clause-answered g c = λ reads read.
    live_answers g.D.Disk c.args.disk.now c.open_app.new.disk c.run_app.new.disk (asked_run c.args.words) (given_of c.args.inputs) _ reads _ _ _ _ _ read c.in-Ok.ensures.opened
    (c.run_app.ensures.answered (given_of c.args.inputs) c.in-Ok.ensures.meaning refl refl)

pub returns-in-Ok-clause-live : goal.returns-in-Ok-clause-live
returns-in-Ok-clause-live g c =
    asks_so g.L.Link g.C.Clock c.args.words.port _ c.args.link.now c.run_app.new.link c.args.clock.now c.run_app.new.clock _ _
    (λ at on. runs_kept (record { slot = c.stores_open_to_one.ensures.slot; payload = c.stores_open_to_one.ensures.payload }) g.D.Disk (λ x. g.met.D.Disk.is_disk x) g.L.Link g.C.Clock (asked_run c.args.words) (given_of c.args.inputs) _ _ _ _ _
    c.args.link.now c.run_app.new.link c.args.clock.now c.run_app.new.clock c.args.disk.now c.open_app.new.disk c.run_app.new.disk c.in-Ok.ensures.meaning c.in-Ok.ensures.opened on)
    c.run_app.ensures.live

pub returns-in-Err-clause-answered : goal.returns-in-Err-clause-answered
returns-in-Err-clause-answered g c = λ reads read.
    live_refused g.D.Disk c.args.disk.now c.open_app.new.disk (asked_run c.args.words) (given_of c.args.inputs) reads _ _ _ _ _ c.in-Err.refusal read
    (λ asks came. c.refuse.ensures.answered (Run (asked_run c.args.words)) asks came) c.in-Err.ensures.refused

pub returns-in-Err-clause-live : goal.returns-in-Err-clause-live
returns-in-Err-clause-live g c =
    unasked (not_linked _ c.in-Err.refusal c.refuse.ensures.undone c.refuse.ensures.numbered
    (open_unlinked c.args.words.node.store.now c.args.words.node.limit (meaning_of c.args.inputs.code) c.in-Err.ensures.refused.asks c.in-Err.refusal c.in-Err.ensures.refused.holds)) refl refl
