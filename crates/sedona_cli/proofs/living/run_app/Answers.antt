use Rattle.std.proofs.Common.{◌≡◌, ℕ, ℤ, true, false, ap, inr, IsErr, FitsSigned, of_z, to_z, w64, refl, rules, subst, sym}
use Rattle.std.specs.Prelude.{IfSome, is_ok}
use Rattle.std.proofs.lemmas.Int.{to_z-of_z}
use Rattle.sed_outside.specs.Clock.{next_moment}
use Rattle.app_save.specs.Saving.{AllStores}
use Rattle.sedona_words.specs.Asked.{asked_run}
use Rattle.sedona_cli.specs.Run.{unbound, unready}
use Rattle.sedona_cli.proofs.LiveSteps.{answers_run, answers_unbound, answers_unready, as_memory, asks_run, so_taken}
use Rattle.sedona_cli.proofs.living.run_app.Goals as goal

pub run_ready-requires : goal.run_ready-requires
run_ready-requires g c = record {
  stores = λ told. subst (λ (n : ℕ). AllStores n (g.D.Disk.meaning c.args.disk.now)) (sym c.in-Ok-node_of.ensures.slot)
      (c.requires.stores told);
}

pub returns-in-Err-clause-answered : goal.returns-in-Err-clause-answered
returns-in-Err-clause-answered g c = λ inputs is_code are_users is_secret.
    answers_unbound g.D.Disk (asked_run c.args.words) inputs _ _ _ _ _ _ c.args.disk.now (c.refuse.ensures.plain refl)

pub returns-in-Err-clause-live : goal.returns-in-Err-clause-live
returns-in-Err-clause-live g c =
    unbound ((c.refuse.ensures.plain refl).0) c.bind.ensures.bound
    (so_taken (g.L.Link.bound c.bind.new.self) c.bind.result false (ap is_ok c.in-Err.is) c.bind.ensures.taken) (c.bind.ensures.cause.failed (subst (λ r. IsErr r) (sym c.in-Err.is) refl)) c.bind.ensures.polls c.bind.ensures.polled c.bind.ensures.offered refl

pub returns-in-Ok-node_of-clause-answered : goal.returns-in-Ok-node_of-clause-answered
returns-in-Ok-node_of-clause-answered g c = λ inputs is_code are_users is_secret.
    answers_run g.D.Disk g.L.Link g.C.Clock (asked_run c.args.words) _ _ c.args.parts.users c.args.parts.secret _ _ _ _ _ _ c.args.link.now c.bind.new.self c.run_ready.new.link c.args.clock.now c.now-moment.new.self c.run_ready.new.clock c.args.disk.now c.run_ready.new.disk
    (c.run_ready.ensures.ran _ _ _ _ _ _ c.in-Ok-node_of.ensures.ready) inputs is_code are_users is_secret

pub returns-in-Ok-node_of-clause-live : goal.returns-in-Ok-node_of-clause-live
returns-in-Ok-node_of-clause-live g c =
    let fits : FitsSigned w64 c.now-moment.result = search rules in
    let moment = to_z w64 (of_z w64 c.now-moment.result) in
    let moment_is : moment ≡ c.now-moment.result = to_z-of_z w64 c.now-moment.result fits in
    asks_run g.D.Disk g.L.Link g.C.Clock (asked_run c.args.words) moment _ c.args.parts.users c.args.parts.secret _ _ _ _ _ _ c.args.link.now c.bind.new.self c.run_ready.new.link c.args.clock.now c.now-moment.new.self c.run_ready.new.clock c.args.disk.now
    c.run_ready.new.disk (c.run_ready.ensures.ran _ _ _ _ _ _ c.in-Ok-node_of.ensures.ready) c.bind.ensures.bound
    (so_taken (g.L.Link.bound c.bind.new.self) c.bind.result true (ap is_ok c.in-Ok.is) c.bind.ensures.taken) c.bind.ensures.polls c.bind.ensures.polled c.bind.ensures.offered
    (subst (λ (t : ℤ). IfSome (g.C.Clock.moments c.args.clock.now) (λ to_come. t ≡ next_moment to_come)) (sym moment_is) c.now-moment.ensures.told) c.now-moment.ensures.later c.now-moment.ensures.given c.now-moment.ensures.asked c.run_ready.ensures.bound c.run_ready.ensures.sleeps c.run_ready.ensures.left

pub returns-in-Err-node_of-clause-answered : goal.returns-in-Err-node_of-clause-answered
returns-in-Err-node_of-clause-answered g c = λ inputs is_code are_users is_secret.
    answers_unready g.D.Disk (asked_run c.args.words) inputs _ _ _ _ _ _ c.args.disk.now (as_memory _ _ _ _ _ c.in-Err-node_of.refusal c.in-Err-node_of.ensures.refused c.refuse-in-Err-node_of.ensures.plain)

pub returns-in-Err-node_of-clause-live : goal.returns-in-Err-node_of-clause-live
returns-in-Err-node_of-clause-live g c =
    unready ((as_memory _ _ _ _ _ c.in-Err-node_of.refusal c.in-Err-node_of.ensures.refused c.refuse-in-Err-node_of.ensures.plain).0) c.bind.ensures.bound
    (so_taken (g.L.Link.bound c.bind.new.self) c.bind.result true (ap is_ok c.in-Ok.is) c.bind.ensures.taken) (record { polls = c.bind.ensures.polls; polled = c.bind.ensures.polled; offered = c.bind.ensures.offered; asked = c.now-moment.ensures.asked; moments = inr (c.now-moment.ensures.later, c.now-moment.ensures.given) })
