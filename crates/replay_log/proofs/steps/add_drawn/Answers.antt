use Rattle.std.proofs.Common.{ℕ, List, ◌+◌, ◌*◌, ◌/◌, OnOk, [], ◌∷◌, refl, subst, ◌∙◌, ap}
use Rattle.sox_msg.specs.Command.{add, body_of}
use Rattle.replay_log.specs.declared.session.Session.{Session}
use Rattle.replay_log.specs.Generated.{added, named}
use Rattle.replay_log.specs.Making.{Does}
use Rattle.replay_log.specs.Step.{asks}
use Rattle.replay_log.proofs.steps.add_drawn.Goals as goal

pub returns-clause-does : goal.returns-clause-does
returns-clause-does c =
    let kind = c.args.kind.now in
    let folder : ℕ = c.args.i / 100 * 100 + 1 in
    let name : List ℕ = named 99 c.args.i in
    let asked = added kind folder name in
    subst (λ (w : Session). OnOk c.ask.result (Does (asks w asked ∷ []) c.args.making.now c.ask.new.self))
    c.in_turn.ensures
    (c.ask.ensures.does asked refl
    (c.deref.ensures.value ∙ c.in_ok-body.ensures.is
    ∙ ap (λ (t : List ℕ). body_of (add folder kind.kit kind.number name t)) c.as_slice-config.ensures))
