use Rattle.std.proofs.Common.{OnOk, [], ◌∷◌, refl, subst, ◌∙◌}
use Rattle.replay_log.specs.declared.session.Session.{Session}
use Rattle.replay_log.specs.Generated.{folder_add}
use Rattle.replay_log.specs.Making.{Does}
use Rattle.replay_log.specs.Step.{asks}
use Rattle.replay_log.proofs.steps.add_folder.Goals as goal

pub returns-clause-does : goal.returns-clause-does
returns-clause-does c =
    let asked = folder_add c.args.i in
    subst (λ (w : Session). OnOk c.ask.result (Does (asks w asked ∷ []) c.args.making.now c.ask.new.self))
    c.in_turn.ensures (c.ask.ensures.does asked refl (c.deref.ensures.value ∙ c.in_ok-body.ensures.is))
