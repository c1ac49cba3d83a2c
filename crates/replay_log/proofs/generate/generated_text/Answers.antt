use Rattle.std.proofs.Common.{ℕ, List, refl, subst}
use Rattle.replay_log.specs.Generated.{greetings}
use Rattle.replay_log.specs.Making.{PutsSteps}
use Rattle.replay_log.proofs.GeneratedLemmas.{whole}
use Rattle.replay_log.proofs.generate.generated_text.Goals as goal

pub returns : goal.returns
returns c =
    whole c.args.spec.now _ _ _
    (subst (λ (o : List ℕ). PutsSteps (greetings c.args.spec.now) o c.put_greetings.new.text.items)
    c.new-text.ensures.items c.in_ok-put_greetings.ensures)
    refl c.in_ok-do_acts.ensures c.in_ok-push.ensures.items
