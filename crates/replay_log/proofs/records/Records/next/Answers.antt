use Rattle.std.proofs.Common.{◌≡◌, ◌∷◌, refl, sym, ◌∙◌}
use Rattle.replay_log.specs.Reading.{entries_of}
use Rattle.replay_log.specs.View.{entry_of}
use Rattle.replay_log.proofs.RecordLemmas.{left_after, none_left}
use Rattle.replay_log.proofs.records.Records.next.Goals as goal

pub returns-in-Some-clause-given : goal.returns-in-Some-clause-given
returns-in-Some-clause-given c = sym c.self.view_is ∙ left_after _ _ _ (sym c.in-Some.ensures)

pub returns-in-Some-clause-none : goal.returns-in-Some-clause-none
returns-in-Some-clause-none c =
    let given : c.args.self.now ≡ entry_of c.in-Some.event ∷ entries_of c.in-Some.rest.now =
    sym c.self.view_is ∙ left_after _ _ _ (sym c.in-Some.ensures) in
    ((λ e. absurd cc), (λ e. absurd cc))

pub returns-in-None-clause-none : goal.returns-in-None-clause-none
returns-in-None-clause-none c = (
  (λ e. sym c.self.view_is ∙ none_left _ (sym c.in-None.ensures)),
  (λ e. refl),
)
