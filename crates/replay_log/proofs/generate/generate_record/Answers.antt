use Rattle.std.proofs.Common.{ℕ, List, ◌++◌, ◌∙◌, ap}
use Rattle.replay_log.proofs.generate.generate_record.Goals as goal

pub returns-clause-ok : goal.returns-clause-ok
returns-clause-ok c = record {
  bytes = c.in_ok-text.text.items;
  generated = c.in_ok-text.ensures;
  behind = c.in_ok-extend_from_slice.ensures.items
      ∙ ap (λ (t : List ℕ). c.args.into.now.items ++ t) c.deref.ensures.value;
}
