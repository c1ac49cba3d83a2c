use Rattle.std.proofs.Common.{refl}
use Rattle.replay_log.proofs.GeneratedLemmas.{puts-greetings}
use Rattle.replay_log.proofs.generate.put_greetings.Goals as goal

pub returns : goal.returns
returns c =
    puts-greetings c.args.spec.now _ _ _ _ _ _ _ c.in_ok-greet.ensures c.in_ok-greet-2.ensures c.as_slice.ensures
    c.as_slice-2.ensures refl refl
