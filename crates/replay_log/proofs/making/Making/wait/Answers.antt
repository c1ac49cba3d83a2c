use Rattle.std.proofs.Common.{refl}
use Rattle.std.proofs.lemmas.Int.{to_z_pos}
use Rattle.std.specs.Int.{w64}
use Rattle.replay_log.proofs.MakingLemmas.{puts-tick}
use Rattle.replay_log.proofs.making.Making.wait.Goals as goal

pub returns-clause-does : goal.returns-clause-does
returns-clause-does c = record {
  puts = puts-tick c.args.moment _ _ _ (to_z_pos w64 c.args.moment c.requires) c.in_ok-put_tick.ensures;
  counted = refl;
}
