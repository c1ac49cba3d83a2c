use Rattle.sed_bodies.proofs.ExpressionsRight.{judge_right}
use Rattle.sed_bodies.proofs.laws.judged_expressions_are_typed.Goals as goal

pub returns : goal.returns
returns c x n b s i t = judge_right x n b s i t
