use Rattle.app_reader.proofs.Comparing.{EachAgrees}
use Rattle.app_reader.proofs.pairs.agree.Given as goal

abbrev pub invariant-loop-first : goal.invariant-loop-first
invariant-loop-first g l = EachAgrees (g.E.Engine.meaning l.engine) l.kind.0 l.numbers l.values l.first
