use Rattle.app_reader.proofs.Comparing.{AgreesTo}
use Rattle.app_reader.proofs.pairs.agrees_from.Given as goal

abbrev pub invariant-loop-other : goal.invariant-loop-other
invariant-loop-other g l = AgreesTo (g.E.Engine.meaning l.engine) l.kind.0 l.numbers l.values l.first l.other
