use Rattle.tiny_engine.proofs.TinyLemmas.{emptied}
use Rattle.tiny_engine.proofs.tiny.TinyEngine.remove.Goals as goal

pub returns-clause-removed : goal.returns-clause-removed
returns-clause-removed c = emptied c.args.self.now.one c.args._p.0 c.requires
