use Rattle.sed_engine.proofs.Asking.{may_from, may_then}
use Rattle.sed_engine.proofs.laws.what_may_be_asked.Goals as goal

pub returns : goal.returns
returns c m q = (may_from m q, may_then m q)
