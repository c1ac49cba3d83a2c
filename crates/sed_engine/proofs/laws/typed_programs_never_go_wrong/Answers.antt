use Rattle.sed_engine.proofs.TypedRoots.{roots_end}
use Rattle.sed_engine.proofs.laws.typed_programs_never_go_wrong.Goals as goal

pub returns : goal.returns
returns c program typed = roots_end program typed
