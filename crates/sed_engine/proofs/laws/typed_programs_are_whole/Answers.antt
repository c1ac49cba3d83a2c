use Rattle.sed_engine.proofs.TypedCodes.{whole_of}
use Rattle.sed_engine.proofs.laws.typed_programs_are_whole.Goals as goal

pub returns : goal.returns
returns c program typed = whole_of program typed
