use Rattle.sed_value.specs.declared.value.Value.TheVariants.{Nothing}
use Rattle.sed_engine.specs.declared.call.Root.TheVariants.{Execute}
use Rattle.app_file.proofs.RootCalls.{whole_run}
use Rattle.app_file.proofs.cycles.an_execute_keeps_whole.Goals as goal

pub returns : goal.returns
returns c = λ m a id turns moment code whole. whole_run m code a whole id Execute Nothing turns moment
