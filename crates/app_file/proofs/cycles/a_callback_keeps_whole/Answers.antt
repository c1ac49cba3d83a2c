use Rattle.sed_engine.specs.declared.call.Root.TheVariants.{Callback}
use Rattle.comp_tree.specs.Calls.{callback_argument}
use Rattle.app_file.proofs.RootCalls.{whole_run}
use Rattle.app_file.proofs.cycles.a_callback_keeps_whole.Goals as goal

pub returns : goal.returns
returns c = λ m a which id slot turns moment code whole.
    whole_run m code a whole id (Callback which) (callback_argument which slot) turns moment
