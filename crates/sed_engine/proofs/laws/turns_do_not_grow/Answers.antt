use Rattle.std.proofs.Common.{subst}
use Rattle.sed_engine.specs.declared.call.CallEnd.{CallEnd}
use Rattle.sed_engine.specs.Root.{root_method, argument_of, most_frames, calls_with}
use Rattle.sed_engine.proofs.Within.{calls_keep}
use Rattle.sed_engine.proofs.RootLaws.{LeavesAtMost, run_leaves}
use Rattle.sed_engine.proofs.laws.turns_do_not_grow.Goals as goal

pub returns : goal.returns
returns c program class contents statics which argument turns moment left is =
    subst (λ (e : CallEnd). LeavesAtMost e turns) is
    (run_leaves (calls_with program class most_frames) (calls_keep program class most_frames) (root_method program class which) (argument_of argument)
    (record { contents = contents; statics = statics; turns = turns; moment = moment }))
