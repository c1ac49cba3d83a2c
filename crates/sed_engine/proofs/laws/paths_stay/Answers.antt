use Rattle.sed_engine.specs.Root.{root_method, argument_of, most_frames, calls_with}
use Rattle.sed_engine.proofs.Within.{calls_keep}
use Rattle.sed_engine.proofs.RootLaws.{run_keeps}
use Rattle.sed_engine.proofs.laws.paths_stay.Goals as goal

pub returns : goal.returns
returns c = record {
  contents = λ program class contents statics which argument turns moment.
      (run_keeps (calls_with program class most_frames) (calls_keep program class most_frames) (root_method program class which) (argument_of argument)
      (record { contents = contents; statics = statics; turns = turns; moment = moment })).0;
  statics = λ program class contents statics which argument turns moment.
      (run_keeps (calls_with program class most_frames) (calls_keep program class most_frames) (root_method program class which) (argument_of argument)
      (record { contents = contents; statics = statics; turns = turns; moment = moment })).1;
}
