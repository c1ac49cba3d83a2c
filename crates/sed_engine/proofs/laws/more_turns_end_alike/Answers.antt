use Rattle.std.proofs.Common.{ℕ, ◌+◌, ℤ}
use Rattle.sed_value.specs.declared.value.Value.{Value}
use Rattle.sed_typed.specs.declared.program.Program.{Program}
use Rattle.sed_typed.specs.Contents.{Contents}
use Rattle.sed_engine.specs.declared.call.Root.{Root}
use Rattle.sed_engine.specs.Root.{root, root_method, argument_of, most_frames, calls_with}
use Rattle.sed_engine.specs.Turns.{IsDone}
use Rattle.sed_engine.proofs.MoreTurns.{calls_same}
use Rattle.sed_engine.proofs.RootLaws.{EndsAlike, run_alike}
use Rattle.sed_engine.proofs.laws.more_turns_end_alike.Goals as goal

alike : (program : Program) (class : ℕ) (contents statics : Contents) (which : Root) (argument : Value) (turns more : ℕ) (moment : ℤ) →
    IsDone (root program class contents statics which argument turns moment).end →
    EndsAlike more (root program class contents statics which argument turns moment) (root program class contents statics which argument (turns + more) moment)
alike program class contents statics which argument turns more moment d =
    run_alike more (calls_with program class most_frames) (calls_same more program class most_frames) (root_method program class which) (argument_of argument)
    (record { contents = contents; statics = statics; turns = turns; moment = moment }) d

pub returns : goal.returns
returns c = record {
  contents = λ program class contents statics which argument turns more moment d. (alike program class contents statics which argument turns more moment d).contents;
  statics = λ program class contents statics which argument turns more moment d. (alike program class contents statics which argument turns more moment d).statics;
  left = λ program class contents statics which argument turns more moment d. (alike program class contents statics which argument turns more moment d).left;
}
