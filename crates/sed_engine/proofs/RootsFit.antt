-- What a root call leaves fits.
use Rattle.std.proofs.Common.{◌∙◌}
use Rattle.sed_typed.specs.declared.program.Program.{Program}
use Rattle.sed_engine.specs.Code.{Meaning}
use Rattle.sed_engine.specs.Fits.{form_of}
use Rattle.sed_engine.specs.Program.{code_of}
use Rattle.sed_engine.specs.Root.{root_method, argument_of, most_frames, calls_with}
use Rattle.sed_engine.specs.State.{Shared}
use Rattle.sed_engine.specs.Whole.{RootFits}
use Rattle.sed_engine.proofs.KeepsFit.{Forms, FitsNow, calls_fit}
use Rattle.sed_engine.proofs.RootLaws.{run_keeps, run_fits}
use Rattle.sed_engine.proofs.Within.{calls_keep}

pub roots_fit : (program : Program) → RootFits (code_of program)
roots_fit program q given given_statics =
    let m : Meaning = code_of program in
    let s : Shared = record { contents = q.contents; statics = q.statics; turns = q.turns; moment = q.moment } in
    let forms : Forms = record { contents = form_of m.fields (m.fields q.class); statics = form_of m.fields m.static_fields } in
    let now : FitsNow forms s = record { contents = given.values; statics = given_statics.values } in
    let left = run_fits forms (calls_with program q.class most_frames) (calls_fit forms program q.class most_frames) (root_method program q.class q.which) (argument_of q.argument) s now in
    let stay = run_keeps (calls_with program q.class most_frames) (calls_keep program q.class most_frames) (root_method program q.class q.which) (argument_of q.argument) s in
    (record { paths = stay.0 ∙ given.paths; values = left.contents }, record { paths = stay.1 ∙ given_statics.paths; values = left.statics })
