use Rattle.sed_engine.specs.Program.{code_of}
use Rattle.scode_made.proofs.RootMethods.{method_run}
use Rattle.scode_made.proofs.laws.roots_run_the_same_methods.Goals as goal

pub returns : goal.returns
returns c program q typed may =
    let laid = c.typed_programs_are_laid.ensures.laid program typed in
    method_run program typed laid.few_classes (c.typed_programs_are_laid.ensures.tabled program typed)
    (c.system_methods_have_the_first_places.ensures program typed) q
    ((c.what_may_be_asked.ensures (code_of program) q).0 may)
