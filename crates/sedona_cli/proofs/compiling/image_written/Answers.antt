use Rattle.std.proofs.Common.{ℕ, List, subst, sym}
use Rattle.scode_compile.specs.Compiled.{IsImageOf}
use Rattle.sedona_words.specs.Command.{texts}
use Rattle.sedona_cli.proofs.CompileSteps.{compile_leaves, compile_refused, compile_wanted, compile_written}
use Rattle.sedona_cli.proofs.compiling.image_written.Goals as goal

pub returns-in-Err-clause-asks : goal.returns-in-Err-clause-asks
returns-in-Err-clause-asks g c =
    compile_refused g.F.Files c.args.files.now c.kits_program.new.files c.args.out.now (texts c.args.names.now) c.kits_program.result c.kits_program.ensures c.in-Err.refusal c.in-Err.is

pub returns-in-Ok-image_text-clause-asks : goal.returns-in-Ok-image_text-clause-asks
returns-in-Ok-image_text-clause-asks g c =
    compile_written g.F.Files c.args.files.now c.kits_program.new.files c.args.out.now (texts c.args.names.now) c.kits_program.result c.kits_program.ensures c.write_output.new.files c.in-Ok.program c.as_slice.result.now c.write_output.result
    c.in-Ok.is (subst (λ (b : List ℕ). IsImageOf c.in-Ok.program b) (sym c.as_slice.ensures) c.in-Ok-image_text.ensures) c.write_output.ensures.asks

pub returns-in-Ok-image_text-clause-leaves : goal.returns-in-Ok-image_text-clause-leaves
returns-in-Ok-image_text-clause-leaves g c =
    compile_leaves g.F.Files c.args.files.now c.kits_program.new.files c.args.out.now (texts c.args.names.now) c.kits_program.result c.kits_program.ensures c.write_output.new.files c.in-Ok.program c.as_slice.result.now c.write_output.result
    c.in-Ok.is (subst (λ (b : List ℕ). IsImageOf c.in-Ok.program b) (sym c.as_slice.ensures) c.in-Ok-image_text.ensures) c.write_output.ensures.written

pub returns-in-Err-image_text-clause-asks : goal.returns-in-Err-image_text-clause-asks
returns-in-Err-image_text-clause-asks g c =
    compile_wanted g.F.Files c.args.files.now c.kits_program.new.files c.args.out.now (texts c.args.names.now) c.kits_program.result c.kits_program.ensures
