use Rattle.sed_check.specs.Loading.{TextLoaded}
use Rattle.sedona_cli.proofs.Building.{is_compiled, not_loaded}
use Rattle.sedona_cli.proofs.loading.text_program.Goals as goal

pub returns-in-Ok-clause-loaded : goal.returns-in-Ok-clause-loaded
returns-in-Ok-clause-loaded g c =
    is_compiled g.F.Files c.args.files.now c.load_text.new.files (TextLoaded c.args.name.now) c.load_text.result c.in-Ok.program c.compiled.result
    c.in-Ok.is c.load_text.ensures.loaded c.compiled.ensures.generated

pub returns-in-Err-clause-loaded : goal.returns-in-Err-clause-loaded
returns-in-Err-clause-loaded g c =
    not_loaded g.F.Files c.args.files.now c.load_text.new.files (TextLoaded c.args.name.now) c.load_text.result c.in-Err.refusal c.of_kits.result
    c.in-Err.is c.of_kits.ensures c.load_text.ensures.loaded
