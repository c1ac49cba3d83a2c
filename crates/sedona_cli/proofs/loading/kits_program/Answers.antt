use Rattle.sed_check.specs.Loading.{KitsLoaded}
use Rattle.sedona_words.specs.Command.{texts}
use Rattle.sedona_cli.proofs.Building.{is_compiled, not_loaded}
use Rattle.sedona_cli.proofs.loading.kits_program.Goals as goal

pub returns-in-Ok : goal.returns-in-Ok
returns-in-Ok g c =
    is_compiled g.F.Files c.args.files.now c.load_kits.new.files (KitsLoaded (texts c.args.names.now)) c.load_kits.result c.in-Ok.program c.compiled.result
    c.in-Ok.is c.load_kits.ensures.loaded c.compiled.ensures.generated

pub returns-in-Err : goal.returns-in-Err
returns-in-Err g c =
    not_loaded g.F.Files c.args.files.now c.load_kits.new.files (KitsLoaded (texts c.args.names.now)) c.load_kits.result c.in-Err.refusal c.of_kits.result
    c.in-Err.is c.of_kits.ensures c.load_kits.ensures.loaded
