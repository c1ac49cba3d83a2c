use Rattle.sed_engine.specs.Program as source
use Rattle.scode_code.specs.Image as made
use Rattle.sedona_words.specs.Command.{names_within}
use Rattle.sedona_cli.specs.Steps.{AfterKits}
use Rattle.sedona_cli.proofs.ReplaySteps.{code_meant, code_unmeant}
use Rattle.sedona_cli.proofs.inputs.kits_code.Goals as goal

pub returns-in-Ok : goal.returns-in-Ok
returns-in-Ok g c =
    code_meant g.F.Files c.args.files.now c.node_program.new.files (AfterKits (names_within c.args.kits.now)) source.meaning_of c.node_program.result c.in-Ok.program
    (made.meaning_of c.into_verified.result) c.in-Ok.is c.into_verified.ensures.means c.node_program.ensures

pub returns-in-Err : goal.returns-in-Err
returns-in-Err g c =
    code_unmeant g.F.Files c.args.files.now c.node_program.new.files (AfterKits (names_within c.args.kits.now)) source.meaning_of c.node_program.result c.in-Err.refusal c.in-Err.is c.node_program.ensures
