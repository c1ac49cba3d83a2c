use Rattle.std.proofs.Common.{None}
use Rattle.sedona_words.specs.Command.{texts}
use Rattle.sedona_cli.specs.Steps.{KitsGenerated, Prints, done_text}
use Rattle.sedona_cli.proofs.Building.{comes_done, comes_refused, comes_wanting}
use Rattle.sedona_cli.proofs.coming.check.Goals as goal

pub returns-in-Ok-done_text : goal.returns-in-Ok-done_text
returns-in-Ok-done_text g c =
    comes_done g.F.Files c.args.files.now c.kits_program.new.files (KitsGenerated (texts c.args.names.now)) (λ p. done_text) c.in-Ok.program c.kits_program.result c.in-Ok-done_text.text
    c.in-Ok.is c.kits_program.ensures c.in-Ok-done_text.ensures

pub returns-in-Err-done_text : goal.returns-in-Err-done_text
returns-in-Err-done_text g c = comes_wanting g.F.Files c.args.files.now c.kits_program.new.files None _ c.kits_program.ensures

pub returns-in-Err : goal.returns-in-Err
returns-in-Err g c =
    comes_refused g.F.Files c.args.files.now c.kits_program.new.files None (KitsGenerated (texts c.args.names.now)) (λ p. Prints done_text) c.kits_program.result c.in-Err.refusal
    c.in-Err.is c.kits_program.ensures
