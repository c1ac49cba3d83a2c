use Rattle.std.proofs.Common.{None}
use Rattle.sed_engine.specs.Program.{meaning_of}
use Rattle.sed_cycles.specs.Cycles.{text_after}
use Rattle.sedona_cli.specs.Steps.{Prints, TextGenerated}
use Rattle.sedona_cli.proofs.Building.{comes_done, comes_refused, comes_wanting}
use Rattle.sedona_cli.proofs.coming.cycles.Goals as goal

pub returns-in-Ok-cycles_of : goal.returns-in-Ok-cycles_of
returns-in-Ok-cycles_of g c =
    comes_done g.F.Files c.args.files.now c.text_program.new.files (TextGenerated c.args.file.now) (λ p. text_after (meaning_of p) c.args.count) c.in-Ok.program c.text_program.result c.in-Ok-cycles_of.text
    c.in-Ok.is c.text_program.ensures.loaded c.in-Ok-cycles_of.ensures

pub returns-in-Err-cycles_of : goal.returns-in-Err-cycles_of
returns-in-Err-cycles_of g c = comes_wanting g.F.Files c.args.files.now c.text_program.new.files None _ c.text_program.ensures.loaded

pub returns-in-Err : goal.returns-in-Err
returns-in-Err g c =
    comes_refused g.F.Files c.args.files.now c.text_program.new.files None (TextGenerated c.args.file.now) (λ p. Prints (text_after (meaning_of p) c.args.count)) c.text_program.result c.in-Err.refusal
    c.in-Err.is c.text_program.ensures.loaded
