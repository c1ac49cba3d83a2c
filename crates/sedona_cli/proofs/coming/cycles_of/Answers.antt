use Rattle.std.proofs.Common.{◌∙◌, ap}
use Rattle.sed_engine.specs.Code.{Meaning}
use Rattle.sed_cycles.specs.Cycles.{text_after}
use Rattle.sedona_cli.proofs.coming.cycles_of.Goals as goal

pub returns : goal.returns
returns c = c.new.ensures ∙ c.in_ok-cycles_text.ensures ∙ ap (λ (m : Meaning). text_after m c.args.count) c.in_ok-engine.ensures.meaning
