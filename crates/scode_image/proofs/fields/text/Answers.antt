use Rattle.std.proofs.Common.{ℕ, List, sym, ◌∙◌, ap}
use Rattle.sed_wire.specs.FormReading.{Stuck}
use Rattle.sed_wire.proofs.LeafLemmas.{text_none}
use Rattle.scode_image.proofs.fields.text.Goals as goal

pub returns-in-Err : goal.returns-in-Err
returns-in-Err c =
    text_none (λ text. text.now) _ _ _ _ c.in-Err.is c.str.ensures.again ∙ ap (λ (rest : List ℕ). Stuck rest) (sym c.in-Err.ensures.stands)
