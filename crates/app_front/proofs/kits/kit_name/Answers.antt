use Rattle.std.proofs.Common.{List, ℕ, sym, ◌∙◌, ap}
use Rattle.sed_value.specs.Names.{is_kit_name}
use Rattle.sed_wire.specs.FormReading.{Stuck}
use Rattle.app_front.specs.Form.{kit_name}
use Rattle.app_front.proofs.Names.{name_found, name_none, name_wrong}
use Rattle.app_front.proofs.kits.kit_name.Goals as goal

pub returns-in-Some : goal.returns-in-Some
unfolding kit_name
returns-in-Some c = name_found is_kit_name _ _ _ _ c.in-Ok.ensures.found (sym c.read.ensures ∙ c.in-Some.is)

pub returns-in-None : goal.returns-in-None
unfolding kit_name
returns-in-None c =
    name_wrong is_kit_name _ _ _ c.in-Ok.ensures.found (sym c.read.ensures ∙ c.in-None.is)
    ∙ ap (λ (rest : List ℕ). Stuck rest) (sym (c.new.ensures ∙ c.rest-start.ensures))

pub returns-in-Err : goal.returns-in-Err
unfolding kit_name
returns-in-Err c =
    name_none is_kit_name (λ text. text.now) _ _ _ _ c.in-Err.is c.str.ensures.again ∙ ap (λ (rest : List ℕ). Stuck rest) (sym c.in-Err.ensures.stands)
