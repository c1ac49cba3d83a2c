use Rattle.std.proofs.Common.{List, ℕ, sym, ◌∙◌, ap}
use Rattle.sed_wire.specs.FormReading.{Stuck}
use Rattle.app_front.proofs.ValueRows.{value_none, value_read}
use Rattle.app_front.proofs.values.value.Goals as goal

pub returns-in-Ok : goal.returns-in-Ok
returns-in-Ok c = value_read _ _ _ _ c.in-Ok.ensures.found

pub returns-in-Err : goal.returns-in-Err
returns-in-Err c =
    value_none _ c.in-Err.field-0 _ c.value.new.self c.in-Err.ensures.again
    ∙ ap (λ (rest : List ℕ). Stuck rest) (sym (c.new.ensures ∙ c.rest-start.ensures))
