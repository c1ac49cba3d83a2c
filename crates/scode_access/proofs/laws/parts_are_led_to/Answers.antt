use Rattle.scode_access.proofs.Finding.{object_led, str_led}
use Rattle.scode_access.proofs.Sizes.{strs_sized}
use Rattle.scode_access.proofs.laws.parts_are_led_to.Goals as goal

pub returns-clause-objects : goal.returns-clause-objects
returns-clause-objects c = object_led c.cells_lead_to_parts.ensures.object_found

pub returns-clause-strs : goal.returns-clause-strs
returns-clause-strs c = λ w place h b at size spot ground s.
    let long = strs_sized w.image ground.agree w.class spot.base spot.path at size s.stands.part in
    (long.0, long.1, str_led c.cells_lead_to_parts.ensures.str_found w place h b at size spot ground s)
