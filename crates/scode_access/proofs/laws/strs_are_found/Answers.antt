use Rattle.scode_access.proofs.Finding.{object_not_read, str_found}
use Rattle.scode_access.proofs.laws.strs_are_found.Goals as goal

pub returns-clause-found : goal.returns-clause-found
returns-clause-found c = λ w place h b at size spot ground e.
    str_found c.parts_lie_within.ensures.within c.parts_lie_within.ensures.reach c.parts_lie_within.ensures.has w place
    h ground c.cells_lead_to_parts.ensures.str b at size spot e

pub returns-clause-objects : goal.returns-clause-objects
returns-clause-objects c = λ w place h b at class spot ground e.
    object_not_read c.parts_lie_within.ensures.within c.parts_lie_within.ensures.reach c.parts_lie_within.ensures.has w
    place h ground c.cells_lead_to_parts.ensures.object c.parts_are_read.ensures b at class spot e
