use Rattle.scode_access.proofs.Finding.{buf_found, bufs_of_objects, element_stands, field_found, of_objects}
use Rattle.scode_access.proofs.laws.fields_are_found.Goals as goal

pub returns-clause-objects : goal.returns-clause-objects
returns-clause-objects c = λ w place v form offset n s typed.
    of_objects c.cells_lead_to_parts.ensures.str w place v form offset n s typed

pub returns-clause-found : goal.returns-clause-found
returns-clause-found c = λ w place h b start class to s ground typed.
    field_found c.parts_lie_within.ensures.within c.parts_lie_within.ensures.reach c.parts_lie_within.ensures.has w place
    h ground c.cells_lead_to_parts.ensures.object c.parts_stand_inside.ensures.field b start class to s typed

pub returns-clause-buf_objects : goal.returns-clause-buf_objects
returns-clause-buf_objects c = λ w place v offset s typed.
    bufs_of_objects c.cells_lead_to_parts.ensures.str w place v offset s typed

pub returns-clause-bufs : goal.returns-clause-bufs
returns-clause-bufs c = λ w place h b start class offset s ground typed.
    buf_found c.parts_lie_within.ensures.within c.parts_lie_within.ensures.reach c.parts_lie_within.ensures.has w place h
    ground c.cells_lead_to_parts.ensures.object c.parts_stand_inside.ensures.buf b start class offset s typed

pub returns-clause-elements : goal.returns-clause-elements
returns-clause-elements c = λ w place h b at spot p n i ground s below.
    element_stands c.parts_lie_within.ensures.within c.parts_lie_within.ensures.reach c.parts_lie_within.ensures.has w
    place h ground c.parts_stand_inside.ensures.element b at spot p n i s below

pub returns-clause-whole : goal.returns-clause-whole
returns-clause-whole c = λ w place h b at spot n s.
    c.parts_lie_within.ensures.buf w.image w.class spot.base spot.path h b at n s.stands
