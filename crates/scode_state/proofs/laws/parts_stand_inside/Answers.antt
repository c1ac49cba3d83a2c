use Rattle.scode_state.proofs.Inside.{buf_stands, class_said, element_stands, field_stands}
use Rattle.scode_state.proofs.laws.parts_stand_inside.Goals as goal

pub returns-clause-class : goal.returns-clause-class
returns-clause-class c = class_said

pub returns-clause-field : goal.returns-clause-field
returns-clause-field c = field_stands

pub returns-clause-buf : goal.returns-clause-buf
returns-clause-buf c = buf_stands

pub returns-clause-element : goal.returns-clause-element
returns-clause-element c = element_stands
