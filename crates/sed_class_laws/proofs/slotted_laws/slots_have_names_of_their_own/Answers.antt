use Rattle.sed_class_laws.proofs.Slots.{names_once, slots_below}
use Rattle.sed_class_laws.proofs.slotted_laws.slots_have_names_of_their_own.Goals as goal

pub returns-clause-once : goal.returns-clause-once
returns-clause-once c = λ units class name u free. names_once units u free class name

pub returns-clause-components : goal.returns-clause-components
returns-clause-components c = λ units class u free n. slots_below units u free class n
