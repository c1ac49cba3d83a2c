use Rattle.scode_whole.proofs.Whole.{first_rule}
use Rattle.scode_sound.proofs.Answering.{begins_fine}
use Rattle.scode_sound.proofs.Rules.{tables}
use Rattle.scode_sound.proofs.Running.{step_better}
use Rattle.scode_sound.proofs.laws.fine_machines_go_on.Goals as goal

pub returns-clause-goes_on : goal.returns-clause-goes_on
returns-clause-goes_on c w given x h own fine =
    (step_better w (tables w.image (first_rule w.image h)) own given _
    ((c.images_without_fault_are_verified.ensures w.image).0 h).0 x fine).fine

pub returns-clause-falls : goal.returns-clause-falls
returns-clause-falls c w given x h own fine =
    (step_better w (tables w.image (first_rule w.image h)) own given _
    ((c.images_without_fault_are_verified.ensures w.image).0 h).0 x fine).less

pub returns-clause-begins_fine : goal.returns-clause-begins_fine
returns-clause-begins_fine c image q number value h may method_is value_is =
    (begins_fine image h _ ((c.images_without_fault_are_verified.ensures image).0 h).0 q may number value method_is
    value_is).0

pub returns-clause-begins_within : goal.returns-clause-begins_within
returns-clause-begins_within c image q number value h may method_is value_is =
    (begins_fine image h _ ((c.images_without_fault_are_verified.ensures image).0 h).0 q may number value method_is
    value_is).1
