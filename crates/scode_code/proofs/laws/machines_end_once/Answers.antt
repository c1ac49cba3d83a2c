use Rattle.scode_code.proofs.Going.{steps-add, steps-over, ends_once}
use Rattle.scode_code.proofs.laws.machines_end_once.Goals as goal

pub returns-clause-sum : goal.returns-clause-sum
returns-clause-sum c = steps-add

pub returns-clause-stays : goal.returns-clause-stays
returns-clause-stays c = steps-over

pub returns-clause-once : goal.returns-clause-once
returns-clause-once c = ends_once
