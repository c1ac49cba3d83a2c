use Rattle.scode_vm.proofs.Fine.{step_leads}
use Rattle.scode_vm.proofs.laws.instructions_are_steps.Goals as goal

pub returns : goal.returns
returns c = λ w place s shared i here. step_leads w place s shared i here
