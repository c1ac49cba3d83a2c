use Rattle.sed_program.proofs.Before.{base_before}
use Rattle.sed_program.proofs.laws.bases_stand_first.Goals as goal

pub returns : goal.returns
returns c = λ units class base u e. base_before units u class base e
