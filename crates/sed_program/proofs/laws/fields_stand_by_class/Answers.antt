use Rattle.sed_program.proofs.OrderedClasses.{by_class}
use Rattle.sed_program.proofs.laws.fields_stand_by_class.Goals as goal

pub returns : goal.returns
returns c = λ units program u s f. by_class units u program s f
