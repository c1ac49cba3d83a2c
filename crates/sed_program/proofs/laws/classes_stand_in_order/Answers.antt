use Rattle.sed_program.proofs.OrderedClasses.{ordered}
use Rattle.sed_program.proofs.laws.classes_stand_in_order.Goals as goal

pub returns : goal.returns
returns c = λ units program u s f. ordered units u program s f
