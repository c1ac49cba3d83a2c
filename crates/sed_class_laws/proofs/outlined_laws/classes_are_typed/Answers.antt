use Rattle.sed_class_laws.proofs.Class.{classes}
use Rattle.sed_class_laws.proofs.outlined_laws.classes_are_typed.Goals as goal

pub returns : goal.returns
returns c = λ units program u s f class. classes units u program s f class
