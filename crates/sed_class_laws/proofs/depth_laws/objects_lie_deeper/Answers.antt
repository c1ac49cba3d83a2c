use Rattle.sed_class_laws.proofs.Deeper.{deeper}
use Rattle.sed_class_laws.proofs.depth_laws.objects_lie_deeper.Goals as goal

pub returns : goal.returns
returns c = λ units program u s f class. deeper units u program s f class
