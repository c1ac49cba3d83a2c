use Rattle.sed_class_laws.proofs.Statics.{statics_most}
use Rattle.sed_class_laws.proofs.outlined_laws.statics_are_few.Goals as goal

pub returns : goal.returns
returns c = λ units program u s f t. statics_most units u program s f t
