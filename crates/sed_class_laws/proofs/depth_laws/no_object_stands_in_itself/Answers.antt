use Rattle.sed_class_laws.proofs.Inline.{none_in_itself}
use Rattle.sed_class_laws.proofs.depth_laws.no_object_stands_in_itself.Goals as goal

pub returns : goal.returns
returns c = λ units class u. none_in_itself units u class
