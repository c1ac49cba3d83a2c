use Rattle.sed_class_laws.proofs.Kits.{has_kits}
use Rattle.sed_class_laws.proofs.outlined_laws.kits_are_typed.Goals as goal

pub returns : goal.returns
returns c = λ units u named. has_kits units u named
