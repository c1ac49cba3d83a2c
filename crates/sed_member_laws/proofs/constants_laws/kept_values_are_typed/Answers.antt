use Rattle.sed_classes.specs.Values.{constant_of}
use Rattle.sed_member_laws.proofs.Constants.{constant_good, kept_typed}
use Rattle.sed_member_laws.proofs.constants_laws.kept_values_are_typed.Goals as goal

pub returns : goal.returns
returns c units a class i p s t = kept_typed p (constant_of units class i) t (constant_good units a class i s)
