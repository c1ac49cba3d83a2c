use Rattle.sed_layout.proofs.Counts.{few_classes, few_methods}
use Rattle.sed_layout.proofs.offset_laws.numbers_are_small.Goals as goal

pub returns-clause-classes : goal.returns-clause-classes
returns-clause-classes c = few_classes

pub returns-clause-methods : goal.returns-clause-methods
returns-clause-methods c = few_methods
