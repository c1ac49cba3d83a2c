use Rattle.sed_class_laws.proofs.Texts.{texts_are, texts_kept}
use Rattle.sed_class_laws.proofs.outlined_laws.texts_are_typed.Goals as goal

pub returns-clause-once : goal.returns-clause-once
returns-clause-once c = λ units text. (texts_kept units).once text

pub returns-clause-most : goal.returns-clause-most
returns-clause-most c = λ units. (texts_kept units).few

pub returns-clause-each : goal.returns-clause-each
returns-clause-each c = λ units spell. texts_are units spell
