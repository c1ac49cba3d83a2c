use Rattle.sed_wire.specs.declared.fault.StrFault.TheVariants.{NoEnd, NotAscii}
use Rattle.sed_wire.proofs.TextLemmas.{text-again, text-fault}
use Rattle.sed_wire.proofs.reader.Reader.str.Goals as goal

pub returns-clause-no_end : goal.returns-clause-no_end
returns-clause-no_end c = text-fault (λ text. text.now) NoEnd _ _ _ c.text_or_fault.ensures

pub returns-clause-not_ascii : goal.returns-clause-not_ascii
returns-clause-not_ascii c = text-fault (λ text. text.now) NotAscii _ _ _ c.text_or_fault.ensures

pub returns-clause-again : goal.returns-clause-again
returns-clause-again c = text-again (λ text. text.now) _ _ _ c.text_or_fault.ensures
