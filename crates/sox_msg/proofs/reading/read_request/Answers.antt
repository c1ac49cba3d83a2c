use Rattle.sed_value.specs.declared.refusal.Refusal.TheVariants.{Malformed, UnknownCommand}
use Rattle.sox_msg.specs.View.{asking_of}
use Rattle.sox_msg.proofs.ReadingLemmas.{outcome-malformed, outcome-no_other, outcome-only, outcome-refused, outcome-unknown}
use Rattle.sox_msg.proofs.reading.read_request.Goals as goal

pub returns-clause-only : goal.returns-clause-only
returns-clause-only c = outcome-only asking_of _ _ c.request_or_refusal.ensures

pub returns-clause-malformed : goal.returns-clause-malformed
returns-clause-malformed c = (
  outcome-refused asking_of _ Malformed _ c.request_or_refusal.ensures,
  outcome-malformed asking_of _ _ c.request_or_refusal.ensures,
)

pub returns-clause-unknown : goal.returns-clause-unknown
returns-clause-unknown c = (
  outcome-refused asking_of _ UnknownCommand _ c.request_or_refusal.ensures,
  outcome-unknown asking_of _ _ c.request_or_refusal.ensures,
)

pub returns-clause-no_other : goal.returns-clause-no_other
returns-clause-no_other c = outcome-no_other asking_of _ _ c.request_or_refusal.ensures
