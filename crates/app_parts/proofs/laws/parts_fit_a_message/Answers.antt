use Rattle.app_parts.proofs.PartSizes.{event_fits, reply_fits, short}
use Rattle.app_parts.proofs.laws.parts_fit_a_message.Goals as goal

pub returns-clause-short : goal.returns-clause-short
returns-clause-short c = short

pub returns-clause-replies : goal.returns-clause-replies
returns-clause-replies c = reply_fits

pub returns-clause-events : goal.returns-clause-events
returns-clause-events c = event_fits
