use Rattle.sox_msg.proofs.LimitLemmas.{event-size, refusal-size, reply-size}
use Rattle.sox_msg.proofs.laws.texts_fit_a_message.Goals as goal

pub returns-clause-refusals : goal.returns-clause-refusals
returns-clause-refusals c = refusal-size

pub returns-clause-replies : goal.returns-clause-replies
returns-clause-replies c = reply-size

pub returns-clause-events : goal.returns-clause-events
returns-clause-events c = event-size
