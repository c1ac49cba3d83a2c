use Rattle.sox_msg.proofs.AnsweredLemmas.{one_event, one_reply}
use Rattle.sox_msg.proofs.laws.texts_are_one_answer.Goals as goal

pub returns-clause-replies : goal.returns-clause-replies
returns-clause-replies c = one_reply

pub returns-clause-events : goal.returns-clause-events
returns-clause-events c = one_event
