use Rattle.sox_msg.proofs.AnsweredLemmas.{one_payload}
use Rattle.sox_msg.proofs.ReadingLemmas.{one_request, request-number}
use Rattle.sox_msg.proofs.laws.payloads_are_one_request.Goals as goal

pub returns-clause-one : goal.returns-clause-one
returns-clause-one c = one_request

pub returns-clause-text : goal.returns-clause-text
returns-clause-text c = one_payload

pub returns-clause-number : goal.returns-clause-number
returns-clause-number c = request-number
