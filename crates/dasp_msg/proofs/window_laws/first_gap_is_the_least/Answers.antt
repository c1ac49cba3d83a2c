use Rattle.std.proofs.Common.{arith}
use Rattle.dasp_msg.proofs.TakenLemmas.{gap_from-below, gap_from-free}
use Rattle.dasp_msg.proofs.window_laws.first_gap_is_the_least.Goals as goal

pub returns-clause-below : goal.returns-clause-below
returns-clause-below c = λ taken index list lt. gap_from-below 0 taken index (omega arith) lt

pub returns-clause-gap : goal.returns-clause-gap
returns-clause-gap c = λ taken list. gap_from-free 0 taken list.ascends
