use Rattle.dasp_msg.specs.Numbers.{index_of}
use Rattle.dasp_msg.specs.TakenIndexes.{first_gap}
use Rattle.dasp_msg.proofs.TakenLemmas.{IsTakenList-with_new}
use Rattle.dasp_msg.proofs.window_laws.taken_lists_stay_so.Goals as goal

pub returns : goal.returns
returns c = λ taken number list. IsTakenList-with_new taken (index_of (first_gap taken) number) list
