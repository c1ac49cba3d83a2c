use Rattle.dasp_msg.specs.Numbers.{index_of}
use Rattle.dasp_msg.specs.TakenIndexes.{first_gap}
use Rattle.dasp_msg.proofs.TakenLemmas.{is_taken-with_new}
use Rattle.dasp_msg.proofs.window_laws.what_was_taken_stays.Goals as goal

pub returns : goal.returns
returns c = λ taken number index is. is_taken-with_new taken (index_of (first_gap taken) number) index is
