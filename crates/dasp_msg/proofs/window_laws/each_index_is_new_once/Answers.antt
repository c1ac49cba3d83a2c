use Rattle.dasp_msg.proofs.TakenLemmas.{delivered-once, delivered-fresh}
use Rattle.dasp_msg.proofs.window_laws.each_index_is_new_once.Goals as goal

pub returns-clause-once : goal.returns-clause-once
returns-clause-once c = λ taken numbers. delivered-once numbers taken

pub returns-clause-fresh : goal.returns-clause-fresh
returns-clause-fresh c = λ taken numbers index is. delivered-fresh numbers taken index is
