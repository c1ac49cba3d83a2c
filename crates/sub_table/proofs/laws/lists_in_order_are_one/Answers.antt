use Rattle.sub_table.proofs.LawLemmas.{one_list}
use Rattle.sub_table.proofs.laws.lists_in_order_are_one.Goals as goal

pub returns : goal.returns
returns c = one_list
