use Rattle.sub_table.proofs.HolderLemmas.{inverse_new}
use Rattle.sub_table.proofs.holders.Holders.new.Goals as goal

pub invariant_of-result : goal.invariant_of-result
invariant_of-result c =
    inverse_new c.in_ok-subscribed.subscribed c.in_ok-rows.rows.items c.in_ok-numbers.numbers.items c.in_ok-numbers.numbers.cap
    c.in_ok-subscribed.ensures.none c.in_ok-rows.ensures c.in_ok-numbers.ensures.items c.in_ok-numbers.ensures.capacity
