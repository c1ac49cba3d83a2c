use Rattle.std.proofs.Common.{◌≡◌, ◌∙◌, Bool, List, true, false, sym, ap}
use Rattle.std.specs.List.{list_all}
use Rattle.row_tree.specs.Visits.{Visit, meet}
use Rattle.row_tree.proofs.Meeting.{visit_begin, visited_all, visited_lacks}
use Rattle.row_tree.proofs.reach.reach.Goals as goal

pub visit-requires-clause-begun : goal.visit-requires-clause-begun
visit-requires-clause-begun c =
    visit_begin c.args.lists.now c.requires (c.meet.new.met.items, c.meet.new.order.items)
    (c.in_ok-meet.ensures ∙ ap (λ (v : Visit). meet v 0) (λ i. (c.in_ok-met.ensures i, c.new-order.ensures.items i)))

pub returns-clause-all : goal.returns-clause-all
returns-clause-all c =
    λ ok. visited_all c.args.lists.now (c.visit.new.met.items, c.visit.new.order.items) c.in_ok-visit.ensures
    (sym (ap (λ (bs : List Bool). list_all (λ b. b) bs) c.deref.ensures.value) ∙ sym c.are_all.ensures ∙ (let is : c.are_all.result ≡ true = cc in is))

pub returns-clause-lacks : goal.returns-clause-lacks
returns-clause-lacks c =
    λ ok. visited_lacks c.args.lists.now (c.visit.new.met.items, c.visit.new.order.items) c.in_ok-visit.ensures
    (sym (ap (λ (bs : List Bool). list_all (λ b. b) bs) c.deref.ensures.value) ∙ sym c.are_all.ensures ∙ (let is : c.are_all.result ≡ false = cc in is))
