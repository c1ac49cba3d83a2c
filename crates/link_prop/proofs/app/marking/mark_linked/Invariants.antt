use Rattle.std.proofs.Common.{◌≡◌, ℕ, take}
use Rattle.std.specs.Prelude.{◌||◌, ◌&&◌}
use Rattle.std.specs.List.{list_any}
use Rattle.sub_table.specs.Link.{Link}
use Rattle.sub_table.specs.Marks.{is_at_mark}
use Rattle.link_prop.specs.Marks.{has_mark, links_at_ends}
use Rattle.link_prop.proofs.app.marking.mark_linked.Given as goal

-- the two ends of each link before this one that has one leaving are marked besides
abbrev pub invariant-loop-at : goal.invariant-loop-at
invariant-loop-at l =
    (id place : ℕ) → has_mark l.marks id place ≡ (list_any (λ (k : Link). is_at_mark l.leaving k && links_at_ends k id) (take l.at l.links) || has_mark l.fn.marks id place)
