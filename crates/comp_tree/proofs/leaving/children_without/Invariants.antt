use Rattle.std.proofs.Common.{◌≡◌, ◌==◌, not, filter, take}
use Rattle.comp_tree.proofs.leaving.children_without.Given as goal

-- those so far, but the one
abbrev pub invariant-loop-child : goal.invariant-loop-child
invariant-loop-child l = l.left ≡ filter (λ child. not (child == l.id.0)) (take l.child-index l.children)
