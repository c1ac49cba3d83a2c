use Rattle.std.proofs.Common.{◌≡◌, ◌-◌, [], ◌∷◌, ◌++◌, take, flat_map}
use Rattle.comp_tree.specs.Held.{children_in}
use Rattle.comp_tree.specs.Shape.{down_by}
use Rattle.comp_tree.proofs.leaving.+gather.Given as goal

abbrev pub decreases-gather : goal.decreases-gather
decreases-gather l = l.levels

-- the id stands there, and what stands at and below the children so far
abbrev pub invariant-loop-child : goal.invariant-loop-child
invariant-loop-child l =
    l.ids.items ≡ (l.fn.ids.items ++ l.id ∷ []) ++ flat_map (down_by (children_in l.nodes) (l.levels - 1)) (take l.child-index l.children)
