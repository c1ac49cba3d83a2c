use Rattle.std.proofs.Common.{◌+◌, ◌*◌, ◌≤◌, drop}
use Rattle.std.specs.List.{flat_map}
use Rattle.sed_wire.specs.Writing.{room}
use Rattle.comp_tree.specs.Application.{children_of}
use Rattle.comp_tree.specs.Held.{components_of}
use Rattle.comp_tree.specs.Parts.{u2}
use Rattle.app_parts.proofs.SoFar.{SoFar}
use Rattle.app_parts.proofs.tree.put_children.Given as goal

-- the children before this one are put, in two bytes each
abbrev pub invariant-loop-n : goal.invariant-loop-n
invariant-loop-n g l =
    SoFar l.fn.writer l.writer (flat_map u2 (children_of (components_of g.E.Engine l.tree).by_id l.id.0)) (flat_map u2 (drop l.n (children_of (components_of g.E.Engine l.tree).by_id l.id.0)))
    × (2 * l.count ≤ room l.writer + 2 * l.n)
