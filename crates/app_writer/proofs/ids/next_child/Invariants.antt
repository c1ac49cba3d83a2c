use Rattle.std.proofs.Common.{◌≡◌, drop}
use Rattle.comp_tree.specs.Application.{children_of}
use Rattle.comp_tree.specs.Held.{components_of}
use Rattle.app_file.specs.Rows.{behind}
use Rattle.app_writer.proofs.ids.next_child.Given as goal

-- the id is not among the children before this one
abbrev pub invariant-loop-n : goal.invariant-loop-n
invariant-loop-n g l =
    behind l.id.0 (drop l.n (children_of (components_of g.E.Engine l.tree).by_id l.up.0)) ≡ behind l.id.0 (children_of (components_of g.E.Engine l.tree).by_id l.up.0)
