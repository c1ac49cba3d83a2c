use Rattle.std.proofs.Common.{◌≤◌, length, sym, ◌∙◌, arith}
use Rattle.comp_tree.specs.Application.{children_of}
use Rattle.comp_tree.specs.Held.{components_of}
use Rattle.app_writer.proofs.Siblings.{behind-end, behind-here, behind-later}
use Rattle.app_writer.proofs.ids.next_child.Goals as goal

pub loop-n-preserved : goal.loop-n-preserved
loop-n-preserved g c =
    let children = children_of (components_of g.E.Engine c.args.tree.now).by_id c.args.up.0 in
    behind-later c.args.id.0 children c.loop-n.n (sym c.if-is_child.ensures) ∙ c.loop-n.invariant

pub returns-then-is_child : goal.returns-then-is_child
returns-then-is_child g c =
    let children = children_of (components_of g.E.Engine c.args.tree.now).by_id c.args.up.0 in
    c.child.ensures ∙ sym (behind-here c.args.id.0 children c.loop-n.n (sym c.if-is_child.ensures)) ∙ c.loop-n.invariant

pub returns : goal.returns
returns g c =
    let children = children_of (components_of g.E.Engine c.args.tree.now).by_id c.args.up.0 in
    let count = c.child_count-count.ensures.count in
    let out = c.loop-n-test.false in
    let past : length children ≤ c.loop-n.n = omega (arith, count, out) in
    sym (behind-end c.args.id.0 children c.loop-n.n past) ∙ c.loop-n.invariant
