use Rattle.std.proofs.Common.{◌≡◌, None, is_some, sym, ap, subst, ◌∙◌}
use Rattle.std.proofs.Math.ListN.{get_or}
use Rattle.std.specs.FinMap as map
use Rattle.std.specs.Prelude.{IfSome}
use Rattle.node_table.specs.declared.node.Node.{Node}
use Rattle.node_table.specs.Changed.{settled, with_marks}
use Rattle.node_table.specs.Indexed.{kept, kept_at, by_number}
use Rattle.node_table.proofs.IndexLemmas.{node_at, faulted_is}
use Rattle.node_table.proofs.nodes.Nodes.settle.Goals as goal

pub returns-in-Some : goal.returns-in-Some
returns-in-Some c =
    let at = ap (λ xs. get_or xs c.args.id.0 None) (sym c.deref.ensures.value) ∙ sym c.in-Some.ensures in
    subst (λ m. IfSome (map.get m c.args.id.0) (λ (n : Node). by_number (kept c.self.inside.index.items c.settle_node.new.slab) ≡ map.insert m c.args.id.0 (with_marks (settled c.args.place c.args.parts n.marks) n))) c.self.view_is
    (faulted_is 4096 c.self.inside.index.items c.self.inside.slab c.self.invariant.indexed c.settle_node.new.slab c.args.id.0 c.in-Some.key (λ (n : Node). with_marks (settled c.args.place c.args.parts n.marks) n) at
    c.settle_node.ensures.changed c.settle_node.ensures.len c.settle_node.ensures.capacity)

pub returns-in_default : goal.returns-in_default
returns-in_default c =
    let none = ap (λ xs. get_or xs c.args.id.0 None) (sym c.deref.ensures.value) ∙ sym c.in_default.ensures in
    absurd (let no = ap is_some (sym (ap (λ m. map.get m c.args.id.0) c.self.view_is) ∙ node_at c.self.inside.index.items c.self.inside.slab c.args.id.0 ∙ ap (kept_at c.self.inside.slab) none) in let there = c.requires.live in cc)
