use Rattle.std.proofs.Common.{◌≡◌, sym, ap, ◌∙◌}
use Rattle.std.specs.FinMap as map
use Rattle.node_table.specs.Changed.{touched, with_marks}
use Rattle.node_table.specs.declared.node.Node.{Node}
use Rattle.comp_tree.specs.Held.{Held, components_of}
use Rattle.comp_tree.specs.Marks.{marks_at, only, with_parts}
use Rattle.comp_tree.proofs.EditLemmas.{of_found, some_of}
use Rattle.comp_tree.proofs.MarkSteps.{marked_held, marks_changed, same_components, touched_here}
use Rattle.comp_tree.proofs.tree.Tree.mark.Goals as goal

pub invariant_of-self : goal.invariant_of-self
invariant_of-self g c =
    let h : Held _ = record { engine = c.self.inside.engine; nodes = c.self.inside.nodes } in
    let n = some_of (map.get h.nodes c.args.id.0) (sym c.contains.ensures.same ∙ c.if-contains.true) in
    let is = of_found _ n.0 (λ (k : Node). c.touch.new.self ≡ map.insert h.nodes c.args.id.0 (with_marks (touched c.args.parts k.marks) k)) n.1 c.touch.ensures in
    marked_held g.E.Engine h c.self.invariant.placed c.args.id.0 n.0 n.1 (touched c.args.parts n.0.marks) c.touch.new.self is c.self.invariant.tree

pub returns-then-contains-clause-marks : goal.returns-then-contains-clause-marks
returns-then-contains-clause-marks g c = λ other at.
    let h : Held _ = record { engine = c.self.inside.engine; nodes = c.self.inside.nodes } in
    let n = some_of (map.get h.nodes c.args.id.0) (sym c.contains.ensures.same ∙ c.if-contains.true) in
    let is = of_found _ n.0 (λ (k : Node). c.touch.new.self ≡ map.insert h.nodes c.args.id.0 (with_marks (touched c.args.parts k.marks) k)) n.1 c.touch.ensures in
    marks_changed h.nodes c.args.id.0 (with_marks (touched c.args.parts n.0.marks) n.0) c.args.parts n.0 c.touch.new.self n.1 (touched_here c.args.parts n.0.marks) is other at
    ∙ ap (λ (x : Held _). with_parts (only c.args.id.0 c.args.parts other) (marks_at x other at)) c.self.view_is

pub returns-then-contains-clause-stays : goal.returns-then-contains-clause-stays
returns-then-contains-clause-stays g c =
    let h : Held _ = record { engine = c.self.inside.engine; nodes = c.self.inside.nodes } in
    let n = some_of (map.get h.nodes c.args.id.0) (sym c.contains.ensures.same ∙ c.if-contains.true) in
    let is = of_found _ n.0 (λ (k : Node). c.touch.new.self ≡ map.insert h.nodes c.args.id.0 (with_marks (touched c.args.parts k.marks) k)) n.1 c.touch.ensures in
    same_components g.E.Engine h c.self.invariant.placed c.args.id.0 n.0 n.1 (touched c.args.parts n.0.marks) c.touch.new.self is
    ∙ ap (components_of g.E.Engine) c.self.view_is
