use Rattle.std.proofs.Common.{◌≡◌, ◌<◌, ◌==◌, ◌&&◌, is_some, length, sym, ap, ◌∙◌, arith}
use Rattle.std.specs.Prelude.{if◌then◌else◌}
use Rattle.std.specs.FinMap as map
use Rattle.node_table.specs.Changed.{settled, with_marks}
use Rattle.node_table.specs.Marks.{parts_in}
use Rattle.node_table.specs.declared.node.Node.{Node}
use Rattle.comp_tree.specs.Held.{Held, by_id_of, components_of}
use Rattle.comp_tree.specs.Marks.{marks_at, without_parts}
use Rattle.comp_tree.proofs.EditLemmas.{of_found}
use Rattle.comp_tree.proofs.MarkSteps.{marked_held, marks_settled, same_components}
use Rattle.comp_tree.proofs.TreeLemmas.{no_component}
use Rattle.comp_tree.proofs.tree.Tree.settle.Goals as goal

pub returns-in_default-clause-marks : goal.returns-in_default-clause-marks
returns-in_default-clause-marks g c = λ other at.
    let none = ap (λ (x : Held _). map.get (by_id_of (g.E.Engine.live x.engine) x.nodes) c.args.id.0) (sym c.self.view_is) ∙ no_component (g.E.Engine.live c.self.inside.engine) c.self.inside.nodes c.args.id.0 (sym c.in_default.ensures) in
    absurd (let no = sym (ap is_some none) ∙ c.requires.live in cc)

pub invariant_of-self : goal.invariant_of-self
invariant_of-self g c =
    let h : Held _ = record { engine = c.self.inside.engine; nodes = c.self.inside.nodes } in
    let n = c.in-Some.node.now in
    let is = of_found _ n (λ (k : Node). c.settle.new.self ≡ map.insert h.nodes c.args.id.0 (with_marks (settled c.args.place c.of_mask.result k.marks) k)) (sym c.in-Some.ensures) c.settle.ensures in
    marked_held g.E.Engine h c.self.invariant.placed c.args.id.0 n (sym c.in-Some.ensures) (settled c.args.place c.of_mask.result n.marks) c.settle.new.self is c.self.invariant.tree

pub returns-clause-marks : goal.returns-clause-marks
returns-clause-marks g c = λ other at.
    let h : Held _ = record { engine = c.self.inside.engine; nodes = c.self.inside.nodes } in
    let n = c.in-Some.node.now in
    let is = of_found _ n (λ (k : Node). c.settle.new.self ≡ map.insert h.nodes c.args.id.0 (with_marks (settled c.args.place c.of_mask.result k.marks) k)) (sym c.in-Some.ensures) c.settle.ensures in
    let there : c.args.place < length n.marks = omega (arith, c.requires.place, c.at-marks.ensures.many) in
    marks_settled h.nodes c.settle.new.self c.args.id.0 c.args.place c.of_mask.result n (sym c.in-Some.ensures) there is other at
    ∙ ap (λ parts. if (other == c.args.id.0) && (at == c.args.place) then without_parts parts (marks_at h other at) else marks_at h other at) c.of_mask.ensures
    ∙ ap (λ (x : Held _). if (other == c.args.id.0) && (at == c.args.place) then without_parts (parts_in c.args.mask) (marks_at x other at) else marks_at x other at) c.self.view_is

pub returns-clause-stays : goal.returns-clause-stays
returns-clause-stays g c =
    let h : Held _ = record { engine = c.self.inside.engine; nodes = c.self.inside.nodes } in
    let n = c.in-Some.node.now in
    let is = of_found _ n (λ (k : Node). c.settle.new.self ≡ map.insert h.nodes c.args.id.0 (with_marks (settled c.args.place c.of_mask.result k.marks) k)) (sym c.in-Some.ensures) c.settle.ensures in
    same_components g.E.Engine h c.self.invariant.placed c.args.id.0 n (sym c.in-Some.ensures) (settled c.args.place c.of_mask.result n.marks) c.settle.new.self is
    ∙ ap (components_of g.E.Engine) c.self.view_is
