use Rattle.std.proofs.Common.{ℕ, List, [], ◌-◌, ◌++◌, ◌∷◌, get_or, sym, ap, ◌∙◌, arith}
use Rattle.std.proofs.lemmas.Grind.{get_or_default_zero}
use Rattle.std.proofs.lemmas.List.{append-nil}
use Rattle.std.specs.Option.{option_map_or}
use Rattle.node_table.specs.declared.node.Node.{Node}
use Rattle.comp_tree.specs.Held.{children_in}
use Rattle.comp_tree.specs.Shape.{down_by}
use Rattle.comp_tree.proofs.SubtreeLemmas.{down_none, flat_next, gather_room, gathered_all, gathered_none, some_room}
use Rattle.comp_tree.proofs.leaving.+gather.Goals as goal

pub returns-then-levels-eq0 : goal.returns-then-levels-eq0
returns-then-levels-eq0 t c =
    sym (ap (λ (xs : List ℕ). c.args.ids.now.items ++ xs) (down_none (children_in c.args.nodes.now) c.args.levels c.args.id c.if-levels-eq0.true) ∙ append-nil c.args.ids.now.items)

pub push-requires : goal.push-requires
push-requires t c =
    let room = some_room (children_in c.args.nodes.now) c.args.levels c.args.id c.if-levels-eq0.false c.args.ids.now.items c.requires in
    (omega arith, room)

pub returns-in_default : goal.returns-in_default
returns-in_default t c =
    gathered_none (children_in c.args.nodes.now) c.args.levels c.args.id c.if-levels-eq0.false c.args.ids.now.items c.push.new.self.items c.push.ensures.items
    (ap (λ r. option_map_or (λ (n : Node). n.children) r []) (sym c.in_default.ensures))

pub loop-child-init : goal.loop-child-init
loop-child-init t c = c.push.ensures.items ∙ sym (append-nil (c.args.ids.now.items ++ c.args.id ∷ []))

pub gather-requires : goal.gather-requires
gather-requires t c =
    let xs = c.as_slice-children.result.now in
    let x = get_or xs c.loop-child.child-index 0 in (
      omega (arith, c.decreases, c.if-levels-eq0.false),
      gather_room (children_in c.args.nodes.now) c.args.levels c.args.id c.if-levels-eq0.false c.args.ids.now.items c.loop-child.ids.items xs c.loop-child.child-index
          (c.as_slice-children.ensures.same ∙ ap (λ r. option_map_or (λ (n : Node). n.children) r []) c.in-Some.ensures) c.loop-child.invariant
          x c.loop-child-test.true (sym (get_or_default_zero xs c.loop-child.child-index x c.loop-child-test.true)) c.requires,
    )

pub loop-child-preserved : goal.loop-child-preserved
loop-child-preserved t c =
    let xs = c.as_slice-children.result.now in
    let x = get_or xs c.loop-child.child-index 0 in
    c.gather.ensures ∙ ap (λ (ys : List ℕ). ys ++ down_by (children_in c.args.nodes.now) (c.args.levels - 1) x) c.loop-child.invariant
    ∙ flat_next (down_by (children_in c.args.nodes.now) (c.args.levels - 1)) (c.args.ids.now.items ++ c.args.id ∷ []) xs c.loop-child.child-index x c.loop-child-test.true
    (sym (get_or_default_zero xs c.loop-child.child-index x c.loop-child-test.true))

pub returns : goal.returns
returns t c =
    gathered_all (children_in c.args.nodes.now) c.args.levels c.args.id c.if-levels-eq0.false c.args.ids.now.items c.loop-child.ids.items c.as_slice-children.result.now c.loop-child.child-index
    (c.as_slice-children.ensures.same ∙ ap (λ r. option_map_or (λ (n : Node). n.children) r []) c.in-Some.ensures) c.loop-child.invariant c.loop-child-test.false
