use Rattle.std.proofs.Common.{ℕ, ℤ, ◌≡◌, inl, inr, All, IsTrue, Some, None, to_z, of_z, w64, sym, ap, subst, ◌∙◌}
use Rattle.std.proofs.lemmas.Int.{to_z-of_z}
use Rattle.sed_value.specs.declared.refusal.Refusal.TheVariants.{AppItself, NoComponent}
use Rattle.comp_tree.specs.Application.{is_live}
use Rattle.comp_tree.specs.Edits.{after_delete}
use Rattle.comp_tree.specs.Held.{Held, components_of}
use Rattle.comp_tree.specs.Order.{subtree}
use Rattle.comp_tree.specs.Refusals.{first_refusal, refusals_of_delete}
use Rattle.comp_tree.proofs.DeleteLemmas.{all_live, delete_allowed, delete_app, delete_done, delete_no_component, stopped_live, stopped_parent, stopped_subtree, subtree_is}
use Rattle.comp_tree.proofs.EditLemmas.{live_same}
use Rattle.std.specs.Option.{option_map_or}
use Rattle.comp_tree.specs.Application.{ById, Components}
use Rattle.comp_tree.specs.Edits.{removed}
use Rattle.comp_tree.specs.Marks.{is_among, no_parts, only, tree_above, tree_parts, values_of_all}
use Rattle.comp_tree.proofs.MarkCalls.{keeps_then}
use Rattle.comp_tree.proofs.MarkDelete.{none_of_others, removed_live, removed_out}
use Rattle.comp_tree.proofs.ShapeLemmas.{In}
use Rattle.comp_tree.proofs.tree.Tree.delete.Goals as goal

pub returns-then-not-contains-clause-refused : goal.returns-then-not-contains-clause-refused
returns-then-not-contains-clause-refused g c =
    subst (λ (x : Held _). first_refusal (refusals_of_delete (components_of g.E.Engine x).by_id c.args.id.0) ≡ Some NoComponent) c.self.view_is
    (delete_no_component (g.E.Engine.live c.self.inside.engine) c.self.inside.nodes c.args.id.0 (sym c.if-not-contains.ensures.same))

pub returns-then-id-eq0-clause-refused : goal.returns-then-id-eq0-clause-refused
returns-then-id-eq0-clause-refused g c =
    subst (λ (x : Held _). first_refusal (refusals_of_delete (components_of g.E.Engine x).by_id c.args.id.0) ≡ Some AppItself) c.self.view_is
    (delete_app (g.E.Engine.live c.self.inside.engine) c.self.inside.nodes c.args.id.0 (sym c.if-not-contains.ensures.same) c.if-id-eq0.true)

pub returns-clause-refused : goal.returns-clause-refused
returns-clause-refused g c =
    subst (λ (x : Held _). first_refusal (refusals_of_delete (components_of g.E.Engine x).by_id c.args.id.0) ≡ None) c.self.view_is
    (delete_allowed (g.E.Engine.live c.self.inside.engine) c.self.inside.nodes c.args.id.0 (sym c.if-not-contains.ensures.same) c.if-id-eq0.false)

pub stop_each-requires : goal.stop_each-requires
stop_each-requires g c =
    let i = c.self.inside in
    subst (λ (x : Held _). All (λ id. IsTrue (is_live (components_of g.E.Engine x).by_id id)) c.as_slice.result.now) c.self.view_is
    (all_live i.nodes c.self.invariant.tree c.args.id.0 (sym c.if-not-contains.ensures.same) (g.E.Engine.live i.engine) c.as_slice.result.now (c.as_slice.ensures.value ∙ c.at_and_below-ids.ensures))

pub cut-requires-clause-live : goal.cut-requires-clause-live
cut-requires-clause-live g c =
    let i = c.self.inside in
    let m = g.E.Engine.meaning c.args.self.now.engine in
    let a = components_of g.E.Engine c.args.self.now in
    let mid = components_of g.E.Engine c.stop_each.new.self in
    let t = to_z w64 (of_z w64 c.args.ticks) in
    let ids = c.as_slice.result.now in
    stopped_live m a mid ids c.args.turns t c.stop_each.ensures.left c.args.id.0
    ∙ sym (ap (λ (x : Held _). is_live (components_of g.E.Engine x).by_id c.args.id.0) c.self.view_is) ∙ live_same (g.E.Engine.live i.engine) i.nodes c.args.id.0 ∙ sym c.if-not-contains.ensures.same

pub cut-requires-clause-all : goal.cut-requires-clause-all
cut-requires-clause-all g c =
    let i = c.self.inside in
    let m = g.E.Engine.meaning c.args.self.now.engine in
    let a = components_of g.E.Engine c.args.self.now in
    let mid = components_of g.E.Engine c.stop_each.new.self in
    let t = to_z w64 (of_z w64 c.args.ticks) in
    let ids = c.as_slice.result.now in
    c.as_slice-2.ensures.value ∙ c.at_and_below-ids.ensures ∙ sym (subtree_is (g.E.Engine.live i.engine) i.nodes c.args.id.0)
    ∙ ap (λ (x : Held _). subtree (components_of g.E.Engine x).by_id c.args.id.0) c.self.view_is
    ∙ sym (stopped_subtree m a mid ids c.args.turns t c.stop_each.ensures.left c.args.id.0)

pub returns-clause-done : goal.returns-clause-done
returns-clause-done g c =
    let i = c.self.inside in
    let m = g.E.Engine.meaning c.args.self.now.engine in
    let a = components_of g.E.Engine c.args.self.now in
    let mid = components_of g.E.Engine c.stop_each.new.self in
    let t = to_z w64 (of_z w64 c.args.ticks) in
    let ids = c.as_slice.result.now in
    let same : to_z w64 (of_z w64 c.args.ticks) ≡ c.args.ticks = to_z-of_z w64 c.args.ticks c.ranges.ticks in
    let are = c.as_slice.ensures.value ∙ c.at_and_below-ids.ensures ∙ sym (subtree_is (g.E.Engine.live i.engine) i.nodes c.args.id.0)
    ∙ ap (λ (x : Held _). subtree (components_of g.E.Engine x).by_id c.args.id.0) c.self.view_is
    in
    delete_done m a mid ids c.args.turns t c.stop_each.ensures.left (components_of g.E.Engine c.cut.new.self) c.args.id.0 are c.cut.ensures.gone
    ∙ ap (λ (u : ℤ). after_delete m a c.args.id.0 c.args.turns u) same

pub returns-clause-marks : goal.returns-clause-marks
returns-clause-marks g c =
    let i = c.self.inside in
    let m = g.E.Engine.meaning c.args.self.now.engine in
    let a = components_of g.E.Engine c.args.self.now in
    let mid = components_of g.E.Engine c.stop_each.new.self in
    let t = to_z w64 (of_z w64 c.args.ticks) in
    let ids = c.as_slice.result.now in
    let are : ids ≡ subtree mid.by_id c.args.id.0 = c.as_slice.ensures.value ∙ c.at_and_below-ids.ensures ∙ sym (subtree_is (g.E.Engine.live i.engine) i.nodes c.args.id.0)
    ∙ ap (λ (x : Held _). subtree (components_of g.E.Engine x).by_id c.args.id.0) c.self.view_is
    ∙ sym (stopped_subtree m a mid ids c.args.turns t c.stop_each.ensures.left c.args.id.0) in
    let gone : (components_of g.E.Engine c.cut.new.self).by_id ≡ removed mid.by_id c.args.id.0 = ap (λ (x : Components). x.by_id) c.cut.ensures.gone in
    keeps_then g.E.Engine (values_of_all ids) (tree_above mid.by_id c.args.id.0) (tree_above a.by_id c.args.id.0) c.args.self.now c.stop_each.new.self c.cut.new.self c.stop_each.ensures.marks c.cut.ensures.marks
    (λ q live. removed_live mid.by_id c.args.id.0 q (sym (ap (λ (x : ById). is_live x q) gone) ∙ live))
    (λ q part live either. elim either [
      | inl stopped ↦ absurd (none_of_others ids q part (λ here. removed_out mid.by_id c.args.id.0 q (sym (ap (λ (x : ById). is_live x q) gone) ∙ live) (subst (In q) are here)) stopped)
      | inr above ↦ sym (ap (λ r. is_among part (option_map_or (λ (p : ℕ). only p tree_parts q) r no_parts)) (stopped_parent m a mid ids c.args.turns t c.stop_each.ensures.left c.args.id.0)) ∙ above
    ])
