use Rattle.std.proofs.Common.{◌≡◌, ◌<◌, ◌+◌, ◌↔◌, ℕ, Some, sym, ap, subst, ◌∙◌, arith}
use Rattle.std.specs.FinMap as map
use Rattle.std.specs.Ordering.{nat_cmp}
use Rattle.sed_typed.specs.Schemas.{type_at as class_numbered}
use Rattle.sed_typed.specs.SysTypes.{app_type}
use Rattle.sed_engine.specs.declared.call.AddRefusal.TheVariants.{DataFull}
use Rattle.sed_engine.specs.Code.{Meaning, Object, Places, data_of, new_object}
use Rattle.comp_tree.specs.Edits.{app_class}
use Rattle.comp_tree.specs.Held.{IsPlaced, IsTreeOf}
use Rattle.comp_tree.proofs.MatchLemmas.{err_other}
use Rattle.comp_tree.proofs.NodeTrees.{tree_first}
use Rattle.comp_tree.proofs.TreeLemmas.{app_class_is, no_data, placed_first, app_first}
use Rattle.comp_tree.proofs.MarkCalls.{all_none, all_set}
use Rattle.comp_tree.proofs.tree.Tree.new.Goals as goal

-- where nothing lives the App passes a limit by its own data
passes : (m : Meaning) (live : Places) (limit kind : ℕ) → live ≡ map.empty → class_numbered m.schema.classes 0 app_type ≡ Some kind
    → (limit < data_of m live + m.data_size kind) ↔ (limit < m.data_size (app_class m))
passes m live limit kind none class =
    let size : m.data_size (app_class m) ≡ m.data_size kind = ap m.data_size (app_class_is m kind class) in
    let nothing : data_of m live ≡ 0 = no_data m live none in
    (λ lt. omega (arith, lt, size, nothing), λ lt. omega (arith, lt, size, nothing))

pub add-requires-clause-few : goal.add-requires-clause-few
add-requires-clause-few g c = omega (arith, ap map.len c.requires, map.len-empty nat_cmp Object)

pub returns-in-Err-clause-full : goal.returns-in-Err-clause-full
returns-in-Err-clause-full g c =
    let class = ap (λ s. class_numbered s.classes 0 app_type) (sym c.schema.ensures.same) ∙ c.app_type-kind.ensures in
    let is = passes (g.E.Engine.meaning c.args.engine) (g.E.Engine.live c.args.engine) (g.E.Engine.limit c.args.engine) c.app_type-kind.result.0 c.requires class in
    (λ e. is.0 (c.in-Err.ensures.full.0 (err_other c.in-Err.refusal DataFull e)), λ lt. err_other c.in-Err.refusal DataFull (c.in-Err.ensures.full.1 (is.1 lt)))

pub returns-in-Err-new-clause-full : goal.returns-in-Err-new-clause-full
returns-in-Err-new-clause-full g c =
    let class = ap (λ s. class_numbered s.classes 0 app_type) (sym c.schema.ensures.same) ∙ c.app_type-kind.ensures in
    let is = passes (g.E.Engine.meaning c.args.engine) (g.E.Engine.live c.args.engine) (g.E.Engine.limit c.args.engine) c.app_type-kind.result.0 c.requires class in
    (λ e. absurd (cc), λ lt. absurd (let no = c.in-Ok.ensures.full.1 (is.1 lt) in cc))

pub returns-clause-full : goal.returns-clause-full
returns-clause-full g c =
    let class = ap (λ s. class_numbered s.classes 0 app_type) (sym c.schema.ensures.same) ∙ c.app_type-kind.ensures in
    let is = passes (g.E.Engine.meaning c.args.engine) (g.E.Engine.live c.args.engine) (g.E.Engine.limit c.args.engine) c.app_type-kind.result.0 c.requires class in
    (λ e. absurd (cc), λ lt. absurd (let no = c.in-Ok.ensures.full.1 (is.1 lt) in cc))

pub insert-requires-clause-free : goal.insert-requires-clause-free
insert-requires-clause-free g c = ap (λ k. map.get k 0) c.in-Ok-new.ensures ∙ map.get-empty nat_cmp 0

pub invariant_of-result : goal.invariant_of-result
invariant_of-result g c =
    let m = g.E.Engine.meaning c.args.engine in
    let l = g.E.Engine.live c.args.engine in
    let n = c.app_node.result in
    let o = new_object m c.app_type-kind.result.0 in
    record {
      placed = subst (λ k. IsPlaced k (g.E.Engine.live c.add.new.self) c.insert.new.self) (sym c.in-Ok.ensures.meaning)
          (placed_first m l (g.E.Engine.live c.add.new.self) c.in-Ok-new.nodes c.insert.new.self c.requires c.in-Ok-new.ensures n o (ap (λ t. t.0) (sym c.app_node.ensures.kind))
          (c.in-Ok.ensures.added ∙ ap (λ p. map.insert l p.0 o) (sym c.app_node.ensures.place)) c.insert.ensures);
      tree = subst IsTreeOf (sym c.insert.ensures) (tree_first c.in-Ok-new.nodes n c.in-Ok-new.ensures c.app_node.ensures.parent c.app_node.ensures.children);
    }

pub returns-clause-made : goal.returns-clause-made
returns-clause-made g c =
    let m = g.E.Engine.meaning c.args.engine in
    let l = g.E.Engine.live c.args.engine in
    let n = c.app_node.result in
    let o = new_object m c.app_type-kind.result.0 in
    let a = c.app_node.ensures in
    let class = ap (λ s. class_numbered s.classes 0 app_type) (sym c.schema.ensures.same) ∙ c.app_type-kind.ensures in
    let all = app_first m l (g.E.Engine.live c.add.new.self) c.in-Ok-new.nodes c.insert.new.self c.requires c.in-Ok-new.ensures n o (ap (λ t. t.0) (sym a.kind))
    (c.in-Ok.ensures.added ∙ ap (λ p. map.insert l p.0 o) (sym a.place)) c.insert.ensures
    a.name a.parent a.children a.fault (ap (λ t. m.initial t.0) (sym a.kind)) (app_class_is m c.app_type-kind.result.0 class ∙ ap (λ t. t.0) (sym a.kind)) in
    λ i. record { by_id = all i; statics = c.in-Ok.ensures.statics i; limit = c.in-Ok.ensures.limit i }

pub returns-clause-marks : goal.returns-clause-marks
returns-clause-marks g c = all_set c.in-Ok-new.nodes c.insert.new.self 0 c.app_node.result (all_none c.in-Ok-new.nodes c.in-Ok-new.ensures) c.app_node.ensures.marks c.insert.ensures
