use Rattle.std.proofs.Common.{ℕ, None, is_some, IsSome, sym, ap, subst, ◌∙◌, slice_set}
use Rattle.std.proofs.Math.ListN.{get_or}
use Rattle.std.specs.FinMap as map
use Rattle.node_table.specs.Indexed.{kept, kept_at, by_number}
use Rattle.node_table.specs.Taken.{IsMarked}
use Rattle.node_table.proofs.IndexLemmas.{node_at, on_some, indexed_remove, remove_is}
use Rattle.node_table.proofs.MarkLemmas.{marked_out}
use Rattle.node_table.proofs.nodes.Nodes.remove.Goals as goal

pub invariant_of-self : goal.invariant_of-self
invariant_of-self c =
    let at = (ap (λ xs. get_or xs c.args.id.0 None) (sym c.deref.ensures.value) ∙ sym c.in-Some.ensures) in
    let took = c.try_remove.ensures in
    let some : IsSome c.try_remove.result = ap is_some took.value ∙ c.self.invariant.indexed.there c.args.id.0 c.in-Some.key at in
    subst (λ (k : ℕ). IsMarked 4096 (slice_set c.self.inside.index.items k None) c.try_remove.new.self c.free.new.self) (sym c.from.ensures)
    (record {
      indexed = indexed_remove 4096 c.self.inside.index.items c.self.inside.slab c.self.invariant.indexed c.try_remove.new.self c.args.id.0 c.in-Some.key at
          took.updates (on_some c.try_remove.result _ took.len some) took.capacity;
      marked = marked_out 4096 c.self.inside.index.items c.self.inside.slab c.self.inside.taken c.self.invariant c.free.new.self c.args.id.0 c.in-Some.key at c.free.ensures.same c.free.ensures.others;
    })

pub returns-in-Some-clause-value : goal.returns-in-Some-clause-value
returns-in-Some-clause-value c =
    let at = (ap (λ xs. get_or xs c.args.id.0 None) (sym c.deref.ensures.value) ∙ sym c.in-Some.ensures) in
    c.try_remove.ensures.value ∙ sym (node_at c.self.inside.index.items c.self.inside.slab c.args.id.0 ∙ ap (kept_at c.self.inside.slab) at)
    ∙ ap (λ m. map.get m c.args.id.0) c.self.view_is

pub returns-in-Some-clause-removed : goal.returns-in-Some-clause-removed
returns-in-Some-clause-removed c =
    let at = (ap (λ xs. get_or xs c.args.id.0 None) (sym c.deref.ensures.value) ∙ sym c.in-Some.ensures) in
    let took = c.try_remove.ensures in
    let some : IsSome c.try_remove.result = ap is_some took.value ∙ c.self.invariant.indexed.there c.args.id.0 c.in-Some.key at in
    ap (λ (k : ℕ). by_number (kept (slice_set c.self.inside.index.items k None) c.try_remove.new.self)) c.from.ensures
    ∙ remove_is 4096 c.self.inside.index.items c.self.inside.slab c.self.invariant.indexed c.try_remove.new.self c.args.id.0 c.in-Some.key at
    took.updates (on_some c.try_remove.result _ took.len some) took.capacity
    ∙ ap (λ m. map.remove m c.args.id.0) c.self.view_is

pub returns-in-None-clause-value : goal.returns-in-None-clause-value
returns-in-None-clause-value c =
    let none = (ap (λ xs. get_or xs c.args.id.0 None) (sym c.deref.ensures.value) ∙ sym c.in-None.ensures) in
    sym (node_at c.self.inside.index.items c.self.inside.slab c.args.id.0 ∙ ap (kept_at c.self.inside.slab) none)
    ∙ ap (λ m. map.get m c.args.id.0) c.self.view_is

pub returns-in-None-clause-removed : goal.returns-in-None-clause-removed
returns-in-None-clause-removed c =
    let none = (ap (λ xs. get_or xs c.args.id.0 None) (sym c.deref.ensures.value) ∙ sym c.in-None.ensures) in
    absurd (let no = ap is_some (sym (ap (λ m. map.get m c.args.id.0) c.self.view_is) ∙ node_at c.self.inside.index.items c.self.inside.slab c.args.id.0 ∙ ap (kept_at c.self.inside.slab) none) in let yes = c.requires in cc)

pub returns-in-None-clause-bound : goal.returns-in-None-clause-bound
returns-in-None-clause-bound c =
    let none = (ap (λ xs. get_or xs c.args.id.0 None) (sym c.deref.ensures.value) ∙ sym c.in-None.ensures) in
    absurd (let no = ap is_some (sym (ap (λ m. map.get m c.args.id.0) c.self.view_is) ∙ node_at c.self.inside.index.items c.self.inside.slab c.args.id.0 ∙ ap (kept_at c.self.inside.slab) none) in let yes = c.requires in cc)
