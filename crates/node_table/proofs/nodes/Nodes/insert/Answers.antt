use Rattle.std.proofs.Common.{ℕ, Some, sym, ap, subst, ◌∙◌, slice_set}
use Rattle.std.specs.FinMap as map
use Rattle.node_table.specs.Indexed.{kept, by_number}
use Rattle.node_table.specs.Taken.{IsMarked}
use Rattle.node_table.proofs.IndexLemmas.{has_room, none_here, indexed_insert, insert_is}
use Rattle.node_table.proofs.MarkLemmas.{marked_put}
use Rattle.node_table.proofs.nodes.Nodes.insert.Goals as goal

pub insert_reserved-key-requires : goal.insert_reserved-key-requires
insert_reserved-key-requires c =
    has_room 4096 c.self.inside.index.items c.self.inside.slab c.self.invariant.indexed c.args.id.0 c.requires.bound (ap (λ m. map.get m c.args.id.0) c.self.view_is ∙ c.requires.free)

pub invariant_of-self : goal.invariant_of-self
invariant_of-self c =
    let free = none_here 4096 c.self.inside.index.items c.self.inside.slab c.self.invariant.indexed c.args.id.0 (ap (λ m. map.get m c.args.id.0) c.self.view_is ∙ c.requires.free) in
    let put = c.insert_reserved-key.ensures in
    subst (λ (k : ℕ). IsMarked 4096 (slice_set c.self.inside.index.items k (Some c.insert_reserved-key.result)) c.insert_reserved-key.new.self c.take.new.self) (sym c.from.ensures)
    (record {
      indexed = indexed_insert 4096 c.self.inside.index.items c.self.inside.slab c.self.invariant.indexed c.insert_reserved-key.new.self c.args.id.0 c.insert_reserved-key.result c.args.node
          c.requires.bound free put.was_vacant put.updates put.len put.capacity;
      marked = marked_put 4096 c.self.inside.index.items c.self.inside.slab c.self.inside.taken c.self.invariant c.take.new.self c.args.id.0 c.insert_reserved-key.result c.requires.bound c.take.ensures.same c.take.ensures.others;
    })

pub returns : goal.returns
returns c =
    let free = none_here 4096 c.self.inside.index.items c.self.inside.slab c.self.invariant.indexed c.args.id.0 (ap (λ m. map.get m c.args.id.0) c.self.view_is ∙ c.requires.free) in
    let put = c.insert_reserved-key.ensures in
    ap (λ (k : ℕ). by_number (kept (slice_set c.self.inside.index.items k (Some c.insert_reserved-key.result)) c.insert_reserved-key.new.self)) c.from.ensures
    ∙ insert_is 4096 c.self.inside.index.items c.self.inside.slab c.self.invariant.indexed c.insert_reserved-key.new.self c.args.id.0 c.insert_reserved-key.result c.args.node
    c.requires.bound free put.was_vacant put.updates put.len put.capacity
    ∙ ap (λ m. map.insert m c.args.id.0 c.args.node) c.self.view_is
