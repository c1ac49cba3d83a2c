use Rattle.std.proofs.Common.{ℕ, Option, None, is_some, sym, ap, ◌∙◌, length}
use Rattle.std.proofs.Math.ListN.{get_or}
use Rattle.std.proofs.lemmas.List.{length-replicate}
use Rattle.std.specs.Prelude.{count_by}
use Rattle.node_table.proofs.IndexLemmas.{indexed_none, none_is, none_in}
use Rattle.node_table.proofs.nodes.Nodes.new.Goals as goal

pub invariant_of-result : goal.invariant_of-result
invariant_of-result c =
    let keys = c.in_ok-index.ensures in
    record {
      indexed = indexed_none 4096 c.in_ok-index.index.items c.in_ok-slab.slab (ap length keys ∙ length-replicate {A = Option ℕ} 4096 None) (λ id. ap (λ xs. get_or xs id None) keys ∙ none_in 4096 id)
          (ap (count_by is_some) c.in_ok-slab.ensures.empty) c.in_ok-slab.ensures.capacity;
      marked = λ id. c.new.ensures id ∙ sym (ap is_some (ap (λ xs. get_or xs id None) keys ∙ none_in 4096 id));
    }

pub returns : goal.returns
returns c = none_is c.in_ok-index.index.items c.in_ok-slab.slab (λ id. ap (λ xs. get_or xs id None) c.in_ok-index.ensures ∙ none_in 4096 id)
