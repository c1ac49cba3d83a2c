use Rattle.kit_sources.proofs.One.{Grammar, Listed, source_one, all_one}
use Rattle.kit_sources.proofs.laws.what_is_read_is_one.Goals as goal

pub returns-clause-kits : goal.returns-clause-kits
returns-clause-kits c =
    let g : Grammar = record {
      tokens = c.tokens_are_one.ensures;
      place = c.fault_is_one.ensures;
      not_both = c.no_tokens_where_it_faults.ensures;
      unit = c.unit_is_one.ensures;
      token = c.fault_is_one-2.ensures.one;
      none = c.fault_is_one-2.ensures.none;
    } in
    let l : Listed = record {
      manifest = c.text_is_one.ensures.manifest;
      text = c.text_is_one.ensures.refusal;
      not_both = c.text_is_one.ensures.not_both;
      order = c.list_is_one.ensures.order;
      list = c.list_is_one.ensures.refusal;
      unordered = c.list_is_one.ensures.not_both;
    } in
    λ names reads others end other h k agree. all_one g l names reads others end other h k agree

pub returns-clause-source : goal.returns-clause-source
returns-clause-source c =
    let g : Grammar = record {
      tokens = c.tokens_are_one.ensures;
      place = c.fault_is_one.ensures;
      not_both = c.no_tokens_where_it_faults.ensures;
      unit = c.unit_is_one.ensures;
      token = c.fault_is_one-2.ensures.one;
      none = c.fault_is_one-2.ensures.none;
    } in
    λ name reads others end other h k agree. source_one g name reads others end other h k agree
