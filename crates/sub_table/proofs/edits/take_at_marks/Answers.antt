use Rattle.std.proofs.Common.{not, rules}
use Rattle.std.proofs.lemmas.Fn.{filter_same}
use Rattle.sub_table.specs.Marks.{is_at_mark}
use Rattle.sub_table.proofs.edits.take_at_marks.Goals as goal

pub returns-clause-items : goal.returns-clause-items
returns-clause-items c = filter_same _ (λ l. not (is_at_mark c.args.marks.now l)) _ (λ x b f' k. search rules) _ _ c.retain.ensures.filtered
