use Rattle.std.proofs.Common.{sym, ◌∙◌, ap, subst}
use Rattle.sub_table.specs.Marked.{AreRows, Marked, has_mark}
use Rattle.sub_table.proofs.MarkRowLemmas.{all_marked, all_rows}
use Rattle.sub_table.proofs.marks.LinkMarks.new.Goals as goal

pub invariant_of-result : goal.invariant_of-result
invariant_of-result c = subst AreRows (sym c.in_ok-rows.ensures) all_rows

pub returns : goal.returns
returns c = λ id place. ap (λ (rows : Marked). has_mark rows id place) c.in_ok-rows.ensures ∙ all_marked 4096 id place
