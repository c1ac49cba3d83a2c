use Rattle.std.specs.Prelude.{max}
use Rattle.std.proofs.Common.{◌≡◌, ◌+◌, ◌*◌, ◌++◌, ◌≤◌, drop}
use Rattle.sed_typed.specs.Height.{stmt_height}
use Rattle.scode_emit.specs.Lists.{block_size}
use Rattle.scode_entries.specs.MarkLists.{block_marks, case_marks}
use Rattle.scode_emit.specs.Rows.{seen}
use Rattle.scode_emit.proofs.RowLemmas.{stmt_heights}
use Rattle.scode_entries.proofs.statement_marks.+statement_marks.Given as goal

abbrev pub decreases-mark_stmt : goal.decreases-mark_stmt
decreases-mark_stmt l = 4 * stmt_height l.s.now

abbrev pub decreases-mark_block : goal.decreases-mark_block
decreases-mark_block l = 4 * stmt_heights l.all.now + 1

abbrev pub decreases-mark_cases : goal.decreases-mark_cases
decreases-mark_cases l = 4 * stmt_heights l.all.now + 1

abbrev pub decreases-mark_switch : goal.decreases-mark_switch
decreases-mark_switch l = 4 * stmt_heights l.all.now + 2

abbrev pub decreases-mark_if : goal.decreases-mark_if
decreases-mark_if l = 4 * max (stmt_height l.met.now) (stmt_height l.unmet.now) + 1

abbrev pub decreases-mark_while : goal.decreases-mark_while
decreases-mark_while l = 4 * stmt_height l.body.now + 1

abbrev pub decreases-mark_do : goal.decreases-mark_do
decreases-mark_do l = 4 * stmt_height l.body.now + 1

abbrev pub decreases-mark_for : goal.decreases-mark_for
decreases-mark_for l = 4 * stmt_height l.body.now + 1

abbrev pub invariant-mark_block-loop-s : goal.invariant-mark_block-loop-s
invariant-mark_block-loop-s l = record {
  marks : l.marks.items ++ block_marks (seen l.site) l.place (drop l.s-index l.all)
      ≡ l.initial.marks.items ++ block_marks (seen l.site) l.fn.at l.all;
  place : l.place + block_size (seen l.site) (drop l.s-index l.all) ≡ l.fn.at + block_size (seen l.site) l.all;
  inside : stmt_heights (drop l.s-index l.all) ≤ stmt_heights l.all;
}

abbrev pub invariant-mark_cases-loop-s : goal.invariant-mark_cases-loop-s
invariant-mark_cases-loop-s l = record {
  marks : l.marks.items ++ case_marks (seen l.site) l.place (drop l.s-index l.all)
      ≡ l.initial.marks.items ++ case_marks (seen l.site) l.fn.at l.all;
  place : l.place + block_size (seen l.site) (drop l.s-index l.all) ≡ l.fn.at + block_size (seen l.site) l.all;
  inside : stmt_heights (drop l.s-index l.all) ≤ stmt_heights l.all;
}
