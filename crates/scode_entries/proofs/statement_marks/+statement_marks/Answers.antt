use Rattle.std.specs.Prelude.{max}
use Rattle.std.proofs.Common.{ℕ, suc, ◌+◌, [], ◌∷◌, ◌++◌, List, ap, ◌∙◌, sym, arith}
use Rattle.sed_typed.specs.Height.{height_of, stmt_height}
use Rattle.scode_entries.specs.declared.marks.Mark.{Mark}
use Rattle.scode_entries.specs.Entries as entries
use Rattle.scode_emit.specs.Lists.{block_size}
use Rattle.scode_entries.specs.MarkLists.{block_marks, switch_marks}
use Rattle.scode_emit.specs.Rows.{seen}
use Rattle.scode_emit.specs.Sizes as sizes
use Rattle.scode_emit.proofs.RowLemmas.{stmts_hidden, stmt_heights, stmt_heights_hidden}
use Rattle.scode_entries.proofs.MarkRows.{stmts_marks_hidden, cases_marks_hidden, marked}
use Rattle.scode_entries.proofs.statement_marks.+statement_marks.Goals as goal

pub mark_stmt-mark_block-requires : goal.mark_stmt-mark_block-requires
mark_stmt-mark_block-requires t c =
    let w = seen c.args.site.now in
    let a = ap (sizes.stmt_size w) c.in-Block.is ∙ stmts_hidden w c.in-Block.all in
    let b = ap (block_size w) c.deref.ensures.value in
    let h = ap stmt_height c.in-Block.is ∙ ap (λ n. suc n) (stmt_heights_hidden c.in-Block.all) in
    let g = ap stmt_heights c.deref.ensures.value in
    (omega (arith, h, g, c.decreases), omega (arith, a, b, c.requires))

pub mark_stmt-mark_switch-requires : goal.mark_stmt-mark_switch-requires
mark_stmt-mark_switch-requires t c =
    let w = seen c.args.site.now in
    let e = c.in-Switch.e in
    let tests = sizes.tests_size c.in-Switch.labels.items in
    let a = ap (sizes.stmt_size w) c.in-Switch.is ∙ ap (λ n. sizes.expr_size w e + 2 + tests + 3 + n) (stmts_hidden w c.in-Switch.all) in
    let b = ap sizes.tests_size c.deref-in-Switch.ensures.value in
    let d = ap (block_size w) c.deref-in-Switch-2.ensures.value in
    let h = ap stmt_height c.in-Switch.is ∙ ap (λ n. suc (max (height_of e) n)) (stmt_heights_hidden c.in-Switch.all) in
    let g = ap stmt_heights c.deref-in-Switch-2.ensures.value in
    (omega (arith, h, g, c.decreases), omega (arith, a, b, d, c.requires))

pub mark_stmt-returns-in-Block : goal.mark_stmt-returns-in-Block
mark_stmt-returns-in-Block t c =
    let w = seen c.args.site.now in
    marked c.mark_block.result _ _ _ _ c.mark_block.ensures
    (ap (entries.stmt_marks w c.args.at) c.in-Block.is ∙ stmts_marks_hidden w c.args.at c.in-Block.all
    ∙ ap (block_marks w c.args.at) (sym c.deref.ensures.value))

pub mark_stmt-returns-in-Switch : goal.mark_stmt-returns-in-Switch
mark_stmt-returns-in-Switch t c =
    let w = seen c.args.site.now in
    let e = c.in-Switch.e in
    let labels = c.in-Switch.labels.items in
    let first = c.args.at + sizes.expr_size w e + 2 + sizes.tests_size labels + 3 in
    let cases : List Mark → List Mark = λ ms. entries.expr_marks w [] c.args.at e ++ ms in
    marked c.mark_switch.result _ _ _ _ c.mark_switch.ensures
    (ap (entries.stmt_marks w c.args.at) c.in-Switch.is ∙ ap cases (cases_marks_hidden w first c.in-Switch.all)
    ∙ ap (λ ls. switch_marks w c.args.at e ls c.in-Switch.all.items) (sym c.deref-in-Switch.ensures.value)
    ∙ ap (switch_marks w c.args.at e c.deref-in-Switch.result.now) (sym c.deref-in-Switch-2.ensures.value))
