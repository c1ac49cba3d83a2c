use Rattle.std.proofs.Common.{◌+◌, ap, ◌∙◌, arith}
use Rattle.scode_emit.specs.Lists.{block_size}
use Rattle.scode_emit.specs.Rows.{seen}
use Rattle.scode_emit.specs.Sizes as sizes
use Rattle.scode_emit.proofs.RowLemmas.{stmts_hidden}
use Rattle.scode_emit.proofs.sizes.+stmt_sizes.Goals as goal

pub stmt_size-returns-in-Block : goal.stmt_size-returns-in-Block
stmt_size-returns-in-Block t c =
    let w = seen c.args.site.now in
    let a = ap (sizes.stmt_size w) c.in-Block.is ∙ stmts_hidden w c.in-Block.all in
    let b = ap (block_size w) c.deref.ensures.value in
    omega (arith, a, b, c.block_size.ensures)

pub stmt_size-returns-in-Switch : goal.stmt_size-returns-in-Switch
stmt_size-returns-in-Switch t c =
    let w = seen c.args.site.now in
    let tests = sizes.tests_size c.in-Switch.labels.items in
    let a = ap (sizes.stmt_size w) c.in-Switch.is
    ∙ ap (λ n. sizes.expr_size w c.in-Switch.e + 2 + tests + 3 + n) (stmts_hidden w c.in-Switch.all) in
    let b = ap sizes.tests_size c.deref-in-Switch.ensures.value in
    let d = ap (block_size w) c.deref-in-Switch-2.ensures.value in
    omega (arith, a, b, d, c.expr_size-in-Switch.ensures, c.tests_size.ensures, c.block_size-in-Switch.ensures, c.capped-in-Switch.ensures)
