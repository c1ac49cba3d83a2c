use Rattle.std.proofs.Common.{max, ap, ◌∙◌, arith}
use Rattle.scode_entries.specs.Stack as stack
use Rattle.scode_entries.specs.StackLists.{block_stack}
use Rattle.scode_entries.proofs.StackRows.{stmts_hidden}
use Rattle.scode_entries.proofs.stack.+stmt_stacks.Goals as goal

pub stmt_stack-returns-in-Block : goal.stmt_stack-returns-in-Block
stmt_stack-returns-in-Block t c =
    let a = ap stack.stmt_stack c.in-Block.is ∙ stmts_hidden c.in-Block.all in
    let b = ap block_stack c.deref.ensures.value in
    omega (arith, a, b, c.block_stack.ensures)

pub stmt_stack-returns-in-Switch : goal.stmt_stack-returns-in-Switch
stmt_stack-returns-in-Switch t c =
    let a = ap stack.stmt_stack c.in-Switch.is ∙ ap (λ n. max (max 2 (stack.expr_stack c.in-Switch.e)) n) (stmts_hidden c.in-Switch.all) in
    let b = ap block_stack c.deref-in-Switch.ensures.value in
    omega (arith, a, b, c.expr_stack-in-Switch.ensures, c.max-in-Switch.ensures, c.block_stack-in-Switch.ensures, c.max-in-Switch-2.ensures)
