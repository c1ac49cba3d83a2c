use Rattle.std.proofs.Common.{suc, max, ap, ◌∙◌, arith}
use Rattle.scode_entries.specs.Stack as stack
use Rattle.scode_entries.specs.StackLists.{args_stack, behind_stack}
use Rattle.scode_entries.proofs.StackRows.{args_hidden, links_hidden}
use Rattle.scode_entries.proofs.stack.+stacks.Goals as goal

pub expr_stack-returns-in-Call : goal.expr_stack-returns-in-Call
expr_stack-returns-in-Call t c =
    let a = ap stack.expr_stack c.in-Call.is ∙ ap (λ n. suc n) (args_hidden c.in-Call.args) in
    let b = ap args_stack c.deref-in-Call.ensures.value in
    omega (arith, a, b, c.args_stack.ensures, c.more-in-Call.ensures)

pub expr_stack-returns-in-Super : goal.expr_stack-returns-in-Super
expr_stack-returns-in-Super t c =
    let a = ap stack.expr_stack c.in-Super.is ∙ ap (λ n. suc n) (args_hidden c.in-Super.args) in
    let b = ap args_stack c.deref-in-Super.ensures.value in
    omega (arith, a, b, c.args_stack-in-Super.ensures, c.more-in-Super.ensures)

pub expr_stack-returns-in-Chain : goal.expr_stack-returns-in-Chain
expr_stack-returns-in-Chain t c =
    let a = ap stack.expr_stack c.in-Chain.is ∙ ap (λ n. max (stack.expr_stack c.in-Chain.head.value) n) (links_hidden c.in-Chain.links) in
    let b = ap stack.expr_stack c.deref-in-Chain.ensures in
    let d = ap behind_stack c.deref-in-Chain-2.ensures.value in
    omega (arith, a, b, d, c.expr_stack-in-Chain.ensures, c.links_stack.ensures, c.max-in-Chain.ensures)

pub link_stack-returns-in-Invoke : goal.link_stack-returns-in-Invoke
link_stack-returns-in-Invoke t c =
    let a = ap stack.link_stack c.in-Invoke.is ∙ ap (λ n. suc n) (args_hidden c.in-Invoke.args) in
    let b = ap args_stack c.deref.ensures.value in
    omega (arith, a, b, c.args_stack.ensures, c.more-in-Invoke.ensures)

pub link_stack-returns-in-TextCall : goal.link_stack-returns-in-TextCall
link_stack-returns-in-TextCall t c =
    let a = ap stack.link_stack c.in-TextCall.is ∙ ap (λ n. suc n) (args_hidden c.in-TextCall.args) in
    let b = ap args_stack c.deref-in-TextCall.ensures.value in
    omega (arith, a, b, c.args_stack-in-TextCall.ensures, c.more-in-TextCall.ensures)
