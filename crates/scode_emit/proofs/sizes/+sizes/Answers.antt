use Rattle.std.proofs.Common.{◌+◌, ap, ◌∙◌, arith}
use Rattle.sed_typed.specs.Kinds.{kind_of}
use Rattle.scode_emit.specs.Instructions as meant
use Rattle.scode_emit.specs.Sizes as sizes
use Rattle.scode_emit.specs.Lists.{args_size, behind_size}
use Rattle.scode_emit.specs.Rows.{seen}
use Rattle.scode_emit.proofs.RowLemmas.{args_hidden, links_hidden}
use Rattle.scode_emit.proofs.sizes.+sizes.Goals as goal

pub expr_size-returns-in-Call : goal.expr_size-returns-in-Call
expr_size-returns-in-Call t c =
    let w = seen c.args.site.now in
    let a = ap (sizes.expr_size w) c.in-Call.is ∙ ap (λ n. n + 3) (args_hidden w c.in-Call.args) in
    let b = ap (args_size w) c.deref-in-Call.ensures.value in
    omega (arith, a, b, c.args_size.ensures, c.capped-in-Call.ensures)

pub expr_size-returns-in-Super : goal.expr_size-returns-in-Super
expr_size-returns-in-Super t c =
    let w = seen c.args.site.now in
    let a = ap (sizes.expr_size w) c.in-Super.is ∙ ap (λ n. 2 + n + 3) (args_hidden w c.in-Super.args) in
    let b = ap (args_size w) c.deref-in-Super.ensures.value in
    omega (arith, a, b, c.args_size-in-Super.ensures, c.capped-in-Super.ensures)

pub expr_size-returns-in-Chain : goal.expr_size-returns-in-Chain
expr_size-returns-in-Chain t c =
    let w = seen c.args.site.now in
    let head = c.in-Chain.head.value in
    let a = ap (sizes.expr_size w) c.in-Chain.is
    ∙ ap (λ n. sizes.expr_size w head + n) (links_hidden w (kind_of head) c.in-Chain.links) in
    let b = ap (sizes.expr_size w) c.deref-in-Chain.ensures in
    let d = ap (λ k. behind_size w k c.deref-in-Chain-3.result.now) (c.kind_of.ensures ∙ ap kind_of c.deref-in-Chain-2.ensures)
    ∙ ap (behind_size w (kind_of head)) c.deref-in-Chain-3.ensures.value in
    omega (arith, a, b, d, c.expr_size-in-Chain.ensures, c.links_size.ensures, c.capped-in-Chain.ensures)

pub link_size-returns-in-Invoke : goal.link_size-returns-in-Invoke
link_size-returns-in-Invoke t c =
    let w = seen c.args.site.now in
    let a = ap (sizes.link_size w c.args.kind) c.in-Invoke.is
    ∙ ap (λ n. n + meant.invoke_size w c.in-Invoke.method) (args_hidden w c.in-Invoke.args) in
    let b = ap (args_size w) c.deref.ensures.value in
    omega (arith, a, b, c.args_size.ensures, c.invoke_size.ensures, c.capped-in-Invoke.ensures)

pub link_size-returns-in-TextCall : goal.link_size-returns-in-TextCall
link_size-returns-in-TextCall t c =
    let w = seen c.args.site.now in
    let a = ap (sizes.link_size w c.args.kind) c.in-TextCall.is ∙ ap (λ n. n + 1) (args_hidden w c.in-TextCall.args) in
    let b = ap (args_size w) c.deref-in-TextCall.ensures.value in
    omega (arith, a, b, c.args_size-in-TextCall.ensures, c.capped-in-TextCall.ensures)
