use Rattle.std.specs.Prelude.{max}
use Rattle.std.proofs.Common.{suc, ◌+◌, [], ◌∷◌, ◌++◌, List, ap, ◌∙◌, sym, arith}
use Rattle.sed_typed.specs.Height.{height_of, link_height}
use Rattle.sed_typed.specs.Kinds.{kind_of}
use Rattle.scode_ops.specs.declared.op.Op.{Op}
use Rattle.scode_ops.specs.declared.op.Op.TheVariants as op
use Rattle.scode_emit.specs.Code as code
use Rattle.scode_emit.specs.Instructions as meant
use Rattle.scode_emit.specs.Lists.{args_code, args_size, behind_code, behind_size}
use Rattle.scode_emit.specs.Rows.{seen}
use Rattle.scode_emit.specs.Sizes as sizes
use Rattle.scode_emit.proofs.RowLemmas.{args_hidden, args_code_hidden, links_hidden, links_code_hidden, heights, heights_hidden, link_heights, link_heights_hidden, whole, appended}
use Rattle.scode_emit.proofs.expressions.+expressions.Goals as goal

pub emit_expr-emit_call-requires : goal.emit_expr-emit_call-requires
emit_expr-emit_call-requires t c =
    let w = seen c.args.site.now in
    let a = ap (sizes.expr_size w) c.in-Call.is ∙ ap (λ n. n + 3) (args_hidden w c.in-Call.args) in
    let b = ap (args_size w) c.deref-in-Call.ensures.value in
    let h = ap height_of c.in-Call.is ∙ ap (λ n. suc n) (heights_hidden c.in-Call.args) in
    let g = ap heights c.deref-in-Call.ensures.value in
    (omega (arith, h, g, c.decreases), (c.requires.room, omega (arith, a, b, c.requires.fits)))

pub emit_expr-emit_call-requires-in-Super : goal.emit_expr-emit_call-requires-in-Super
emit_expr-emit_call-requires-in-Super t c =
    let w = seen c.args.site.now in
    let a = ap (sizes.expr_size w) c.in-Super.is ∙ ap (λ n. 2 + n + 3) (args_hidden w c.in-Super.args) in
    let b = ap (args_size w) c.deref-in-Super.ensures.value in
    let h = ap height_of c.in-Super.is ∙ ap (λ n. suc n) (heights_hidden c.in-Super.args) in
    let g = ap heights c.deref-in-Super.ensures.value in
    (omega (arith, h, g, c.decreases), (c.requires.room, omega (arith, a, b, c.requires.fits)))

pub emit_expr-emit_chain-requires : goal.emit_expr-emit_chain-requires
emit_expr-emit_chain-requires t c =
    let w = seen c.args.site.now in
    let head = c.in-Chain.head.value in
    let a = ap (sizes.expr_size w) c.in-Chain.is
    ∙ ap (λ n. sizes.expr_size w head + n) (links_hidden w (kind_of head) c.in-Chain.links) in
    let b = ap (sizes.expr_size w) c.deref-in-Chain.ensures in
    let d = ap (λ e. behind_size w (kind_of e) c.deref-in-Chain-2.result.now) c.deref-in-Chain.ensures
    ∙ ap (behind_size w (kind_of head)) c.deref-in-Chain-2.ensures.value in
    let h = ap height_of c.in-Chain.is ∙ ap (λ n. suc (max (height_of head) n)) (link_heights_hidden c.in-Chain.links) in
    let i = ap height_of c.deref-in-Chain.ensures in
    let g = ap link_heights c.deref-in-Chain-2.ensures.value in
    (omega (arith, h, i, g, c.decreases), (c.requires.room, omega (arith, a, b, d, c.requires.fits)))

pub emit_expr-returns-in-Call : goal.emit_expr-returns-in-Call
emit_expr-returns-in-Call t c =
    let w = seen c.args.site.now in
    let call : List Op → List Op = λ ops. ops ++ op.Call c.in-Call.method ∷ [] in
    whole c.emit_call.result _ _ _ _ c.emit_call.ensures
    (ap (code.expr_code w c.args.at) c.in-Call.is
    ∙ ap call (args_code_hidden w c.args.at c.in-Call.args ∙ ap (args_code w c.args.at) (sym c.deref-in-Call.ensures.value)))

pub emit_expr-returns-in_ok-put-in-Super : goal.emit_expr-returns-in_ok-put-in-Super
emit_expr-returns-in_ok-put-in-Super t c =
    let w = seen c.args.site.now in
    let call : List Op → List Op = λ ops. op.Load 0 ∷ (ops ++ op.Call c.in-Super.method ∷ []) in
    appended c.emit_call-in-Super.result _ _ _ (op.Load 0 ∷ []) _ _ c.emit_call-in-Super.ensures c.in_ok-put-in-Super.ensures
    (ap (code.expr_code w c.args.at) c.in-Super.is
    ∙ ap call (args_code_hidden w (c.args.at + 2) c.in-Super.args ∙ ap (args_code w (c.args.at + 2)) (sym c.deref-in-Super.ensures.value)))

pub emit_expr-returns-in-Chain : goal.emit_expr-returns-in-Chain
emit_expr-returns-in-Chain t c =
    let w = seen c.args.site.now in
    let head = c.in-Chain.head.value in
    let next = c.args.at + sizes.expr_size w head in
    let links : List Op → List Op = λ ops. code.expr_code w c.args.at head ++ ops in
    whole c.emit_chain.result _ _ _ _ c.emit_chain.ensures
    (ap (code.expr_code w c.args.at) c.in-Chain.is
    ∙ ap links (links_code_hidden w next (kind_of head) c.in-Chain.links ∙ ap (behind_code w next (kind_of head)) (sym c.deref-in-Chain-2.ensures.value))
    ∙ ap (λ e. code.expr_code w c.args.at e ++ behind_code w (c.args.at + sizes.expr_size w e) (kind_of e) c.deref-in-Chain-2.result.now) (sym c.deref-in-Chain.ensures))

pub emit_link-emit_args-requires : goal.emit_link-emit_args-requires
emit_link-emit_args-requires t c =
    let w = seen c.args.site.now in
    let a = ap (sizes.link_size w c.args.kind) c.in-Invoke.is
    ∙ ap (λ n. n + meant.invoke_size w c.in-Invoke.method) (args_hidden w c.in-Invoke.args) in
    let b = ap (args_size w) c.deref.ensures.value in
    let h = ap link_height c.in-Invoke.is ∙ heights_hidden c.in-Invoke.args in
    let g = ap heights c.deref.ensures.value in
    (omega (arith, h, g, c.decreases), (c.requires.room, omega (arith, a, b, c.requires.fits)))

pub emit_link-emit_args-requires-in-TextCall : goal.emit_link-emit_args-requires-in-TextCall
emit_link-emit_args-requires-in-TextCall t c =
    let w = seen c.args.site.now in
    let a = ap (sizes.link_size w c.args.kind) c.in-TextCall.is ∙ ap (λ n. n + 1) (args_hidden w c.in-TextCall.args) in
    let b = ap (args_size w) c.deref-in-TextCall.ensures.value in
    let h = ap link_height c.in-TextCall.is ∙ heights_hidden c.in-TextCall.args in
    let g = ap heights c.deref-in-TextCall.ensures.value in
    (omega (arith, h, g, c.decreases), (c.requires.room, omega (arith, a, b, c.requires.fits)))

pub emit_link-returns-in_ok-emit_args-in-Invoke : goal.emit_link-returns-in_ok-emit_args-in-Invoke
emit_link-returns-in_ok-emit_args-in-Invoke t c =
    let w = seen c.args.site.now in
    let invoke : List Op → List Op = λ ops. ops ++ meant.invoke_op w c.args.kind c.in-Invoke.method ∷ [] in
    appended c.put-in-Invoke.result _ _ _ _ _ _ c.put-in-Invoke.ensures c.in_ok-emit_args-in-Invoke.ensures
    (ap (code.link_code w c.args.at c.args.kind) c.in-Invoke.is
    ∙ ap invoke (args_code_hidden w c.args.at c.in-Invoke.args ∙ ap (args_code w c.args.at) (sym c.deref.ensures.value))
    ∙ ap (λ (o : Op). args_code w c.args.at c.deref.result.now ++ o ∷ []) (sym c.invoke_op.ensures))

pub emit_link-returns-in_ok-emit_args-in-TextCall : goal.emit_link-returns-in_ok-emit_args-in-TextCall
emit_link-returns-in_ok-emit_args-in-TextCall t c =
    let w = seen c.args.site.now in
    let call : List Op → List Op = λ ops. ops ++ meant.text_op c.in-TextCall.call ∷ [] in
    appended c.put-in-TextCall.result _ _ _ _ _ _ c.put-in-TextCall.ensures c.in_ok-emit_args-in-TextCall.ensures
    (ap (code.link_code w c.args.at c.args.kind) c.in-TextCall.is
    ∙ ap call (args_code_hidden w c.args.at c.in-TextCall.args ∙ ap (args_code w c.args.at) (sym c.deref-in-TextCall.ensures.value))
    ∙ ap (λ (o : Op). args_code w c.args.at c.deref-in-TextCall.result.now ++ o ∷ []) (sym c.text_op.ensures))
