use Rattle.std.specs.Prelude.{max}
use Rattle.std.proofs.Common.{ℕ, suc, ◌+◌, [], ◌∷◌, ◌++◌, List, ap, ◌∙◌, sym, arith}
use Rattle.sed_typed.specs.Height.{height_of, link_height}
use Rattle.sed_typed.specs.Kinds.{kind_of}
use Rattle.scode_code.specs.Kinds.{object}
use Rattle.scode_entries.specs.declared.marks.Mark.{Mark}
use Rattle.scode_entries.specs.Below.{kinds_on}
use Rattle.scode_entries.specs.Entries as entries
use Rattle.scode_emit.specs.Instructions as meant
use Rattle.scode_emit.specs.Lists.{args_size, behind_size}
use Rattle.scode_entries.specs.MarkLists.{args_marks, behind_marks}
use Rattle.scode_emit.specs.Rows.{seen}
use Rattle.scode_emit.specs.Sizes as sizes
use Rattle.scode_emit.proofs.RowLemmas.{args_hidden, links_hidden, heights, heights_hidden, link_heights, link_heights_hidden}
use Rattle.scode_entries.proofs.MarkRows.{args_marks_hidden, links_marks_hidden, marked}
use Rattle.scode_entries.proofs.expression_marks.+marks.Goals as goal

pub mark_expr-mark_args-requires : goal.mark_expr-mark_args-requires
mark_expr-mark_args-requires t c =
    let w = seen c.args.site.now in
    let a = ap (sizes.expr_size w) c.in-Call.is ∙ ap (λ n. n + 3) (args_hidden w c.in-Call.args) in
    let b = ap (args_size w) c.deref-in-Call.ensures.value in
    let h = ap height_of c.in-Call.is ∙ ap (λ n. suc n) (heights_hidden c.in-Call.args) in
    let g = ap heights c.deref-in-Call.ensures.value in
    (omega (arith, a, b, h, g, c.decreases), omega (arith, a, b, c.requires))

pub mark_expr-mark_args-requires-in-Super : goal.mark_expr-mark_args-requires-in-Super
mark_expr-mark_args-requires-in-Super t c =
    let w = seen c.args.site.now in
    let a = ap (sizes.expr_size w) c.in-Super.is ∙ ap (λ n. 2 + n + 3) (args_hidden w c.in-Super.args) in
    let b = ap (args_size w) c.deref-in-Super.ensures.value in
    let h = ap height_of c.in-Super.is ∙ ap (λ n. suc n) (heights_hidden c.in-Super.args) in
    let g = ap heights c.deref-in-Super.ensures.value in
    (omega (arith, a, b, h, g, c.decreases), omega (arith, a, b, c.requires))

pub mark_expr-mark_chain-requires : goal.mark_expr-mark_chain-requires
mark_expr-mark_chain-requires t c =
    let w = seen c.args.site.now in
    let head = c.in-Chain.head.value in
    let a = ap (sizes.expr_size w) c.in-Chain.is
    ∙ ap (λ n. sizes.expr_size w head + n) (links_hidden w (kind_of head) c.in-Chain.links) in
    let b = ap (sizes.expr_size w) c.deref-in-Chain.ensures in
    let d = ap (λ e. behind_size w (kind_of e) c.deref-in-Chain-2.result.now) c.deref-in-Chain.ensures
    ∙ ap (behind_size w (kind_of head)) c.deref-in-Chain-2.ensures.value in
    let h = ap height_of c.in-Chain.is ∙ ap (λ n. suc (max (height_of head) n)) (link_heights_hidden c.in-Chain.links) in
    let i = ap height_of c.deref-in-Chain.ensures in
    let g = ap link_heights c.deref-in-Chain-2.ensures.value in
    (omega (arith, a, b, d, h, i, g, c.decreases), omega (arith, a, b, d, c.requires))

pub mark_expr-returns-in-Call : goal.mark_expr-returns-in-Call
mark_expr-returns-in-Call t c =
    let w = seen c.args.site.now in
    let below = kinds_on c.args.below.now in
    marked c.mark_args.result _ _ _ _ c.mark_args.ensures
    (ap (entries.expr_marks w below c.args.at) c.in-Call.is ∙ args_marks_hidden w below c.args.at c.in-Call.args
    ∙ ap (args_marks w below c.args.at) (sym c.deref-in-Call.ensures.value))

pub mark_expr-returns-in-Super : goal.mark_expr-returns-in-Super
mark_expr-returns-in-Super t c =
    let w = seen c.args.site.now in
    let below = kinds_on c.args.below.now in
    let on = object c.args.site.now.class ∷ below in
    marked c.mark_args-in-Super.result _ _ _ _ c.mark_args-in-Super.ensures
    (ap (entries.expr_marks w below c.args.at) c.in-Super.is ∙ args_marks_hidden w on (c.args.at + 2) c.in-Super.args
    ∙ ap (args_marks w on (c.args.at + 2)) (sym c.deref-in-Super.ensures.value)
    ∙ ap (λ ks. args_marks w ks (c.args.at + 2) c.deref-in-Super.result.now) (sym c.with_object.ensures))

pub mark_expr-returns-in-Chain : goal.mark_expr-returns-in-Chain
mark_expr-returns-in-Chain t c =
    let w = seen c.args.site.now in
    let below = kinds_on c.args.below.now in
    let head = c.in-Chain.head.value in
    let next = c.args.at + sizes.expr_size w head in
    let links : List Mark → List Mark = λ ms. entries.expr_marks w below c.args.at head ++ ms in
    marked c.mark_chain.result _ _ _ _ c.mark_chain.ensures
    (ap (entries.expr_marks w below c.args.at) c.in-Chain.is
    ∙ ap links (links_marks_hidden w below next (kind_of head) c.in-Chain.links ∙ ap (behind_marks w below next (kind_of head)) (sym c.deref-in-Chain-2.ensures.value))
    ∙ ap (λ e. entries.expr_marks w below c.args.at e ++ behind_marks w below (c.args.at + sizes.expr_size w e) (kind_of e) c.deref-in-Chain-2.result.now) (sym c.deref-in-Chain.ensures))

pub mark_link-mark_args-requires : goal.mark_link-mark_args-requires
mark_link-mark_args-requires t c =
    let w = seen c.args.site.now in
    let a = ap (sizes.link_size w c.args.kind) c.in-Invoke.is
    ∙ ap (λ n. n + meant.invoke_size w c.in-Invoke.field-1) (args_hidden w c.in-Invoke.args) in
    let b = ap (args_size w) c.deref.ensures.value in
    let h = ap link_height c.in-Invoke.is ∙ heights_hidden c.in-Invoke.args in
    let g = ap heights c.deref.ensures.value in
    (omega (arith, a, b, h, g, c.decreases), omega (arith, a, b, c.requires))

pub mark_link-mark_args-requires-in-TextCall : goal.mark_link-mark_args-requires-in-TextCall
mark_link-mark_args-requires-in-TextCall t c =
    let w = seen c.args.site.now in
    let a = ap (sizes.link_size w c.args.kind) c.in-TextCall.is ∙ ap (λ n. n + 1) (args_hidden w c.in-TextCall.args) in
    let b = ap (args_size w) c.deref-in-TextCall.ensures.value in
    let h = ap link_height c.in-TextCall.is ∙ heights_hidden c.in-TextCall.args in
    let g = ap heights c.deref-in-TextCall.ensures.value in
    (omega (arith, a, b, h, g, c.decreases), omega (arith, a, b, c.requires))

pub mark_link-returns-in-Invoke : goal.mark_link-returns-in-Invoke
mark_link-returns-in-Invoke t c =
    let w = seen c.args.site.now in
    let below = kinds_on c.args.below.now in
    let on = entries.above c.args.kind below in
    marked c.mark_args.result _ _ _ _ c.mark_args.ensures
    (ap (entries.link_marks w below c.args.at c.args.kind) c.in-Invoke.is ∙ args_marks_hidden w on c.args.at c.in-Invoke.args
    ∙ ap (args_marks w on c.args.at) (sym c.deref.ensures.value)
    ∙ ap (λ ks. args_marks w ks c.args.at c.deref.result.now) (sym c.above-in-Invoke.ensures))

pub mark_link-returns-in-TextCall : goal.mark_link-returns-in-TextCall
mark_link-returns-in-TextCall t c =
    let w = seen c.args.site.now in
    let below = kinds_on c.args.below.now in
    let on = entries.above c.args.kind below in
    marked c.mark_args-in-TextCall.result _ _ _ _ c.mark_args-in-TextCall.ensures
    (ap (entries.link_marks w below c.args.at c.args.kind) c.in-TextCall.is ∙ args_marks_hidden w on c.args.at c.in-TextCall.args
    ∙ ap (args_marks w on c.args.at) (sym c.deref-in-TextCall.ensures.value)
    ∙ ap (λ ks. args_marks w ks c.args.at c.deref-in-TextCall.result.now) (sym c.above-in-TextCall.ensures))
