use Rattle.std.proofs.Common.{sym, ap, subst, ◌∙◌}
use Rattle.std.specs.Prelude.{nat_lt}
use Rattle.comp_tree.proofs.LeftLemmas.{IsLeft, left_first, left_last, left_next, none_left}
use Rattle.comp_tree.proofs.SizeLemmas.{loaded_sum, size_of}
use Rattle.comp_tree.proofs.sizes.passes_limit.Goals as goal

pub loop-entry-init : goal.loop-entry-init
loop-entry-init g c =
    let size = size_of (g.E.Engine.meaning c.args.engine.now) in
    let limit = g.E.Engine.limit c.args.engine.now in
    subst (IsLeft size limit c.args.entries.now 0) (sym c.data_limit-left.ensures) (left_first size limit c.args.entries.now)

pub loop-entry-preserved : goal.loop-entry-preserved
loop-entry-preserved g c =
    left_next (size_of (g.E.Engine.meaning c.args.engine.now)) (g.E.Engine.limit c.args.engine.now) c.args.entries.now c.loop-entry.entry-index c.loop-entry.left c.data_size-size.result c.entry-item.result
    c.loop-entry.invariant c.loop-entry-test.true c.entry-item.is c.data_size-size.ensures c.if-size-left.false

pub returns-then-size-left : goal.returns-then-size-left
returns-then-size-left g c =
    let m = g.E.Engine.meaning c.args.engine.now in
    let limit = g.E.Engine.limit c.args.engine.now in
    none_left (size_of m) limit c.args.entries.now c.loop-entry.entry-index c.loop-entry.left c.data_size-size.result c.entry-item.result
    c.loop-entry.invariant c.loop-entry-test.true c.entry-item.is c.data_size-size.ensures c.if-size-left.true
    ∙ ap (nat_lt limit) (sym (loaded_sum m c.args.entries.now c.requires))

pub returns : goal.returns
returns g c =
    let m = g.E.Engine.meaning c.args.engine.now in
    let limit = g.E.Engine.limit c.args.engine.now in
    left_last (size_of m) limit c.args.entries.now c.loop-entry.entry-index c.loop-entry.left c.loop-entry.invariant c.loop-entry-test.false
    ∙ ap (nat_lt limit) (sym (loaded_sum m c.args.entries.now c.requires))
