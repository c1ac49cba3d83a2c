use Rattle.std.proofs.Common.{ℕ, sym, subst}
use Rattle.sed_engine.specs.Code.{Meaning}
use Rattle.app_front.specs.declared.rows.FileRow.{FileRow}
use Rattle.comp_tree.proofs.LeftLemmas.{IsLeft, left_first, left_last, left_next, none_left}
use Rattle.app_reader.proofs.passed.has_much_data.Goals as goal

abbrev size_of : Meaning → FileRow → ℕ
size_of m r = m.data_size r.kind.0

pub loop-row-init : goal.loop-row-init
loop-row-init g c =
    let size = size_of (g.E.Engine.meaning c.args.engine.now) in
    let limit = g.E.Engine.limit c.args.engine.now in
    subst (IsLeft size limit c.args.rows.now 0) (sym c.data_limit-left.ensures) (left_first size limit c.args.rows.now)

pub loop-row-preserved : goal.loop-row-preserved
loop-row-preserved g c =
    left_next (size_of (g.E.Engine.meaning c.args.engine.now)) (g.E.Engine.limit c.args.engine.now) c.args.rows.now c.loop-row.row-index c.loop-row.left c.data_size-size.result c.row-item.result
    c.loop-row.invariant c.loop-row-test.true c.row-item.is c.data_size-size.ensures c.if-size-left.false

pub returns-then-size-left : goal.returns-then-size-left
returns-then-size-left g c =
    none_left (size_of (g.E.Engine.meaning c.args.engine.now)) (g.E.Engine.limit c.args.engine.now) c.args.rows.now c.loop-row.row-index c.loop-row.left c.data_size-size.result c.row-item.result
    c.loop-row.invariant c.loop-row-test.true c.row-item.is c.data_size-size.ensures c.if-size-left.true

pub returns : goal.returns
returns g c =
    left_last (size_of (g.E.Engine.meaning c.args.engine.now)) (g.E.Engine.limit c.args.engine.now) c.args.rows.now c.loop-row.row-index c.loop-row.left c.loop-row.invariant c.loop-row-test.false
