use Rattle.std.proofs.Common.{◌+◌, length, ap, arith, length-append}
use Rattle.comp_tree.specs.Held.{components_of}
use Rattle.app_writer.specs.Written.{row_at}
use Rattle.app_writer.proofs.RowsLeft.{rows-end, rows-first, rows-next, rows_from}
use Rattle.app_writer.proofs.measure.rows_length.Goals as goal

pub loop-id-init : goal.loop-id-init
loop-id-init g c =
    let all = (components_of g.E.Engine c.args.tree.now).by_id in
    let first = ap length (rows-first (g.E.Engine.meaning c.args.tree.now.engine) all) in
    (omega (arith, first), omega arith)

pub loop-id-preserved : goal.loop-id-preserved
loop-id-preserved g c =
    let m = g.E.Engine.meaning c.args.tree.now.engine in
    let all = (components_of g.E.Engine c.args.tree.now).by_id in
    let s = c.loop-id.invariant in
    let so_far = s.0 in
    let few = s.1 in
    let row = c.row_length-total.ensures.length in
    let short = c.row_length-total.ensures.short in
    let next = ap length (rows-next m all c.loop-id.id) in
    let both = length-append (row_at m all c.loop-id.id) (rows_from m all (c.loop-id.id + 1)) in
    (omega (arith, so_far, row, next, both), omega (arith, few, short))

pub returns-clause-length : goal.returns-clause-length
returns-clause-length g c =
    let m = g.E.Engine.meaning c.args.tree.now.engine in
    let all = (components_of g.E.Engine c.args.tree.now).by_id in
    let so_far = c.loop-id.invariant.0 in
    let above = c.end_of_ids-id-end.ensures.above in
    let out = c.loop-id-test.false in
    let none = ap length (rows-end m all c.loop-id.id (λ id live. (let lt = above id live in omega (arith, lt, out)))) in
    omega (arith, so_far, none)

pub returns-clause-short : goal.returns-clause-short
returns-clause-short g c =
    let few = c.loop-id.invariant.1 in
    let most = c.end_of_ids-id-end.ensures.few in
    let end = c.loop-id.auto.id-end in
    omega (arith, few, most, end)
