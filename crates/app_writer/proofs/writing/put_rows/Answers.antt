use Rattle.std.proofs.Common.{◌+◌, length, ap, arith, length-append}
use Rattle.comp_tree.specs.Held.{components_of}
use Rattle.app_parts.proofs.SoFar.{all_put, one_more}
use Rattle.app_writer.specs.Written.{row_at, rows_text}
use Rattle.app_writer.proofs.Lengths.{room-left}
use Rattle.app_writer.proofs.RowsLeft.{rows-begin, rows-end, rows-first, rows-next, rows_from}
use Rattle.app_writer.proofs.writing.put_rows.Goals as goal

pub loop-id-init : goal.loop-id-init
loop-id-init g c =
    let m = g.E.Engine.meaning c.args.tree.now.engine in
    let all = (components_of g.E.Engine c.args.tree.now).by_id in
    let fits = c.requires in
    let same = ap length (rows-first m all) in
    (rows-begin m all c.args.writer.now, omega (arith, fits, same))

pub put_row_at-requires : goal.put_row_at-requires
put_row_at-requires g c =
    let m = g.E.Engine.meaning c.args.tree.now.engine in
    let all = (components_of g.E.Engine c.args.tree.now).by_id in
    let fits = c.loop-id.invariant.1 in
    let next = ap length (rows-next m all c.loop-id.id) in
    let both = length-append (row_at m all c.loop-id.id) (rows_from m all (c.loop-id.id + 1)) in
    omega (arith, fits, next, both)

pub loop-id-preserved : goal.loop-id-preserved
loop-id-preserved g c =
    let m = g.E.Engine.meaning c.args.tree.now.engine in
    let all = (components_of g.E.Engine c.args.tree.now).by_id in
    let s = c.loop-id.invariant in
    let fits = s.1 in
    let next = ap length (rows-next m all c.loop-id.id) in
    let both = length-append (row_at m all c.loop-id.id) (rows_from m all (c.loop-id.id + 1)) in
    let left = room-left _ _ (row_at m all c.loop-id.id) c.put_row_at.ensures (omega (arith, fits, next, both)) in (
      one_more _ _ _ (rows_text m all) (rows_from m all c.loop-id.id) (row_at m all c.loop-id.id) (rows_from m all (c.loop-id.id + 1)) s.0 c.put_row_at.ensures (rows-next m all c.loop-id.id),
      omega (arith, fits, next, both, left),
    )

pub returns : goal.returns
returns g c =
    let m = g.E.Engine.meaning c.args.tree.now.engine in
    let all = (components_of g.E.Engine c.args.tree.now).by_id in
    let above = c.end_of_ids-id-end.ensures.above in
    let out = c.loop-id-test.false in
    all_put _ _ _ _ c.loop-id.invariant.0 (rows-end m all c.loop-id.id (λ id live. (let lt = above id live in omega (arith, lt, out))))
