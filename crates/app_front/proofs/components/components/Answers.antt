use Rattle.std.proofs.Common.{◌≡◌, ◌-◌, arith}
use Rattle.std.proofs.lemmas.Result.{err_from_is_err_and}
use Rattle.sed_wire.proofs.Rows.{no_front}
use Rattle.sed_wire.specs.Leaves.{u2}
use Rattle.app_front.specs.RowForm as form
use Rattle.app_front.proofs.EndedRows.{end_left, more_left, no_number_left, none_left}
use Rattle.app_front.proofs.components.components.Goals as goal

pub loop-init : goal.loop-init
unfolding form.rows
loop-init c =
    let all : c.args.most - 0 ≡ c.args.most = omega arith in
    rw (c.new-items.ensures.items, all) (no_front _)

pub returns-in_err-id : goal.returns-in_err-id
unfolding form.rows u2
returns-in_err-id c =
    let p = err_from_is_err_and c.from_residual.result c.from_residual.ensures.1 in
    rw (p.1, p.2) (no_number_left (λ r. r.id.0) (form.row_behind c.args.schema.now.classes) (form.rows_begin c.args.schema.now.classes) _ _ _ _ _ c.in_err-id.field-0.0 _ c.loop-test.true c.in_err-id.ensures c.loop.invariant)

pub returns-then-id : goal.returns-then-id
unfolding form.rows u2
returns-then-id c =
    rw c.new.ensures (end_left (λ r. r.id.0) (form.row_behind c.args.schema.now.classes) (form.rows_begin c.args.schema.now.classes) _ _ _ _ _ _ _ c.loop-test.true c.in_ok-id.ensures c.if-id.true c.loop.invariant)

pub returns-in_err-next : goal.returns-in_err-next
unfolding form.rows u2
returns-in_err-next c =
    let p = err_from_is_err_and c.from_residual-in_err-next.result c.from_residual-in_err-next.ensures.1 in
    rw (p.1, p.2) (none_left (λ r. r.id.0) (form.row_behind c.args.schema.now.classes) (form.rows_begin c.args.schema.now.classes) _ _ _ _ _ _ _ c.in_err-next.field-0.0 _ c.loop-test.true c.in_ok-id.ensures c.if-id.false c.in_err-next.ensures c.loop.invariant)

pub loop-preserved : goal.loop-preserved
unfolding form.rows u2
loop-preserved c =
    rw c.in_ok-push.ensures.items (more_left (λ r. r.id.0) (form.row_behind c.args.schema.now.classes) (form.rows_begin c.args.schema.now.classes) _ _ _ _ _ _ _ _ _ c.loop-test.true c.in_ok-id.ensures c.if-id.false c.in_ok-next.ensures c.loop.invariant)
