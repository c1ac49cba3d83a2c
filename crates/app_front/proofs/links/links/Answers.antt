use Rattle.std.proofs.Common.{◌≡◌, ◌-◌, arith}
use Rattle.std.proofs.lemmas.Result.{err_from_is_err_and}
use Rattle.sed_wire.proofs.Rows.{no_front}
use Rattle.sed_wire.specs.Leaves.{u2}
use Rattle.app_front.specs.LinkForm as form
use Rattle.app_front.proofs.EndedRows.{end_left, more_left, no_number_left, none_left}
use Rattle.app_front.proofs.links.links.Goals as goal

pub loop-init : goal.loop-init
unfolding form.links
loop-init c =
    let all : c.args.most - 0 ≡ c.args.most = omega arith in
    rw (c.new-items.ensures.items, all) (no_front _)

pub returns-in_err-from : goal.returns-in_err-from
unfolding form.links u2
returns-in_err-from c =
    let p = err_from_is_err_and c.from_residual.result c.from_residual.ensures.1 in
    rw (p.1, p.2) (no_number_left (λ k. k.from) form.link_behind form.links_begin _ _ _ _ _ c.in_err-from.field-0.0 _ c.loop-test.true c.in_err-from.ensures c.loop.invariant)

pub returns-then-from : goal.returns-then-from
unfolding form.links u2
returns-then-from c =
    rw c.new.ensures (end_left (λ k. k.from) form.link_behind form.links_begin _ _ _ _ _ _ _ c.loop-test.true c.in_ok-from.ensures c.if-from.true c.loop.invariant)

pub returns-in_err-next : goal.returns-in_err-next
unfolding form.links u2
returns-in_err-next c =
    let p = err_from_is_err_and c.from_residual-in_err-next.result c.from_residual-in_err-next.ensures.1 in
    rw (p.1, p.2) (none_left (λ k. k.from) form.link_behind form.links_begin _ _ _ _ _ _ _ c.in_err-next.field-0.0 _ c.loop-test.true c.in_ok-from.ensures c.if-from.false c.in_err-next.ensures c.loop.invariant)

pub loop-preserved : goal.loop-preserved
unfolding form.links u2
loop-preserved c =
    rw c.in_ok-push.ensures.items (more_left (λ k. k.from) form.link_behind form.links_begin _ _ _ _ _ _ _ _ _ c.loop-test.true c.in_ok-from.ensures c.if-from.false c.in_ok-next.ensures c.loop.invariant)
