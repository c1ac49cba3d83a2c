use Rattle.std.proofs.lemmas.Result.{err_from_is_err_and}
use Rattle.sed_wire.proofs.Rows.{one_more, refused, last}
use Rattle.scode_image.proofs.items.times.Goals as goal

pub returns-in_err-next : goal.returns-in_err-next
returns-in_err-next g c =
    let p = err_from_is_err_and c.from_residual.result c.from_residual.ensures.1 in
    rw (p.1, p.2) (refused (λ (s : Unit {0}). g.T.Item.form) (λ s a. s) c.in_err-next.field-0.0 _ _ _ _ _ _ _ c.loop-test.true c.in_err-next.ensures c.loop.invariant)

pub loop-preserved : goal.loop-preserved
loop-preserved g c =
    rw c.in_ok-push.ensures.items (one_more (λ (s : Unit {0}). g.T.Item.form) (λ s a. s) _ _ _ _ _ _ _ _ c.loop-test.true c.in_ok-next.ensures c.loop.invariant)

pub returns : goal.returns
returns g c =
    rw c.new.ensures (last (λ (s : Unit {0}). g.T.Item.form) (λ s a. s) _ _ _ _ _ _ c.loop-test.false c.loop.invariant)
