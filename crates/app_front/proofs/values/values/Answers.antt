use Rattle.std.proofs.lemmas.Result.{err_from_is_err_and}
use Rattle.app_front.proofs.ValueRows.{all_there, no_value_there, refused_there, value_there}
use Rattle.app_front.proofs.values.values.Goals as goal
use Rattle.app_front.proofs.values.values.Goals.{in-Some+in_ok-next-in-Some+in_ok-push-in-Some, in-None}

pub returns-in_err-next-in-Some : goal.returns-in_err-next-in-Some
returns-in_err-next-in-Some c =
    let p = err_from_is_err_and c.from_residual.result c.from_residual.ensures.1 in
    rw (p.1, p.2) (refused_there _ _ _ _ _ _ _ _ c.in_err-next-in-Some.field-0.0 c.loop-place-test.true c.config_type.ensures c.in-Some.is c.in_err-next-in-Some.ensures c.loop-place.invariant)

pub loop-place-preserved : goal.loop-place-preserved
loop-place-preserved c =
    elim c.match-config_type.branch [
      | in-Some+in_ok-next-in-Some+in_ok-push-in-Some w ↦ rw (w.items-is, w.reader-is, w.in_ok-push-in-Some.ensures.items) (value_there _ _ _ _ _ _ _ _ _ c.loop-place-test.true c.config_type.ensures w.in-Some.is w.in_ok-next-in-Some.ensures c.loop-place.invariant)
      | in-None w ↦ rw (w.items-is, w.reader-is) (no_value_there _ _ _ _ _ _ c.loop-place-test.true c.config_type.ensures w.in-None.is c.loop-place.invariant)
    ]

pub returns : goal.returns
returns c = rw c.new.ensures (all_there _ _ _ _ _ c.loop-place-test.false c.loop-place.invariant)
