use Rattle.printed_app.proofs.Sequence.{stops, then_put}
use Rattle.printed_app.proofs.summary.put_summary.Goals as goal

pub returns-in_err-put_count : goal.returns-in_err-put_count
returns-in_err-put_count g c = stops _ c.in_err-put_count.ensures c.from_residual.ensures.0

pub returns-in_err-put_count-2 : goal.returns-in_err-put_count-2
returns-in_err-put_count-2 g c =
    then_put c.in_ok-put_count.ensures
    (stops _ c.in_err-put_count-2.ensures c.from_residual-in_err-put_count-2.ensures.0)

pub returns-in_err-put_count-3 : goal.returns-in_err-put_count-3
returns-in_err-put_count-3 g c =
    then_put c.in_ok-put_count.ensures (then_put c.in_ok-put_count-2.ensures
    (stops _ c.in_err-put_count-3.ensures c.from_residual-in_err-put_count-3.ensures.0))

pub returns-in_err-put_count-4 : goal.returns-in_err-put_count-4
returns-in_err-put_count-4 g c =
    then_put c.in_ok-put_count.ensures (then_put c.in_ok-put_count-2.ensures (then_put c.in_ok-put_count-3.ensures
    (stops _ c.in_err-put_count-4.ensures c.from_residual-in_err-put_count-4.ensures.0)))

pub returns : goal.returns
returns g c =
    then_put c.in_ok-put_count.ensures
    (then_put c.in_ok-put_count-2.ensures (then_put c.in_ok-put_count-3.ensures
    (then_put c.in_ok-put_count-4.ensures c.put_sessions.ensures)))
