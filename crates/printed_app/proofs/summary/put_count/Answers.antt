use Rattle.printed_app.proofs.Sequence.{stops, then_put}
use Rattle.printed_app.proofs.summary.put_count.Goals as goal

pub returns-in_err-put_bytes : goal.returns-in_err-put_bytes
returns-in_err-put_bytes g c = stops _ c.in_err-put_bytes.ensures c.from_residual.ensures.0

pub returns-in_err-put_bytes-2 : goal.returns-in_err-put_bytes-2
returns-in_err-put_bytes-2 g c =
    then_put c.in_ok-put_bytes.ensures
    (stops _ c.in_err-put_bytes-2.ensures c.from_residual-in_err-put_bytes-2.ensures.0)

pub returns-in_err-put_number : goal.returns-in_err-put_number
returns-in_err-put_number g c =
    then_put c.in_ok-put_bytes.ensures (then_put c.in_ok-put_bytes-2.ensures
    (stops _ c.in_err-put_number.ensures c.from_residual-in_err-put_number.ensures.0))

pub returns : goal.returns
returns g c =
    then_put c.in_ok-put_bytes.ensures (then_put c.in_ok-put_bytes-2.ensures
    (then_put c.in_ok-put_number.ensures c.put_bytes-3.ensures))
