use Rattle.printed_app.proofs.Sequence.{stops, then_put}
use Rattle.printed_app.proofs.lines.put_property_line.Goals as goal

pub returns-in_err-put_word : goal.returns-in_err-put_word
returns-in_err-put_word g c = stops _ c.in_err-put_word.ensures c.from_residual.ensures.0

pub returns-in_err-put_bytes : goal.returns-in_err-put_bytes
returns-in_err-put_bytes g c =
    then_put c.in_ok-put_word.ensures
    (stops _ c.in_err-put_bytes.ensures c.from_residual-in_err-put_bytes.ensures.0)

pub returns-in_err-put_value : goal.returns-in_err-put_value
returns-in_err-put_value g c =
    then_put c.in_ok-put_word.ensures (then_put c.in_ok-put_bytes.ensures
    (stops _ c.in_err-put_value.ensures c.from_residual-in_err-put_value.ensures.0))

pub returns : goal.returns
returns g c =
    then_put c.in_ok-put_word.ensures (then_put c.in_ok-put_bytes.ensures
    (then_put c.in_ok-put_value.ensures c.put_bytes-2.ensures))
