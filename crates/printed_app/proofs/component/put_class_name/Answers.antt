use Rattle.printed_app.proofs.Sequence.{stops, then_put}
use Rattle.printed_app.proofs.component.put_class_name.Goals as goal

pub returns-in_err-put_kit : goal.returns-in_err-put_kit
returns-in_err-put_kit g c = stops _ c.in_err-put_kit.ensures c.from_residual.ensures.0

pub returns-in_err-put_bytes : goal.returns-in_err-put_bytes
returns-in_err-put_bytes g c =
    then_put c.in_ok-put_kit.ensures
    (stops _ c.in_err-put_bytes.ensures c.from_residual-in_err-put_bytes.ensures.0)

pub returns : goal.returns
returns g c =
    then_put c.in_ok-put_kit.ensures
    (then_put c.in_ok-put_bytes.ensures c.put_word.ensures)
