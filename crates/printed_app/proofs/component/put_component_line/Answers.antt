use Rattle.printed_app.proofs.Sequence.{stops, then_put}
use Rattle.printed_app.proofs.component.put_component_line.Goals as goal

pub returns-in_err-put_path : goal.returns-in_err-put_path
returns-in_err-put_path g c = stops _ c.in_err-put_path.ensures c.from_residual.ensures.0

pub returns-in_err-put_bytes : goal.returns-in_err-put_bytes
returns-in_err-put_bytes g c =
    then_put c.in_ok-put_path.ensures
    (stops _ c.in_err-put_bytes.ensures c.from_residual-in_err-put_bytes.ensures.0)

pub returns-in_err-put_class : goal.returns-in_err-put_class
returns-in_err-put_class g c =
    then_put c.in_ok-put_path.ensures (then_put c.in_ok-put_bytes.ensures
    (stops _ c.in_err-put_class.ensures c.from_residual-in_err-put_class.ensures.0))

pub returns : goal.returns
returns g c =
    then_put c.in_ok-put_path.ensures (then_put c.in_ok-put_bytes.ensures
    (then_put c.in_ok-put_class.ensures c.put_id_and_fault.ensures))
