use Rattle.printed_app.proofs.Sequence.{stops, then_put}
use Rattle.printed_app.proofs.properties.put_property.Goals as goal

pub returns-in_err-put_bytes : goal.returns-in_err-put_bytes
returns-in_err-put_bytes g c = stops _ c.in_err-put_bytes.ensures c.from_residual.ensures.0

pub returns : goal.returns
returns g c = then_put c.in_ok-put_bytes.ensures c.put_property_line.ensures
