use Rattle.printed_app.proofs.Sequence.{stops, then_put}
use Rattle.printed_app.proofs.application.put_application.Goals as goal

pub returns-in_err-put_components : goal.returns-in_err-put_components
returns-in_err-put_components g c = stops _ c.in_err-put_components.ensures c.from_residual.ensures.0

pub returns : goal.returns
returns g c = then_put c.in_ok-put_components.ensures c.put_links.ensures
