use Rattle.std.proofs.Common.{[]}
use Rattle.printed_app.proofs.Sequence.{stops, text_is, then_put}
use Rattle.sed_node.proofs.Ends.{same_application, same_sessions}
use Rattle.sed_node.proofs.ending.put_end.Goals as goal

pub returns-in_err-put_application-clause-puts : goal.returns-in_err-put_application-clause-puts
returns-in_err-put_application-clause-puts g c = λ n stands.
    stops _ (text_is (same_application _ _ _ _ c.app.ensures.code (c.app.ensures.application n stands))
    c.in_err-put_application.ensures) c.from_residual.ensures.0

pub returns-in_err-put_application-clause-cause : goal.returns-in_err-put_application-clause-cause
returns-in_err-put_application-clause-cause g c =
    (stops [] c.in_err-put_application.ensures c.from_residual.ensures.0).cause

pub returns-clause-puts : goal.returns-clause-puts
returns-clause-puts g c = λ n stands.
    then_put (text_is (same_application _ _ _ _ c.app.ensures.code (c.app.ensures.application n stands))
    c.in_ok-put_application.ensures)
    (text_is (same_sessions c.args.ended _ _ (c.sessions.ensures n stands)) c.put_counts.ensures)

pub returns-clause-cause : goal.returns-clause-cause
returns-clause-cause g c = (then_put c.in_ok-put_application.ensures c.put_counts.ensures).cause
