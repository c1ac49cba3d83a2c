use Rattle.sox_events.proofs.Agreeing.{due_differs}
use Rattle.sox_events.proofs.laws.agreeing_marks_tell_what_differs.Goals as goal

pub returns : goal.returns
returns g c = λ a subs agree place id part. due_differs g.E.Engine a a subs place agree id part
