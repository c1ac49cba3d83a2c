use Rattle.std.proofs.Common.{sym, subst}
use Rattle.dasp_msg.specs.Sending.{CanGo}
use Rattle.dasp_msg.proofs.OfKindLemmas.{welcome_can}
use Rattle.dasp_msg.proofs.message.Msg.welcome.Goals as goal

pub returns-clause-can : goal.returns-clause-can
returns-clause-can c = subst CanGo (sym c.plain.ensures) (welcome_can c.args.to)
