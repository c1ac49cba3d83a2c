use Rattle.std.proofs.Common.{sym, subst}
use Rattle.sed_outline.specs.Settled.{Settles}
use Rattle.sed_outline.proofs.Settling.{settles_none}
use Rattle.sed_outline.proofs.settled.settled.Goals as goal

pub steps-init : goal.steps-init
steps-init c = λ units is. subst (Settles units) (sym c.in_ok-known.ensures) (settles_none units _)
