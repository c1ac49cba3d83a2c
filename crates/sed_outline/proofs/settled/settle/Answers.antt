use Rattle.sed_outline.proofs.Settling.{settles_more}
use Rattle.sed_outline.proofs.settled.settle.Goals as goal

pub returns : goal.returns
returns c = λ units is settles.
    settles_more units c.args.known.now settles c.args.inside.now c.args.class is
    (c.is_ready.ensures.within c.if-not-is_ready.false)
    (c.is_ready.ensures.new c.if-not-is_ready.false)
    (c.is_ready.ensures.held c.if-not-is_ready.false)
