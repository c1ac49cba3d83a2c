use Rattle.std.proofs.Common.{sym, subst}
use Rattle.replay_log.specs.Making.{AddsAll}
use Rattle.replay_log.proofs.GeneratedLemmas.{adds-more, adds-none}
use Rattle.replay_log.proofs.steps.add_components.Goals as goal

pub loop-i-init : goal.loop-i-init
loop-i-init c =
    subst (AddsAll c.args.spec.now 0 c.args.making.now c.args.making.now) (sym c.new-places.ensures.items)
    (adds-none _ _ c.requires.seed)

pub loop-i-preserved : goal.loop-i-preserved
loop-i-preserved c = adds-more _ _ _ _ _ _ _ c.loop-i.invariant c.in_ok-add_component.ensures
