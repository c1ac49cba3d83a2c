use Rattle.replay_log.proofs.GeneratedLemmas.{links-more, links-none}
use Rattle.replay_log.proofs.steps.add_links.Goals as goal

pub loop-j-init : goal.loop-j-init
loop-j-init c = links-none _ _ c.requires.drawn

pub loop-j-preserved : goal.loop-j-preserved
loop-j-preserved c =
    links-more _ _ _ _ _ _ c.requires.found c.loop-j.invariant c.in_ok-add_link.ensures.does
    c.in_ok-add_link.ensures.last
