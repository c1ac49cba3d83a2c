use Rattle.replay_log.specs.Making.{LinksAll}
use Rattle.replay_log.proofs.steps.add_links.Given as goal

abbrev pub invariant-loop-j : goal.invariant-loop-j
invariant-loop-j l = LinksAll l.fn.spec l.j l.fn.making l.making
