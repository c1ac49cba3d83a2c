use Rattle.std.proofs.Common.{◌≡◌, true, subst, sym}
use Rattle.std.specs.List.{All}
use Rattle.sub_table.specs.Link.{Link}
use Rattle.sub_table.specs.Links.{is_before}
use Rattle.sub_table.proofs.KeptLemmas.{before_here}
use Rattle.sub_table.proofs.links.Links.from_slice.Goals as goal

pub push-requires-clause-order : goal.push-requires-clause-order
push-requires-clause-order c =
    subst (All (λ (k : Link). is_before k c.l-item.result ≡ true)) (sym c.loop-l.invariant)
    (before_here c.args.links.now c.loop-l.l-index c.l-item.result c.requires.order c.loop-l-test.true (sym c.l-item.is))
