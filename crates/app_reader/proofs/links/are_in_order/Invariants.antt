use Rattle.app_reader.proofs.Linking.{OrderTo}
use Rattle.app_reader.proofs.links.are_in_order.Given as goal

abbrev pub invariant-loop-place : goal.invariant-loop-place
invariant-loop-place l = OrderTo l.place l.links
