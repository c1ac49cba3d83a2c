use Rattle.std.proofs.Common.{◌≡◌, length}
use Rattle.comp_tree.specs.Refusals.{ids_of}
use Rattle.comp_tree.proofs.IdsLemmas.{so_far}
use Rattle.comp_tree.proofs.order.read_ids.Given as goal

-- the ids that were read, and those that are left, are all of them
abbrev pub invariant-loop-reader : goal.invariant-loop-reader
invariant-loop-reader l = so_far l.ids l.reader ≡ ids_of l.bytes

abbrev pub decreases-loop-reader : goal.decreases-loop-reader
decreases-loop-reader l = length l.reader
