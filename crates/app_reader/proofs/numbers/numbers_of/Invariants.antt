use Rattle.std.proofs.Common.{◌≡◌, take}
use Rattle.node_table.specs.Read.{numbers_in}
use Rattle.app_reader.proofs.numbers.numbers_of.Given as goal

abbrev pub invariant-loop-place : goal.invariant-loop-place
invariant-loop-place l = l.numbers.items ≡ numbers_in 0 (take l.place l.slots)
