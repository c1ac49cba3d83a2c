use Rattle.std.proofs.Common.{◌≡◌, map}
use Rattle.std.specs.List.{range_with_len}
use Rattle.sed_program.specs.Parts.{count_of}
use Rattle.sed_program.proofs.ordered.counts_of.Given as goal

-- the classes so far
abbrev pub invariant-loop-class : goal.invariant-loop-class
invariant-loop-class l = l.all.items ≡ map (count_of l.part l.based) (range_with_len 0 l.class)
