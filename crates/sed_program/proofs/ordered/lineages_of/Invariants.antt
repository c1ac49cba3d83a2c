use Rattle.std.proofs.Common.{◌≡◌, map}
use Rattle.std.specs.List.{range_with_len}
use Rattle.sed_classes.specs.Bases.{lineage}
use Rattle.sed_program.proofs.ordered.lineages_of.Given as goal

-- the classes so far
abbrev pub invariant-loop-class : goal.invariant-loop-class
invariant-loop-class l = l.all.items ≡ map (lineage l.based) (range_with_len 0 l.class)
