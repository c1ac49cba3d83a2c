use Rattle.std.proofs.Common.{◌≡◌, map}
use Rattle.std.specs.List.{range_with_len}
use Rattle.sed_classes.specs.Bases.{base_of}
use Rattle.sed_classes.proofs.bases.bases_of.Given as goal

-- the bases of the classes so far
abbrev pub invariant-loop-class : goal.invariant-loop-class
invariant-loop-class l = l.all.items ≡ map (base_of l.classes) (range_with_len 0 l.class)
