use Rattle.std.proofs.Common.{◌≡◌, map}
use Rattle.std.specs.List.{range_with_len}
use Rattle.sed_program.specs.Tables.{declared_in}
use Rattle.sed_program.proofs.tables.members_of.Given as goal

-- the classes so far
abbrev pub invariant-loop-class : goal.invariant-loop-class
invariant-loop-class l = l.all.items ≡ map (declared_in l.ordered) (range_with_len 0 l.class)
