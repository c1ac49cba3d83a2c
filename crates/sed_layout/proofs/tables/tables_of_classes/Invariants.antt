use Rattle.std.proofs.Common.{◌≡◌, map}
use Rattle.std.specs.List.{range_with_len}
use Rattle.sed_layout.specs.MethodTables.{table_of}
use Rattle.sed_layout.proofs.tables.tables_of_classes.Given as goal

abbrev pub invariant-loop-class : goal.invariant-loop-class
invariant-loop-class l = l.all.items ≡ map (table_of l.program) (range_with_len 0 l.class)
