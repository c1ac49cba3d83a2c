use Rattle.std.proofs.Common.{◌≡◌, ◌+◌, ◌++◌, drop}
use Rattle.sed_classes.specs.Declarations.{kits_declare}
use Rattle.sed_classes.specs.Entries.{declarations}
use Rattle.sed_classes.proofs.entry.push_kits.Given as goal

-- with what the kits left would add, all is there
abbrev pub invariant-loop-before : goal.invariant-loop-before
invariant-loop-before l =
    declarations l.all.items ++ kits_declare (l.before + 1) (drop l.before l.units)
    ≡ declarations l.initial.all.items ++ kits_declare 1 l.units
