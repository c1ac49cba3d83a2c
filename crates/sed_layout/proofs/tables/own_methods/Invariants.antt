use Rattle.std.proofs.Common.{◌≡◌, ◌==◌, ◌++◌, drop}
use Rattle.sed_layout.specs.TableSteps.{numbers_from, own_methods}
use Rattle.sed_layout.proofs.tables.own_methods.Given as goal

abbrev pub invariant-loop-number : goal.invariant-loop-number
invariant-loop-number l =
    l.own.items ++ numbers_from (λ m. m.class.0 == l.class) l.number (drop l.number l.methods) ≡ own_methods l.methods l.class
