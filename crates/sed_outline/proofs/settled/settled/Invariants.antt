use Rattle.std.proofs.Common.{◌≡◌, List}
use Rattle.sed_classes.specs.declared.kit_units.KitUnits.{KitUnits}
use Rattle.sed_outline.specs.Rounds.{inline_in, row_of}
use Rattle.sed_outline.specs.Settled.{Settles}
use Rattle.sed_outline.proofs.settled.settled.Given as goal

-- what is settled so far
abbrev pub invariant-steps : goal.invariant-steps
invariant-steps l = (units : List KitUnits) → l.inside ≡ row_of units (inline_in units) → Settles units l.known.items
