use Rattle.std.proofs.Common.{◌≡◌, length, sum_by, take}
use Rattle.sed_classes.specs.declared.kit_units.KitUnits.{KitUnits}
use Rattle.sed_check.proofs.numbers.text_count.Given as goal

-- those of the kits so far
abbrev pub invariant-loop-kit : goal.invariant-loop-kit
invariant-loop-kit l = l.sum ≡ sum_by (λ (k : KitUnits). length k.units) (take l.kit-index l.kits)
