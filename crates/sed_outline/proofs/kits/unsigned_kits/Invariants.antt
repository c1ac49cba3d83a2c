use Rattle.std.proofs.Common.{◌≡◌, ◌∷◌, codes, map, take}
use Rattle.sed_classes.specs.declared.kit_units.KitUnits.{KitUnits}
use Rattle.sed_classes.specs.Schema.{unsigned_kit}
use Rattle.sed_outline.proofs.kits.unsigned_kits.Given as goal

-- the kits so far
abbrev pub invariant-loop-kit : goal.invariant-loop-kit
invariant-loop-kit l =
    l.all.items ≡ map unsigned_kit (codes "sys" ∷ map (λ (k : KitUnits). k.kit) (take l.kit-index l.units))
