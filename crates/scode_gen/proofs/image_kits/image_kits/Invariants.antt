use Rattle.std.proofs.Common.{◌≡◌, ◌++◌, drop, map}
use Rattle.scode_gen.specs.Classes.{image_kit}
use Rattle.scode_gen.proofs.image_kits.image_kits.Given as goal

abbrev pub invariant-loop-kit : goal.invariant-loop-kit
invariant-loop-kit l = l.made.items ++ map image_kit (drop l.kit-index l.kits) ≡ map image_kit l.kits
