use Rattle.std.proofs.Common.{◌≡◌, map, take}
use Rattle.scode_code.specs.Tables.{kit_of}
use Rattle.scode_engine.proofs.schema.kits_of.Given as goal

abbrev pub invariant-loop-kit : goal.invariant-loop-kit
invariant-loop-kit l = l.all.items ≡ map kit_of (take l.kit-index l.kits)
