use Rattle.std.proofs.Common.{◌≡◌, drop}
use Rattle.sed_classes.specs.Names.{class_among}
use Rattle.sed_classes.proofs.table.Classes.class_among.Given as goal

-- the kits before have no such class
abbrev pub invariant-loop-kit : goal.invariant-loop-kit
invariant-loop-kit l = class_among l.self l.name (drop l.kit-index l.kits) ≡ class_among l.self l.name l.kits
