use Rattle.std.proofs.Common.{◌≡◌, map, take}
use Rattle.scode_code.specs.Tables.{class_of}
use Rattle.scode_engine.proofs.schema.classes_of.Given as goal

abbrev pub invariant-loop-class : goal.invariant-loop-class
invariant-loop-class l = l.all.items ≡ map class_of (take l.class-index l.classes)
