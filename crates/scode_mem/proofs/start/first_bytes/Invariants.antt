use Rattle.std.proofs.Common.{◌≡◌, map, take}
use Rattle.scode_mem.proofs.start.first_bytes.Given as goal

abbrev pub invariant-loop-class : goal.invariant-loop-class
invariant-loop-class l = l.firsts.items ≡ map (λ c. c.contents) (take l.class-index l.image.classes)
