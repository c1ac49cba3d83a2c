use Rattle.std.proofs.Common.{◌≡◌, map, take}
use Rattle.std.specs.List.{enumerate_from}
use Rattle.sed_outline.specs.Fits.{signed_in}
use Rattle.sed_outline.proofs.kits.signed_kits.Given as goal

-- the kits so far
abbrev pub invariant-loop-number : goal.invariant-loop-number
invariant-loop-number l = l.all.items ≡ map (signed_in l.outline) (enumerate_from 0 (take l.number l.outline.kits))
