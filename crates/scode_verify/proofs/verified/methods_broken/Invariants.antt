use Rattle.std.proofs.Common.{◌≡◌, drop}
use Rattle.scode_code.specs.Faults as faults
use Rattle.scode_verify.proofs.verified.methods_broken.Given as goal

-- the methods that are left break what all do
abbrev pub invariant-loop-number : goal.invariant-loop-number
invariant-loop-number l = faults.methods_broken l.image l.number (drop l.number l.methods) ≡ faults.methods_broken l.image 0 l.methods
