use Rattle.std.proofs.Common.{◌≡◌, drop}
use Rattle.sed_classes.specs.Declarations.{all_classes}
use Rattle.sed_classes.specs.Faults.{first_of}
use Rattle.sed_first_fault.specs.Faults.{spelled_faults_of}
use Rattle.sed_first_fault.specs.Parts.{lesser}
use Rattle.sed_first_fault.proofs.Loops.{spelled_from}
use Rattle.sed_first_fault.proofs.declared.spellings_fault.Given as goal

-- with that of the classes that are left it is the first of all
abbrev pub invariant-loop-class : goal.invariant-loop-class
invariant-loop-class l =
    lesser l.far (first_of (spelled_from (drop l.class (all_classes l.measured))))
    ≡ first_of (spelled_faults_of l.measured)
