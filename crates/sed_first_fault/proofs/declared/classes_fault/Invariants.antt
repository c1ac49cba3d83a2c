use Rattle.std.proofs.Common.{◌≡◌, drop}
use Rattle.sed_classes.specs.Declarations.{all_classes}
use Rattle.sed_classes.specs.Faults.{faults_from, faults_of, first_of}
use Rattle.sed_first_fault.specs.Parts.{lesser}
use Rattle.sed_first_fault.proofs.declared.classes_fault.Given as goal

-- with that of the classes that are left it is the first of all
abbrev pub invariant-loop-class : goal.invariant-loop-class
invariant-loop-class l =
    lesser l.far (first_of (faults_from l.measured l.class (drop l.class (all_classes l.measured))))
    ≡ first_of (faults_of l.measured)
