-- What units without a fault keep: what they declare breaks no rule.
use Rattle.std.proofs.Common.{◌≡◌, ◌≤◌, ◌++◌, Bool, List, [], length}
use Rattle.sed_classes.specs.declared.kit_units.KitUnits.{KitUnits}
use Rattle.sed_classes.specs.Faults.{faults_of}
use Rattle.sed_outline.specs.Fits.{Unbroken}
use Rattle.sed_member_laws.proofs.Empty.{none_left}
use Rattle.sed_first_fault.specs.Faults.{cycle_faults, declared_faults, spelled_faults_of}
use Rattle.sed_check.specs.Bodies.{body_faults}
use Rattle.sed_check.specs.Checked.{faults}
use Rattle.sed_check.specs.Read.{AreRead}
use Rattle.sed_check.proofs.AsRead.{are_spelled}

pub none_declared : (units : List KitUnits) (cycles : Bool) → faults units cycles ≡ [] → declared_faults units ≡ []
none_declared units cycles e =
    none_left (declared_faults units) (body_faults units)
    (none_left (declared_faults units ++ body_faults units) (cycle_faults units cycles) e)

pub unbroken : (units : List KitUnits) → length units ≤ 15 → AreRead units → declared_faults units ≡ [] → Unbroken units
unbroken units few r e = record {
  kits = few;
  spelled = are_spelled units r;
  faultless = none_left (faults_of units) (spelled_faults_of units) e;
}
