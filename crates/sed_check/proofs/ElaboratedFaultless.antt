-- Units without a first fault have no fault.
use Rattle.std.proofs.Common.{◌≡◌, ◌≤◌, Bool, All, length, List, [], ◌∷◌, ◌++◌, if◌then◌else◌, Option, Some, None, refl}
use Rattle.sed_classes.specs.declared.kit_units.KitUnits.{KitUnits}
use Rattle.sed_classes.specs.declared.source_type.PlacedFault.{PlacedFault}
use Rattle.sed_classes.specs.Declarations.{declared_in}
use Rattle.sed_classes.specs.Faults.{faults_of, first_of, is_before}
use Rattle.sed_outline.specs.Fits.{Spelled, Unbroken}
use Rattle.sed_outline.proofs.Unbroken.{none_left}
use Rattle.sed_first_fault.specs.Faults.{cycle_faults, declared_faults, spelled_faults_of}
use Rattle.sed_check.specs.Bodies.{body_faults}
use Rattle.sed_check.specs.Checked.{faults}

-- ---- the first of a list without one

no_first : (f : PlacedFault) (fs : List PlacedFault) → first_of (f ∷ fs) ≡ None → f ∷ fs ≡ []
no_first f fs e = by_case (first_of fs) refl
  where
    by_case : (o : Option PlacedFault) → first_of fs ≡ o → f ∷ fs ≡ []
    by_case None q = let p : Some f ≡ None = rw q at e in cc
    by_case (Some g) q = let p : Some (if is_before g f then g else f) ≡ None = rw q at e in cc

pub no_fault : (fs : List PlacedFault) → first_of fs ≡ None → fs ≡ []
no_fault [] e = refl
no_fault (f ∷ fs) e = no_first f fs e

-- ---- units

pub unbroken : (units : List KitUnits) (cycles : Bool) → length units ≤ 15 → All Spelled (declared_in units) →
    faults units cycles ≡ [] → Unbroken units
unbroken units cycles kits spelled none = record {
  kits = kits;
  spelled = spelled;
  faultless =
      none_left
      (faults_of units)
      (spelled_faults_of units)
      (none_left
      (declared_faults units)
      (body_faults units)
      (none_left (declared_faults units ++ body_faults units) (cycle_faults units cycles) none));
}
