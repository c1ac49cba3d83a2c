-- The faults of what units declare, those of how it is spelled, and what `cycles` asks besides.
use Rattle.std.specs.Prelude.{Bool, true, false, not, ◌&&◌, List, [], ◌∷◌, ◌++◌, map, Option, Some, None}
use Rattle.std.specs.List.{flat_map}
use Rattle.sed_faults.specs.declared.fault.Fault.{Fault}
use Rattle.sed_faults.specs.Faults.{broken_if}
use Rattle.sed_classes.specs.declared.kit_units.KitUnits.{KitUnits}
use Rattle.sed_classes.specs.declared.source_type.PlacedFault.{PlacedFault}
use Rattle.sed_classes.specs.SysSource.{component_class}
use Rattle.sed_classes.specs.Bases.{is_below}
use Rattle.sed_classes.specs.Declarations.{Declaration, class_at, declared_in}
use Rattle.sed_classes.specs.Faults.{faults_of, placed_in}
use Rattle.sed_classes.specs.Members.{is_abstract_class}
use Rattle.sed_first_fault.specs.Integers.{too_large_in_class}
use Rattle.sed_first_fault.specs.Nodes.{spelled_faults}

-- ---- how it is spelled

-- integers above the bounds of their forms in what a class declares, and what is so or too long in the locals of its
-- bodies
abbrev pub spelled_in : Declaration → List Fault
spelled_in d = too_large_in_class d.class ++ flat_map spelled_faults d.class.members

abbrev pub spelled_faults_of : List KitUnits → List PlacedFault
spelled_faults_of units = flat_map (λ (d : Declaration). map (placed_in d) (spelled_in d)) (declared_in units)

-- ---- all that is declared

abbrev pub declared_faults : List KitUnits → List PlacedFault
declared_faults units = faults_of units ++ spelled_faults_of units

-- ---- what `cycles` asks

-- the first class that the units declare is a component that may have objects
abbrev pub is_runnable : List KitUnits → Declaration → Bool
is_runnable units d = is_below units component_class 5 && not (is_abstract_class d.class)

-- no class breaks the rule at the start of the first text
abbrev pub no_class : PlacedFault
no_class = record { kit = 1; text = 0; at = 0; rule = 25 }

abbrev pub not_runnable : List KitUnits → Option Declaration → List PlacedFault
not_runnable units None = no_class ∷ []
not_runnable units (Some d) = map (placed_in d) (broken_if (not (is_runnable units d)) 25 d.class.at)

-- the rule is asked for `cycles` alone
abbrev pub cycle_faults : List KitUnits → Bool → List PlacedFault
cycle_faults units false = []
cycle_faults units true = not_runnable units (class_at units 5)
