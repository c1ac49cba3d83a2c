-- The parts that the first fault is put together from: the lesser one of two, and the faults of one class.
use Rattle.std.specs.Prelude.{ℕ, if◌then◌else◌, List, [], map, Option, Some, None}
use Rattle.std.specs.Option.{option_map_or}
use Rattle.sed_classes.specs.declared.kit_units.KitUnits.{KitUnits}
use Rattle.sed_classes.specs.declared.source_type.PlacedFault.{PlacedFault}
use Rattle.sed_classes.specs.Declarations.{Declaration, class_at}
use Rattle.sed_classes.specs.Faults.{declaration_faults, is_before, placed_in}
use Rattle.sed_first_fault.specs.Faults.{spelled_in}

-- of two that may be there
abbrev pub lesser : Option PlacedFault → Option PlacedFault → Option PlacedFault
lesser None b = b
lesser (Some a) None = Some a
lesser (Some a) (Some b) = Some (if is_before b a then b else a)

-- those of what the class at a place declares
abbrev pub declared_at : List KitUnits → ℕ → List PlacedFault
declared_at units class =
    option_map_or (λ (d : Declaration). map (placed_in d) (declaration_faults units class d)) (class_at units class) []

-- and of how it is spelled
abbrev pub spelled_at : List KitUnits → ℕ → List PlacedFault
spelled_at units class = option_map_or (λ (d : Declaration). map (placed_in d) (spelled_in d)) (class_at units class) []
