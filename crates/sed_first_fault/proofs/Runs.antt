-- What `cycles` asks of the first class.
use Rattle.std.proofs.Common.{◌≡◌, Bool, true, not, ◌&&◌, List, map, Option, Some, sym, ap, ◌∙◌}
use Rattle.sed_faults.specs.Faults.{broken_if}
use Rattle.sed_classes.specs.declared.kit_units.KitUnits.{KitUnits}
use Rattle.sed_classes.specs.declared.source_type.PlacedFault.{PlacedFault}
use Rattle.sed_classes.specs.Bases.{is_below}
use Rattle.sed_classes.specs.Declarations.{Declaration, class_at}
use Rattle.sed_classes.specs.Faults.{first_of, placed_in}
use Rattle.sed_classes.specs.Members.{is_abstract_class}
use Rattle.sed_first_fault.specs.Faults.{cycle_faults, not_runnable}

pub asked : (units : List KitUnits) (cycles : Bool) (d : Declaration) (is_component : Bool) (r : Option PlacedFault) →
    cycles ≡ true → class_at units 5 ≡ Some d → is_component ≡ is_below units 2 5 →
    r ≡ first_of (map (placed_in d) (broken_if (not (is_component && not (is_abstract_class d.class))) 25 d.class.at)) →
    r ≡ first_of (cycle_faults units cycles)
asked units cycles d is_component r asks at component e =
    e
    ∙ ap
    (λ b. first_of (map (placed_in d) (broken_if (not (b && not (is_abstract_class d.class))) 25 d.class.at)))
    component
    ∙ sym (ap (λ o. first_of (not_runnable units o)) at)
    ∙ sym (ap (λ b. first_of (cycle_faults units b)) asks)
