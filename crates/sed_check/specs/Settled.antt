-- Where no fault of a body comes before one of what is declared, so that the first fault is known before a body is
-- judged.
use Rattle.std.specs.Prelude.{ℕ, Bool, true, ◌-◌, ◌==◌, ◌&&◌, ◌||◌, nat_lt, List, length, Option, Some, None}
use Rattle.std.specs.List.{list_all, range_with_len}
use Rattle.std.specs.Option.{option_map_or}
use Rattle.sed_units.specs.Tree.{Tree}
use Rattle.sed_units.specs.declared.classes.Member.{Member}
use Rattle.sed_classes.specs.declared.kit_units.KitUnits.{KitUnits}
use Rattle.sed_classes.specs.declared.source_type.PlacedFault.{PlacedFault}
use Rattle.sed_classes.specs.Declarations.{Declaration, all_classes, class_at}
use Rattle.sed_classes.specs.Members.{form_body, form_params}

-- there is no body, or nothing stands in it
abbrev pub is_blank : Option (List Tree) → Bool
is_blank None = true
is_blank (Some all) = length all == 0

-- a field, or a method without parameters in whose body nothing stands: neither has a fault of a body
abbrev pub is_bare : Member → Bool
is_bare m = (length (form_params m.form) == 0) && is_blank (form_body m.form)

-- a class stands in a text behind that of a fault
abbrev pub is_behind : PlacedFault → Declaration → Bool
is_behind f d = nat_lt f.kit d.kit || ((f.kit == d.kit) && nat_lt f.text d.text)

-- no body of the class has a fault that comes before it
abbrev pub is_silent : PlacedFault → Declaration → Bool
is_silent f d = is_behind f d || list_all is_bare d.class.members

abbrev pub is_silent_at : List KitUnits → PlacedFault → ℕ → Bool
is_silent_at units f class = option_map_or (is_silent f) (class_at units class) true

-- Nor has one of all classes that the units declare, whose places are those from 5 on. The types of `sys` have no
-- faults.
abbrev pub settles : List KitUnits → PlacedFault → Bool
settles units f = list_all (is_silent_at units f) (range_with_len 5 (length (all_classes units) - 5))
