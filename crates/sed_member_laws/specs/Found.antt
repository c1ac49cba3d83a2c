-- The method that a name stands for, by its number in the program.
use Rattle.std.specs.Prelude.{ℕ, if◌then◌else◌, List, Option, Some, None}
use Rattle.sed_classes.specs.declared.kit_units.KitUnits.{KitUnits}
use Rattle.sed_classes.specs.Members.{Owned, is_method}
use Rattle.sed_program.specs.Methods.{method_number}

-- the number of a member that is a method
abbrev pub method_no : List KitUnits → Owned → Option ℕ
method_no units o = if is_method o.member then Some (method_number units o.class o.member.name.bytes) else None
