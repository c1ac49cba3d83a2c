-- The members that have numbers of their own, and how many of them a class declares.
use Rattle.std.specs.Prelude.{ℕ, Bool, true, false, List, filter, length}
use Rattle.sed_units.specs.declared.classes.Member.{Member}
use Rattle.sed_classes.specs.declared.kit_units.KitUnits.{KitUnits}
use Rattle.sed_classes.specs.Members.{is_instance_field, is_method, is_static_field, members_of}
use Rattle.sed_program.specs.declared.parts.Part.{Part}
use Rattle.sed_program.specs.declared.parts.Part.TheVariants as part

abbrev pub is_of : Part → Member → Bool
is_of part.Field = is_instance_field
is_of part.Static = is_static_field
is_of part.Method = is_method

-- those that the class at a place itself declares
abbrev pub own_of : Part → List KitUnits → ℕ → List Member
own_of p units class = filter (is_of p) (members_of units class)

abbrev pub count_of : Part → List KitUnits → ℕ → ℕ
count_of p units class = length (own_of p units class)

abbrev pub one_if : Bool → ℕ
one_if true = 1
one_if false = 0
