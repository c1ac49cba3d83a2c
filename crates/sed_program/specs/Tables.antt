-- What tables hold of each class.
use Rattle.std.specs.Prelude.{ℕ, List, map, slice_get, Option}
use Rattle.std.specs.Option.{option_and_then, option_map}
use Rattle.sed_units.specs.declared.classes.Member.{Member}
use Rattle.sed_classes.specs.declared.kit_units.KitUnits.{KitUnits}
use Rattle.sed_classes.specs.Members.{Owned, owned, kit_of, members_of, nearest}
use Rattle.sed_program.specs.declared.declared_member.DeclaredMember.{DeclaredMember}
use Rattle.sed_program.specs.Meaning.{member_of}
use Rattle.sed_program.specs.Methods.{signature_of}
use Rattle.sed_program.specs.Types.{place_of}

-- what a member means, and what a call must know of it
abbrev pub declared_of : List KitUnits → Owned → DeclaredMember
declared_of units o = record { member = member_of units o; signature = signature_of units o }

abbrev pub declared_by : List KitUnits → ℕ → Member → DeclaredMember
declared_by units class m = declared_of units (owned class (kit_of units class) m)

-- all that the class at a place itself declares
abbrev pub declared_in : List KitUnits → ℕ → List DeclaredMember
declared_in units class = map (declared_by units class) (members_of units class)

-- what a row of rows has at two places
abbrev pub item_at : {X : Type 0} → List (List X) → ℕ → ℕ → Option X
item_at rows class at = option_and_then (λ row. slice_get row at) (slice_get rows class)

-- what the name stands for in the class with a number
abbrev pub declared_named : List KitUnits → ℕ → List ℕ → Option DeclaredMember
declared_named units class name =
    option_and_then (λ c. option_map (declared_of units) (nearest units c name)) (place_of units class)
