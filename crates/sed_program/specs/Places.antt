-- The place of each name among those members of a class that have numbers of a part, kept where the first member of the
-- name stands.
use Rattle.std.specs.Prelude.{◌≡◌, ℕ, Bool, if◌then◌else◌, List, [], filter, position, slice_set, Option, Some, None}
use Rattle.std.specs.Option.{option_map_or}
use Rattle.sed_units.specs.declared.classes.Member.{Member}
use Rattle.sed_classes.specs.declared.kit_units.KitUnits.{KitUnits}
use Rattle.sed_classes.specs.Members.{has_name, members_of}
use Rattle.sed_outline.specs.Rounds.{item}
use Rattle.sed_program.specs.declared.parts.Part.{Part}
use Rattle.sed_program.specs.Fields.{place_named}
use Rattle.sed_program.specs.Parts.{is_of}

-- a number kept at a place, if there is one
abbrev pub noted : List ℕ → Option ℕ → ℕ → List ℕ
noted row at number = option_map_or (λ k. slice_set row k number) at row

-- the number of a member kept where the first one of its name stands among these, if it is of the part
abbrev pub with_member : (Member → Bool) → List Member → List ℕ → Member → ℕ → List ℕ
with_member counts members row m number =
    if counts m then noted row (position (has_name m.name.bytes) members) number else row

-- the places of the names of these members
abbrev pub IsPlacedIn : Part → List Member → List ℕ → Type 0
IsPlacedIn p members row =
    (name : List ℕ) (at : ℕ) → position (has_name name) members ≡ Some at →
    item 0 row at ≡ place_named name (filter (is_of p) members)

-- and of those of each class
abbrev pub IsPlaced : Part → List KitUnits → List (List ℕ) → Type 0
IsPlaced p units rows = (class : ℕ) → IsPlacedIn p (members_of units class) (item [] rows class)
