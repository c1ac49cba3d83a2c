-- Rows with an item for each class, made anew in rounds.
use Rattle.std.specs.Prelude.{ℕ, zero, suc, ◌-◌, ◌^◌, Bool, false, ◌==◌, ◌||◌, if◌then◌else◌, List, length, map, min}
use Rattle.std.specs.Prelude.{slice_get, sum_by, unwrap_or, Option, None}
use Rattle.std.specs.List.{filter_map, flat_map, list_any, range_with_len}
use Rattle.sed_units.specs.declared.classes.Member.{Member}
use Rattle.sed_classes.specs.declared.kit_units.KitUnits.{KitUnits}
use Rattle.sed_classes.specs.Declarations.{all_classes}
use Rattle.sed_classes.specs.Bases.{lineage}
use Rattle.sed_classes.specs.Members.{kit_of, members_of, is_instance_field}
use Rattle.sed_classes.specs.Objects.{holds_itself, inline_class, own_size}

-- what a function of classes gives, by their places
abbrev pub row_of : {X : Type 0} → List KitUnits → (ℕ → X) → List X
row_of units f = map f (range_with_len 0 (length (all_classes units)))

-- what a row has at a place; behind its end this
abbrev pub item : {X : Type 0} → X → List X → ℕ → X
item other row class = unwrap_or (slice_get row class) other

-- so many rounds
unfoldable pub rounds : {X : Type 0} → (List X → List X) → ℕ → List X → List X
rounds next zero row = row
rounds next (suc n) row = rounds next n (next row)

-- ---- objects that stand in objects

-- the class of the inline object that a member of a class of a kit is, if it has a place in each object
abbrev pub inline_of : List KitUnits → ℕ → Member → Option ℕ
inline_of units kit m = if is_instance_field m then inline_class units kit m else None

-- the classes of those that a class itself declares
abbrev pub inline_own : List KitUnits → ℕ → List ℕ
inline_own units class = filter_map (inline_of units (kit_of units class)) (members_of units class)

-- and of those that it declares or inherits
abbrev pub inline_in : List KitUnits → ℕ → List ℕ
inline_in units class = flat_map (inline_own units) (lineage units class)

-- a class is the one that is sought, or is known to have it inside
abbrev pub is_or_has : ℕ → List Bool → ℕ → Bool
is_or_has inner known class = (class == inner) || item false known class

-- for each class whether one of its objects has one of the class inside, where it is known of those that stand in it
abbrev pub next_holding : List (List ℕ) → ℕ → List Bool → List Bool
next_holding inside inner known = map (list_any (is_or_has inner known)) inside

-- ---- sizes

-- a size that stands still at the end of 64 bits
abbrev pub capped : ℕ → ℕ
capped n = min n (2 ^ 64 - 1)

-- for each class its size, where the sizes of those that stand in it are known
abbrev pub next_sizes : List KitUnits → List ℕ → List ℕ
next_sizes units sizes =
    row_of units (λ class. if holds_itself units class then 0
    else capped (sum_by (own_size units (item 0 sizes)) (lineage units class)))
