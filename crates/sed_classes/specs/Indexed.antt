-- Names in groups, each with a place: a map for each group, seen as its look-up. A group is a kit with its classes, or
-- a class with its members.
use Rattle.std.specs.Prelude.{◌≡◌, ℕ, Bool, ◌==◌, ◌&&◌, if◌then◌else◌, List, [], slice_get, position, Option, Some}
use Rattle.std.specs.Borrow.{Bor}
use Rattle.std.specs.BTreeMap.{BTreeMap, get_by}
use Rattle.std.specs.Cmp.Lexicographic.{slice_cmp}
use Rattle.std.specs.Option.{option_and_then, option_map_or}
use Rattle.std.specs.Ordering.{nat_cmp}
use Rattle.std.specs.Str.{bytes_eq}
use Rattle.sed_units.specs.declared.classes.Member.{Member}
use Rattle.sed_classes.specs.declared.entry.Entry.{Entry}
use Rattle.sed_classes.specs.declared.kit_units.KitUnits.{KitUnits}
use Rattle.sed_classes.specs.Declarations.{Declaration, all_classes}
use Rattle.sed_classes.specs.Entries.{declarations}
use Rattle.sed_classes.specs.Members.{has_name, members_of}
use Rattle.sed_classes.specs.Names.{class_in}

-- names with places, in the order of names
abbrev pub Places : Type 0
Places = BTreeMap (Bor (List ℕ)) ℕ

-- the place that a name has there
unfoldable pub place_of : Places → List ℕ → Option ℕ
place_of places name = get_by (λ k. slice_cmp nat_cmp name k.now) places

-- the place of a name in a group
unfoldable pub place_in : List Places → ℕ → List ℕ → Option ℕ
place_in groups group name = option_and_then (λ places. place_of places name) (slice_get groups group)

-- what names have after one of them was given a place
abbrev pub IsPut : Places → Places → List ℕ → ℕ → Type 0
IsPut old new name place = (q : List ℕ) → place_of new q ≡ (if bytes_eq name q then Some place else place_of old q)

-- the same where it was given to a name in a group
abbrev pub IsPutIn : List Places → List Places → ℕ → List ℕ → ℕ → Type 0
IsPutIn old new group name place =
    (g : ℕ) (q : List ℕ) → place_in new g q ≡ (if (group == g) && bytes_eq name q then Some place else place_in old g q)

-- nothing more is found than was
abbrev pub IsSame : List Places → List Places → Type 0
IsSame old new = (g : ℕ) (q : List ℕ) → place_in new g q ≡ place_in old g q

-- the members of the class at a place in a row
abbrev pub members_at : List Declaration → ℕ → List Member
members_at all class = option_map_or (λ d. d.class.members) (slice_get all class) []

-- The entries are all classes of the kits, and the first class of each name in a kit, and the first member of each name
-- in a class, have their places at hand.
pub record IsIndexed (kits : List KitUnits) (all : List Entry) (names members : List Places) : Type 0 where
  pub entries : declarations all ≡ all_classes kits
  pub names_are : (kit : ℕ) (name : List ℕ) → place_in names kit name ≡ class_in kits name kit
  pub members_are :
      (class : ℕ) (name : List ℕ) → place_in members class name ≡ position (has_name name) (members_of kits class)
