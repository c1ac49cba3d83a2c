-- Defines of which it is known what they come to, and members that stand apart from one another.
use Rattle.std.specs.Prelude.{◌≡◌, ◌≤◌, ℕ, zero, suc, Bool, true, false, List, slice_get, Option, Some, None}
use Rattle.std.specs.List.{All}
use Rattle.std.specs.Option.{IfSome, option_map}
use Rattle.sed_units.specs.declared.classes.Member.{Member}
use Rattle.sed_classes.specs.declared.kit_units.KitUnits.{KitUnits}
use Rattle.sed_classes.specs.declared.source_type.Constant.{Constant}
use Rattle.sed_classes.specs.Members.{Owned, owned, kit_of, members_of, form_value}
use Rattle.sed_classes.specs.Values.{member_count, next_define}
use Rattle.sed_rules.specs.declared.define_places.MemberPlace.{MemberPlace}
use Rattle.sed_rules.specs.declared.settled.Settled.{Settled}
use Rattle.sed_rules.specs.Plains.{as_constant}
use Rattle.sed_rules.specs.Reading.{reached}

-- ---- members by their numbers

-- the place of the member with a number among those that a class itself declares
abbrev pub placed : ℕ → ℕ → MemberPlace
placed class number = record { class = class; number = number }

-- the member at a place
abbrev pub owned_at : List KitUnits → MemberPlace → Option Owned
owned_at units p = option_map (owned p.class (kit_of units p.class)) (slice_get (members_of units p.class) p.number)

abbrev pub named_at : List KitUnits → Option MemberPlace → Option Owned
named_at units None = None
named_at units (Some p) = owned_at units p

-- ---- what defines come to

-- from define to define it goes on for just so many of them
abbrev pub ends_in : List KitUnits → ℕ → Option Owned → Bool
ends_in units zero None = true
ends_in units zero (Some o) = false
ends_in units (suc steps) None = false
ends_in units (suc steps) (Some o) = ends_in units steps (next_define units o.class (form_value o.member.form))

-- What a value comes to that names this define, or none and is `last` by itself: after so many defines, however many
-- more may be read.
pub record ComesTo (units : List KitUnits) (define : Option Owned) (last : Constant) (steps : ℕ) (value : Constant)
    : Type 0 where
  pub ends : ends_in units steps define ≡ true
  pub within : steps ≤ member_count units
  pub reads : (most : ℕ) → steps ≤ most → reached units most define last ≡ value

-- a member that is there, so that it is all one what a value is by itself that does not name it
abbrev pub IsSettled : List KitUnits → Settled → Type 0
IsSettled units s = (last : Constant) → ComesTo units (owned_at units s.place) last s.steps (as_constant s.value)

abbrev pub AreSettled : List KitUnits → List (Option Settled) → Type 0
AreSettled units row = All (λ o. IfSome o (IsSettled units)) row

-- ---- members that stand apart

-- no two members stand at one place of a text
abbrev pub AreApart : List Member → Type 0
AreApart members =
    (i j : ℕ) (a b : Member) → slice_get members i ≡ Some a → slice_get members j ≡ Some b → a.at ≡ b.at → a ≡ b

-- those that a class itself declares do not, where the row says so
abbrev pub AreApartIn : List KitUnits → List Bool → Type 0
AreApartIn units row = (class : ℕ) → slice_get row class ≡ Some true → AreApart (members_of units class)

-- what a table of defines holds, row by row
pub record AreAtHand (units : List KitUnits) (settled : List (Option Settled)) (apart : List Bool) : Type 0 where
  pub are_settled : AreSettled units settled
  pub are_apart : AreApartIn units apart
