-- What is told of a list that only grows: its first ones, and whether it has more.
use Rattle.std.specs.Prelude.{◌≡◌, ℕ, ◌<◌, Bool, true, false, List, [], ◌∷◌, ◌++◌, length, Option, Some, None}

pub record Told (T : Type 0) : Type 0 where
  pub first : List T
  pub more : Bool

-- Of a list that has nothing yet, all is told.
abbrev pub told_none : {T : Type 0} → Told T
told_none = record { first = []; more = false }

abbrev pub has_any : {T : Type 0} → List T → Bool
has_any [] = false
has_any (x ∷ xs) = true

-- This is told of that whole list: it begins with the first ones, and has more exactly where that is told.
pub record Tells {T : Type 0} (told : Told T) (whole : List T) : Type 0 where
  pub rest : List T
  pub front : whole ≡ told.first ++ rest
  pub more : told.more ≡ has_any rest

-- These items came behind the list. What was told stays told; and of whatever list the old was told, the new is told of
-- that list with the items behind it.
pub record Adds {T : Type 0} (old new : Told T) (items : List T) : Type 0 where
  pub fresh : List T
  pub kept : new.first ≡ old.first ++ fresh
  pub told : (whole : List T) → Tells old whole → Tells new (whole ++ items)

-- The same, where nothing may be told of the list. Whether it is told stays.
abbrev pub AddsWhereTold : {T : Type 0} → Option (Told T) → Option (Told T) → List T → Type 0
AddsWhereTold None None items = Unit {0}
AddsWhereTold (Some old) (Some new) items = Adds old new items
AddsWhereTold (Some old) None items = ⊥
AddsWhereTold None (Some new) items = ⊥

-- What is told of a list, and how many of its first ones may be told.
pub record Bounded (T : Type 0) : Type 0 where
  pub told : Told T
  pub room : ℕ

-- One more of the first ones can be told: there is room for it, and none was left out yet.
pub record HasRoom {T : Type 0} (bounded : Bounded T) : Type 0 where
  pub all : bounded.told.more ≡ false
  pub few : length bounded.told.first < bounded.room

-- With one more that is told, and with one more that is not.
abbrev pub with_item : {T : Type 0} → Bounded T → T → Bounded T
with_item bounded item = record {
  told = record { first = bounded.told.first ++ item ∷ []; more = false };
  room = bounded.room;
}

abbrev pub with_more : {T : Type 0} → Bounded T → Bounded T
with_more bounded = record { told = record { first = bounded.told.first; more = true }; room = bounded.room }
