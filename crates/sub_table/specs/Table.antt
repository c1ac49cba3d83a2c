-- A table of subscriptions, as a function of a session place, an id and a part.
use Rattle.std.specs.Prelude.{ℕ, ◌≡◌, ◌+◌, ◌*◌, ◌/◌, ◌<◌, ◌≤◌, ◌==◌, ◌&&◌, ◌||◌, Bool, true, false, if◌then◌else◌}
use Rattle.std.specs.Prelude.{nat_lt, List, Option, None, is_some}
use Rattle.sub_table.specs.declared.part.Part.{Part}
use Rattle.sub_table.specs.declared.part.Part.TheVariants.{Tree, Config, Runtime, Links}
use Rattle.sub_table.specs.declared.table.SubTable.{SubTable}
use Rattle.sub_table.specs.Events.{Kept, kept_at, subscribed, unsubscribed, posted}
use Rattle.sub_table.specs.Holders.{is_member}
use Rattle.sub_table.specs.Parts.{is_in, is_part}

-- ---- what a table says

-- of a place, an id and a part: none where it is not subscribed; else the bytes of the last event that was posted of
-- it, if there is one
abbrev pub Subscriptions : Type 0
Subscriptions = ℕ → ℕ → Part → Option (Option (List ℕ))

abbrev pub nothing_subscribed : Subscriptions
nothing_subscribed place id part = None

-- some part of the id is subscribed at the place
abbrev pub is_subscribed : Subscriptions → ℕ → ℕ → Bool
is_subscribed subs place id =
    is_some (subs place id Tree) || is_some (subs place id Config) || is_some (subs place id Runtime)
    || is_some (subs place id Links)

-- ---- what the calls leave

abbrev pub is_at : ℕ → ℕ → ℕ → ℕ → Bool
is_at place id p i = p == place && i == id

-- the parts of the mask are subscribed; one that was already stays as it is
abbrev pub with_subscribed : ℕ → ℕ → ℕ → Subscriptions → Subscriptions
with_subscribed place id mask subs p i part =
    if is_at place id p i && is_in mask part then subscribed (subs p i part) else subs p i part

abbrev pub without_subscribed : ℕ → ℕ → ℕ → Subscriptions → Subscriptions
without_subscribed place id mask subs p i part =
    if is_at place id p i && is_in mask part then unsubscribed (subs p i part) else subs p i part

abbrev pub without_id : ℕ → Subscriptions → Subscriptions
without_id id subs p i part = if i == id then None else subs p i part

abbrev pub without_place : ℕ → Subscriptions → Subscriptions
without_place place subs p i part = if p == place then None else subs p i part

-- the last event of a part
abbrev pub with_event : ℕ → ℕ → Part → List ℕ → Subscriptions → Subscriptions
with_event place id part bytes subs p i other =
    if is_at place id p i && is_part part other then posted bytes (subs p i other) else subs p i other

-- ---- the next id

-- the least id from this one on that is subscribed at the place
pub record IsNextId (subs : Subscriptions) (place start next : ℕ) : Type 0 where
  pub from : start ≤ next
  pub bound : next < 4096
  pub subscribed : is_subscribed subs place next ≡ true
  pub least : (id : ℕ) → start ≤ id → id < next → is_subscribed subs place id ≡ false

-- ---- what is kept

abbrev pub kept_of : SubTable → Part → Kept
kept_of t Tree = t.tree
kept_of t Config = t.config
kept_of t Runtime = t.runtime
kept_of t Links = t.links

-- a subscriber's number: 4,096 ids at each of 16 places
abbrev pub number_of : ℕ → ℕ → ℕ
number_of place id = place * 4096 + id

abbrev pub at : SubTable → Subscriptions
at t place id part = if nat_lt place 16 && nat_lt id 4096 then kept_at (kept_of t part) (number_of place id) else None

-- the first number behind the word of a number
abbrev pub end_of : ℕ → ℕ
end_of number = number / 64 * 64 + 64

-- some part is subscribed by this number
abbrev pub is_any : SubTable → ℕ → Bool
is_any t number =
    is_member t.tree.words number || is_member t.config.words number
    || is_member t.runtime.words number || is_member t.links.words number

-- the least number from this one on that has subscribed some part
pub record IsNextNumber (t : SubTable) (start next : ℕ) : Type 0 where
  pub from : start ≤ next
  pub subscribed : is_any t next ≡ true
  pub least : (number : ℕ) → start ≤ number → number < next → is_any t number ≡ false

-- how many bytes an event of a part may have
abbrev pub most_bytes : SubTable → Part → ℕ
most_bytes t part = (kept_of t part).width
