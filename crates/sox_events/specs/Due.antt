-- What is due to a session place: by the marks of an application, and by what differs.
use Rattle.std.specs.Prelude.{ℕ, ◌≡◌, ◌≤◌, ◌==◌, ◌&&◌, ◌||◌, not, nat_eq, nat_lt, Bool, true, false, if◌then◌else◌}
use Rattle.std.specs.Prelude.{List, Option, Some, None, is_some, unwrap_or}
use Rattle.std.specs.Option.{option_map_or}
use Rattle.std.specs.Cmp.Lexicographic.{pointwise}
use Rattle.sed_typed.specs.declared.schema.Schema.{Schema}
use Rattle.sed_engine.specs.declared.engine.Engine.{Ghosts}
use Rattle.comp_tree.specs.Application.{is_live}
use Rattle.comp_tree.specs.Held.{components_of}
use Rattle.comp_tree.specs.Marks.{Part as TreePart}
use Rattle.link_prop.specs.Linked.{Linked, application_of}
use Rattle.link_prop.specs.Marks.{AppPart, bytes_at, is_marked}
use Rattle.app_parts.specs.Longest.{longest_part}
use Rattle.sub_table.specs.declared.part.Part.{Part}
use Rattle.sub_table.specs.declared.part.Part.TheVariants.{Tree, Config, Runtime, Links}
use Rattle.sub_table.specs.Parts.{is_part}
use Rattle.sub_table.specs.Table.{Subscriptions, at, most_bytes, with_event}
use Rattle.sox_msg.specs.Reply.{Puts, event_bytes}
use Rattle.sox_events.specs.declared.subs.Subs.{Subs}

-- ---- parts

-- a part that can be subscribed, as a part of an application
abbrev pub app_part : Part → AppPart
app_part Tree = AppPart.OfTree TreePart.Tree
app_part Config = AppPart.OfTree TreePart.Config
app_part Runtime = AppPart.OfTree TreePart.Runtime
app_part Links = AppPart.OfLinks

-- the letters t, c, r and l
abbrev pub letter_of : Part → ℕ
letter_of Tree = 116
letter_of Config = 99
letter_of Runtime = 114
letter_of Links = 108

-- how many bytes a part has at most, of a component of any class of a schema
abbrev pub longest : Schema → Part → ℕ
longest schema part = longest_part schema (letter_of part)

abbrev pub lives : {E : Type 0} → Ghosts E → Linked E → ℕ → Bool
lives g a id = is_live (components_of g a.tree).by_id id

-- the bytes of a part of the component with an id
abbrev pub bytes_of : {E : Type 0} → Ghosts E → Linked E → ℕ → Part → List ℕ
bytes_of g a id part = bytes_at g a id (app_part part)

-- whether a part may have changed since it was settled for a place
abbrev pub marked : {E : Type 0} → Linked E → ℕ → ℕ → Part → Bool
marked a place id part = is_marked a id place (app_part part)

-- ---- what is due

-- a part that is subscribed, where it is of a live component: no event of it was posted, or it may have changed and has
-- other bytes than the last event
abbrev pub is_due_after : {E : Type 0} → Ghosts E → Linked E → ℕ → ℕ → Part → Option (List ℕ) → Bool
is_due_after g a place id part last =
    lives g a id && option_map_or (λ bytes. marked a place id part
    && not (pointwise nat_eq bytes (bytes_of g a id part))) last true

-- the part is due at the place, by the marks
abbrev pub is_due : {E : Type 0} → Ghosts E → Linked E → Subscriptions → ℕ → ℕ → Part → Bool
is_due g a subs place id part = option_map_or (is_due_after g a place id part) (subs place id part) false

-- a part that is subscribed, where it is of a live component: no event of it was posted, or it has other bytes than the
-- last event. This knows no marks
abbrev pub differs_from : {E : Type 0} → Ghosts E → Linked E → ℕ → Part → Option (List ℕ) → Bool
differs_from g a id part last =
    lives g a id && option_map_or (λ bytes. not (pointwise nat_eq bytes (bytes_of g a id part))) last true

-- the part differs from what was posted of it at the place
abbrev pub differs : {E : Type 0} → Ghosts E → Linked E → Subscriptions → ℕ → ℕ → Part → Bool
differs g a subs place id part = option_map_or (differs_from g a id part) (subs place id part) false

-- what may be due: a part that is subscribed, of which no event was posted, or which is marked
abbrev pub may_be_due : Option (Option (List ℕ)) → Bool → Bool
may_be_due kept mark = option_map_or (λ last. not (is_some last) || mark) kept false

-- bytes are those of the last event
abbrev pub is_last : List ℕ → Option (Option (List ℕ)) → Bool
is_last bytes kept = option_map_or (λ last. pointwise nat_eq last bytes) (unwrap_or kept None) false

-- an event of it was posted
abbrev pub has_event : Option (Option (List ℕ)) → Bool
has_event kept = is_some (unwrap_or kept None)

-- ---- agreement

-- the marks agree with the subscriptions: each subscribed part of a live component that has a last event and no mark
-- has the bytes of that event
abbrev pub MarksAgree : {E : Type 0} → Ghosts E → Linked E → Subscriptions → Type 0
MarksAgree g a subs =
    (place id : ℕ) (part : Part) (bytes : List ℕ) → lives g a id ≡ true → subs place id part ≡ Some (Some bytes)
    → marked a place id part ≡ false
    → bytes_of g a id part ≡ bytes

-- they agree so of every id, be it live or not. This is what is kept from event to event: an id that is not live may
-- come to be live, and what its marks tell is of what it had before
abbrev pub AllMarksAgree : {E : Type 0} → Ghosts E → Linked E → Subscriptions → Type 0
AllMarksAgree g a subs =
    (place id : ℕ) (part : Part) (bytes : List ℕ) → subs place id part ≡ Some (Some bytes)
    → marked a place id part ≡ false
    → bytes_of g a id part ≡ bytes

-- at each place each part of each id has its old row, or one without a last event
abbrev pub OnlyForgets : Subscriptions → Subscriptions → Type 0
OnlyForgets before after =
    (place id : ℕ) (part : Part) → has_event (after place id part) ≡ true → after place id part ≡ before place id part

-- ---- what contracts see of those who are told

abbrev pub subscriptions : Subs → Subscriptions
subscriptions s = at s.table

-- how many comparisons were made of a part with its last event
abbrev pub comparisons : Subs → ℕ
comparisons s = s.compared

-- how many bytes an event of a part may have
abbrev pub room_for : Subs → Part → ℕ
room_for s part = most_bytes s.table part

-- an event of every part of every component of an application over the schema has room
abbrev pub HasRoom : Schema → Subs → Type 0
HasRoom schema s = (part : Part) → longest schema part ≤ room_for s part

-- what is of live components stays subscribed
abbrev pub of_the_live : {E : Type 0} → Ghosts E → Linked E → Subscriptions → Subscriptions
of_the_live g a subs place id part = if lives g a id then subs place id part else None

-- ---- the next event

abbrev pub bit_of : Part → ℕ
bit_of Tree = 1
bit_of Config = 2
bit_of Runtime = 4
bit_of Links = 8

-- the order of the parts of one component
abbrev pub rank : Part → ℕ
rank Tree = 0
rank Config = 1
rank Runtime = 2
rank Links = 3

-- parts of components
abbrev pub Those : Type 0
Those = ℕ → Part → Bool

abbrev pub none_of_them : Those
none_of_them id part = false

abbrev pub all_of_them : Those
all_of_them id part = true

abbrev pub only : ℕ → Part → Those
only id part i other = i == id && is_part part other

-- what comes before a part: by ascending id, then in the order of the parts
abbrev pub before_it : ℕ → Part → Those
before_it id part i other = nat_lt i id || (i == id && nat_lt (rank other) (rank part))

-- the part is subscribed, and of a live component
abbrev pub is_watched : {E : Type 0} → Ghosts E → Linked E → Subscriptions → ℕ → ℕ → Part → Bool
is_watched g a subs place id part = is_some (subs place id part) && lives g a id

-- some parts are passed: none of them is due at the place, each of them that is watched is settled there, and nothing
-- else changes
pub record Passes {E : Type 0} (g : Ghosts E) (old new : Linked E)
    (subs : Subscriptions) (place : ℕ) (passed : Those) : Type 0 where
  pub stays : application_of g new ≡ application_of g old
  pub meaning : g.meaning new.tree.engine ≡ g.meaning old.tree.engine
  pub steady : g.fixed new.tree.engine ≡ g.fixed old.tree.engine
  pub none : (id : ℕ) (part : Part) → passed id part ≡ true → is_due g old subs place id part ≡ false
  pub marks : (p id : ℕ) (part : Part) → marked new p id part
      ≡ (if (p == place && passed id part) && is_watched g old subs place id part then false else marked old p id part)

-- an event of a part is given when some parts are passed: it is due, it is settled too, its text is put, and its bytes
-- are those of its last event
pub record Gives {E : Type 0} (g : Ghosts E) (old new : Linked E) (subs after : Subscriptions)
    (place : ℕ) (passed : Those) (id : ℕ) (part : Part)
    (count : ℕ) (into now : List ℕ) : Type 0 where
  pub stays : application_of g new ≡ application_of g old
  pub meaning : g.meaning new.tree.engine ≡ g.meaning old.tree.engine
  pub steady : g.fixed new.tree.engine ≡ g.fixed old.tree.engine
  pub due : is_due g old subs place id part ≡ true
  pub none : (i : ℕ) (other : Part) → passed i other ≡ true → is_due g old subs place i other ≡ false
  pub marks : (p i : ℕ) (other : Part) → marked new p i other
      ≡ (if (p == place && (passed i other || only id part i other)) && is_watched g old subs place i other
      then false else marked old p i other)
  pub posted : (p i : ℕ) (other : Part)
      → after p i other ≡ with_event place id part (bytes_of g old id part) subs p i other
  pub text : Puts (event_bytes id (letter_of part) (bytes_of g old id part)) count into now
