-- The record that is generated of a specification.
use Rattle.std.specs.Prelude.{◌≡◌, ℕ, zero, suc, ◌+◌, ◌*◌, ◌/◌, ◌%◌, ◌≤◌, ◌==◌, min, nat_le, Bool}
use Rattle.std.specs.Prelude.{if◌then◌else◌, IsTrue, List, [], ◌∷◌, ◌++◌, length, map, slice_index_or, decimal}
use Rattle.std.specs.List.{list_all}
use Rattle.sed_wire.specs.Number.{u4}
use Rattle.dasp_msg.specs.UserName.{is_user_name}
use Rattle.sox_msg.specs.Command.{Asked, add, invoke, link, rename, write}
use Rattle.replay_log.specs.declared.gen_spec.GenSpec.{GenSpec}
use Rattle.replay_log.specs.declared.gen_spec.GenType.{GenType}
use Rattle.replay_log.specs.declared.places.Place.{Place}
use Rattle.replay_log.specs.declared.session.Session.TheVariants.{A, B}
use Rattle.replay_log.specs.Bounds.{AreWithin}
use Rattle.replay_log.specs.Draw.{draw}
use Rattle.replay_log.specs.Entry.{Entry}
use Rattle.replay_log.specs.Record.{IsRecord}
use Rattle.replay_log.specs.Session.{in_turn}
use Rattle.replay_log.specs.Step.{Act, asks, waits, AreLeft, Step, greeting, steps_of}

-- what is made of each number below n, one behind the other
abbrev pub for_each : {A : Type 0} → ℕ → (ℕ → List A) → List A
for_each zero made = []
for_each (suc n) made = for_each n made ++ made n

-- a letter with a number in decimal
abbrev pub named : ℕ → ℕ → List ℕ
named letter number = letter ∷ decimal number

-- ---- components

-- every hundredth component is a folder
abbrev pub is_folder : ℕ → Bool
is_folder i = i % 100 == 0

-- how many draws the components below the i-th take: one each, but for the folders
unfoldable pub draws_below : ℕ → ℕ
draws_below zero = 0
draws_below (suc i) = if is_folder i then draws_below i else suc (draws_below i)

-- `Folder` of `sys`, whose only property is `meta`
abbrev pub folder_type : GenType
folder_type = record { kit = 0; number = 4; config = 0 ∷ 0 ∷ 0 ∷ 0 ∷ []; ints = [] }

-- the type that is drawn for the i-th component
abbrev pub drawn_type : GenSpec → ℕ → GenType
drawn_type spec i =
    slice_index_or spec.types (draw spec.seed (suc (draws_below i)) % length spec.types) folder_type

-- a component of a type under a parent, with a name and the initial values
abbrev pub added : GenType → ℕ → List ℕ → Asked
added kind parent name = add parent kind.kit kind.number name kind.config

-- folders are `f0`, `f1` .. under the App
abbrev pub folder_add : ℕ → Asked
folder_add i = added folder_type 0 (named 102 (i / 100))

-- other components are `c1`, `c2` .. under the last folder
abbrev pub other_add : GenType → ℕ → Asked
other_add kind i = added kind (i / 100 * 100 + 1) (named 99 i)

-- the add of the i-th component, whose id is i + 1
abbrev pub add_of : GenSpec → ℕ → Asked
add_of spec i = if is_folder i then folder_add i else other_add (drawn_type spec i) i

-- ---- links

abbrev pub place : ℕ → ℕ → Place
place id slot = record { id = id; slot = slot }

-- the int properties of the i-th component but for slot 0
abbrev pub places_of : GenSpec → ℕ → List Place
places_of spec i = if is_folder i then [] else map (place (i + 1)) (drawn_type spec i).ints

-- those of all components, by id and slot
abbrev pub places : GenSpec → List Place
places spec = for_each spec.components (places_of spec)

abbrev pub link_count : GenSpec → ℕ
link_count spec = min (length (places spec)) spec.links

abbrev pub place_in : List Place → ℕ → Place
place_in all n = slice_index_or all n (place 0 0)

abbrev pub linked : Place → Place → Asked
linked source target = link source.id source.slot target.id target.slot

-- from a place that is drawn to the j-th
abbrev pub link_with : List Place → ℕ → ℕ → Asked
link_with all drawn j = linked (place_in all (drawn % length all)) (place_in all j)

abbrev pub link_of : GenSpec → ℕ → Asked
link_of spec j = link_with (places spec) (draw spec.seed (draws_below spec.components + suc j)) j

-- ---- ticks

-- the first and the second draw of the tick behind n others
abbrev pub first_draw : GenSpec → ℕ → ℕ
first_draw spec n = draw spec.seed (draws_below spec.components + link_count spec + suc (2 * n))

abbrev pub second_draw : GenSpec → ℕ → ℕ
second_draw spec n = draw spec.seed (draws_below spec.components + link_count spec + suc (suc (2 * n)))

-- a component that is drawn gets the name `r` with the tick's number, or slot 0 the number that is drawn
abbrev pub edit : ℕ → ℕ → ℕ → Asked
edit id number value = if number % 25 == 0 then rename id (named 114 number) else write id 0 (u4 value)

-- a tick comes 100 ms behind the one before, and then an edit of what two draws gave
abbrev pub tick_with : ℕ → ℕ → ℕ → ℕ → List Act
tick_with components number p q =
    waits (number * 100000000) ∷ asks (in_turn number) (edit (1 + p % components) number q) ∷ []

-- ticks are counted from 1
abbrev pub tick_acts : GenSpec → ℕ → List Act
tick_acts spec n = tick_with spec.components (n + 1) (first_draw spec n) (second_draw spec n)

-- ---- the whole

abbrev pub component_acts : GenSpec → ℕ → List Act
component_acts spec i = asks (in_turn i) (add_of spec i) ∷ []

abbrev pub link_acts : GenSpec → ℕ → List Act
link_acts spec j = asks (in_turn j) (link_of spec j) ∷ []

-- components, links, ticks, and the App's `save`
abbrev pub acts : GenSpec → List Act
acts spec =
    for_each spec.components (component_acts spec)
    ++ (for_each (link_count spec) (link_acts spec)
    ++ (for_each spec.ticks (tick_acts spec) ++ asks A (invoke 0 1 []) ∷ []))

-- both sessions greet
abbrev pub greetings : GenSpec → List Step
greetings spec =
    greeting A spec.user (slice_index_or spec.digests 0 [])
    ++ greeting B spec.user (slice_index_or spec.digests 1 [])

-- and then do their acts, each from its message 0 on
abbrev pub steps : GenSpec → List Step
steps spec = greetings spec ++ steps_of (record { a = 0; b = 0 }) (acts spec)

-- the record of the entries that the steps leave
pub record IsGenerated (spec : GenSpec) (bytes : List ℕ) : Type 0 where
  pub entries : List Entry
  pub left : AreLeft (steps spec) entries
  pub whole : IsRecord bytes entries

-- it stands behind what stood there
pub record PutsRecord (spec : GenSpec) (old new : List ℕ) : Type 0 where
  pub bytes : List ℕ
  pub generated : IsGenerated spec bytes
  pub behind : new ≡ old ++ bytes

-- ---- conditions

abbrev pub has_few : GenType → Bool
has_few kind = nat_le (length kind.config) 400

pub record MayGenerate (spec : GenSpec) : Type 0 where
  pub numbers : AreWithin spec.seed spec.components spec.links spec.ticks
  pub user : IsTrue (is_user_name spec.user)
  pub typed : 1 ≤ length spec.types
  pub config : IsTrue (list_all has_few spec.types)
