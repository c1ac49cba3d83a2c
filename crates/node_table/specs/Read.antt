-- What is read of the bytes that a command gives.
use Rattle.std.specs.Prelude.{ℕ, ◌≡◌, ◌+◌, ◌||◌, Bool, true, false, if◌then◌else◌, IsTrue, IfSome, List, [], ◌∷◌, drop}
use Rattle.std.specs.Prelude.{filter, map as map_list, slice_get, Option, Some, None}
use Rattle.std.specs.FinMap as map
use Rattle.std.specs.List.{enumerate_from, filter_map, zip}
use Rattle.std.specs.Option.{option_and_then}
use Rattle.sed_typed.specs.declared.schema.SlotInfo.{SlotInfo}
use Rattle.sed_wire.specs.Spelling.{can_be_held}
use Rattle.sed_typed.specs.declared.schema.ActionArg.{ActionArg}
use Rattle.sed_value.specs.declared.refusal.Refusal.{Refusal}
use Rattle.sed_value.specs.declared.refusal.Refusal.TheVariants.{BadValue, BufferTooLong}
use Rattle.sed_value.specs.declared.slot_type.SlotType.{SlotType}
use Rattle.sed_value.specs.declared.value.Value.{Value}
use Rattle.sed_engine.specs.Code.{Meaning, Object, Places, is_argument, property_type}
use Rattle.node_table.specs.Properties.{argument_types, first_of, is_config, with_slots}
use Rattle.node_table.specs.Rows.{first_refusal}
use Rattle.node_table.specs.Values.{are_bad_values, have_long_buffer, taken}

-- the bytes are these values of the types, and none is refused
pub record AreTaken (types : List SlotType) (bytes : List ℕ) (values : List Value) : Type 0 where
  pub are : taken types bytes ≡ values
  pub good : are_bad_values types bytes ≡ false
  pub short : have_long_buffer types bytes ≡ false

-- the first refusal of values of these types, if there is one
abbrev pub refusal_of_values : List SlotType → List ℕ → Option Refusal
refusal_of_values types bytes =
    first_refusal ((are_bad_values types bytes, BadValue) ∷ (have_long_buffer types bytes, BufferTooLong) ∷ [])

abbrev pub IsRefusedValue : List SlotType → List ℕ → Refusal → Type 0
IsRefusedValue types bytes refusal = refusal_of_values types bytes ≡ Some refusal

-- the bytes are this argument of an action
pub record IsArgument (arg : ActionArg) (bytes : List ℕ) (value : Value) : Type 0 where
  pub is : first_of (taken (argument_types arg) bytes) ≡ value
  pub good : are_bad_values (argument_types arg) bytes ≡ false
  pub allowed : IsTrue (is_argument arg value)

-- they are none
pub record IsBadArgument (arg : ActionArg) (bytes : List ℕ) (refusal : Refusal) : Type 0 where
  pub same : refusal ≡ BadValue
  pub bad : are_bad_values (argument_types arg) bytes ≡ true

-- ---- config values

-- the type of a slot, where it is a config property
abbrev pub config_type_of : SlotInfo → Option SlotType
config_type_of s = if is_config s then property_type (Some s.form) else None

-- the types of the config properties among slots, in their order
abbrev pub types_in : List SlotInfo → List SlotType
types_in slots = filter_map config_type_of slots

-- the numbers of these, where the first slot has this one
abbrev pub numbers_in : ℕ → List SlotInfo → List ℕ
numbers_in n slots = map_list (λ (e : ℕ × SlotInfo). e.0)
    (filter (λ (e : ℕ × SlotInfo). is_config e.1) (enumerate_from n slots))

-- a reader holds a value of each
abbrev pub CanBeHeld : List SlotInfo → Type 0
CanBeHeld slots = (n : ℕ) → IfSome (option_and_then config_type_of (slice_get slots n)) (λ t. IsTrue (can_be_held t))

-- the first refusal of values of these types, where one before them was too long or not
abbrev pub refusal_after : Bool → List SlotType → List ℕ → Option Refusal
refusal_after long types bytes =
    first_refusal ((are_bad_values types bytes, BadValue) ∷ (long || have_long_buffer types bytes, BufferTooLong) ∷ [])

-- the value of the first of these slots was passed, or is none
abbrev pub PassesSlot : List SlotInfo → List SlotInfo → Bool → List ℕ → Bool → Bool → List ℕ → Type 0
PassesSlot here behind long old true after new =
    refusal_after long (types_in here) old ≡ refusal_after after (types_in behind) new
PassesSlot here behind long old false after new = refusal_after long (types_in here) old ≡ Some BadValue

-- what is left of an object once the values of the slots from this one on are stored in it
abbrev pub stored_from : Meaning → ℕ → List SlotInfo → List ℕ → Object → Object
stored_from m n slots bytes o = with_slots m (zip (numbers_in n slots) (taken (types_in slots) bytes)) o

-- the value of the slot with this number was stored in the object at a place, where it has one
pub record StoresSlot (m : Meaning) (before after : Places) (place : ℕ)
    (o : Object) (n : ℕ) (slots : List SlotInfo) (old new : List ℕ) : Type 0 where
  pub object : Object
  pub live : after ≡ map.insert before place object
  pub class : object.class ≡ o.class
  pub rest : stored_from m (n + 1) (drop (n + 1) slots) new object ≡ stored_from m n (drop n slots) old o

-- what is left of an object once these values are stored in the config slots from this one on
abbrev pub filled_from : Meaning → ℕ → List SlotInfo → List Value → Object → Object
filled_from m n slots values o = with_slots m (zip (numbers_in n slots) values) o

-- the first of these values was stored in the slot with this number, where it is a config property, and the others are
-- left
pub record StoresNext (m : Meaning) (before after : Places) (place : ℕ)
    (o : Object) (n : ℕ) (slots : List SlotInfo) (old new : List Value) : Type 0 where
  pub object : Object
  pub live : after ≡ map.insert before place object
  pub class : object.class ≡ o.class
  pub rest : filled_from m (n + 1) (drop (n + 1) slots) new object ≡ filled_from m n (drop n slots) old o
