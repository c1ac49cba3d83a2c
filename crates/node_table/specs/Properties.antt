-- The properties of a class, and the types of the values that a command gives.
use Rattle.std.specs.Prelude.{ℕ, ◌&&◌, Bool, true, false, not, List, [], ◌∷◌, slice_get, map, filter}
use Rattle.std.specs.List.{enumerate_from, filter_map, fold}
use Rattle.std.specs.Option.{option_map_or}
use Rattle.sed_value.specs.declared.slot_type.Primitive.TheVariants as prim
use Rattle.sed_value.specs.declared.slot_type.SlotType.{SlotType}
use Rattle.sed_value.specs.declared.slot_type.SlotType.TheVariants.{Prim}
use Rattle.sed_value.specs.declared.value.Value.{Value}
use Rattle.sed_value.specs.declared.value.Value.TheVariants.{Nothing}
use Rattle.sed_typed.specs.declared.schema.ActionArg.{ActionArg}
use Rattle.sed_typed.specs.declared.schema.ActionArg.TheVariants.{Void, Bool as BoolArg, Int as IntArg, Long as LongArg}
use Rattle.sed_typed.specs.declared.schema.SlotForm.{SlotForm}
use Rattle.sed_typed.specs.declared.schema.SlotForm.TheVariants.{Prop, Action}
use Rattle.sed_typed.specs.declared.schema.SlotInfo.{SlotInfo}
use Rattle.sed_typed.specs.Classes.{slots}
use Rattle.sed_engine.specs.Code.{Meaning, Object, slot_type, with_slot}

abbrev pub is_property_form : SlotForm → Bool
is_property_form (Prop t) = true
is_property_form (Action a) = false

-- a property that the application file keeps, and one that it does not; at an action the mark means nothing
abbrev pub is_config : SlotInfo → Bool
is_config s = is_property_form s.form && s.config

abbrev pub is_runtime : SlotInfo → Bool
is_runtime s = is_property_form s.form && not s.config

-- the numbers of the slots of a class that are of a sort, in their order
abbrev pub slots_that : (SlotInfo → Bool) → Meaning → ℕ → List ℕ
slots_that is m class = map (λ (e : ℕ × SlotInfo). e.0)
    (filter (λ (e : ℕ × SlotInfo). is e.1) (enumerate_from 0 (slots m.schema.classes class)))

abbrev pub config_slots : Meaning → ℕ → List ℕ
config_slots m class = slots_that is_config m class

abbrev pub runtime_slots : Meaning → ℕ → List ℕ
runtime_slots m class = slots_that is_runtime m class

-- the types of the values that an add gives: those of the config properties, in the order of the slots
abbrev pub config_types : Meaning → ℕ → List SlotType
config_types m class = filter_map (slot_type m class) (config_slots m class)

-- the type of an action's argument, if it has one
abbrev pub argument_types : ActionArg → List SlotType
argument_types Void = []
argument_types BoolArg = Prim prim.Bool ∷ []
argument_types IntArg = Prim prim.Int ∷ []
argument_types LongArg = Prim prim.Long ∷ []

-- the first of several values, where there is one
abbrev pub first_of : List Value → Value
first_of values = option_map_or (λ v. v) (slice_get values 0) Nothing

-- an object with values in slots, one after another in the order of the slots
abbrev pub with_slots : Meaning → List (ℕ × Value) → Object → Object
with_slots m values o = fold (λ o (e : ℕ × Value). with_slot m o e.0 e.1) o values
