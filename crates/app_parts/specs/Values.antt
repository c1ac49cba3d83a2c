-- The values of a component's properties, as bytes.
use Rattle.std.specs.Prelude.{ℕ, Bool, if◌then◌else◌, List, [], map, slice_get}
use Rattle.std.specs.Option.{option_map_or}
use Rattle.sed_typed.specs.declared.schema.SlotInfo.{SlotInfo}
use Rattle.sed_typed.specs.Classes.{slots}
use Rattle.sed_typed.specs.Sizes.{value_size}
use Rattle.sed_engine.specs.Code.{Meaning}
use Rattle.comp_tree.specs.Application.{ById, value_at}
use Rattle.comp_tree.specs.Parts.{is_config, is_runtime, slots_that}
use Rattle.comp_tree.specs.Values.{spelling_of, spelling_of_all}
use Rattle.app_parts.specs.declared.values.Values.{Values}
use Rattle.app_parts.specs.declared.values.Values.TheVariants.{Config, Runtime}

-- a slot whose value is told
abbrev pub is_told : Values → SlotInfo → Bool
is_told Config s = is_config s
is_told Runtime s = is_runtime s

-- the values of the component with an id in the slots that are told, as those of its class
abbrev pub values_bytes : Meaning → ById → ℕ → ℕ → Values → List ℕ
values_bytes m all id class which = spelling_of_all (map (value_at m all id) (slots_that (is_told which) m class))

-- of the one slot with a number: nothing where it is not told
abbrev pub slot_bytes : Meaning → ById → ℕ → ℕ → Values → ℕ → List ℕ
slot_bytes m all id class which slot =
    option_map_or (λ (s : SlotInfo). if is_told which s then spelling_of (value_at m all id slot)
    else []) (slice_get (slots m.schema.classes class) slot) []

-- and how many bytes that may be
abbrev pub slot_size : Meaning → ℕ → Values → ℕ → ℕ
slot_size m class which slot =
    option_map_or (λ (s : SlotInfo). if is_told which s then value_size s.form
    else 0) (slice_get (slots m.schema.classes class) slot) 0
