-- The number of a config slot.
use Rattle.std.specs.Prelude.{ℕ, false, if◌then◌else◌, List, [], ◌∷◌, slice_get}
use Rattle.std.specs.Option.{option_map_or}
use Rattle.sed_typed.specs.declared.schema.SlotInfo.{SlotInfo}
use Rattle.node_table.specs.Properties.{is_config}

-- that of the slot at a place, where it is one
abbrev pub number_if_config : List SlotInfo → ℕ → List ℕ
number_if_config slots place = if option_map_or is_config (slice_get slots place) false then place ∷ [] else []
