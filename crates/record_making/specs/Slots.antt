-- The slots of a class that are of a sort.
use Rattle.std.specs.Prelude.{ℕ, Bool, List, map, filter}
use Rattle.std.specs.List.{enumerate_from}
use Rattle.sed_typed.specs.declared.schema.SlotInfo.{SlotInfo}
use Rattle.node_table.specs.Properties.{is_config}
use Rattle.record_making.specs.declared.class.Sort.{Sort}
use Rattle.record_making.specs.declared.class.Sort.TheVariants.{Config, Int}
use Rattle.record_making.specs.Types.{is_int}

abbrev pub is_of : Sort → SlotInfo → Bool
is_of Config slot = is_config slot
is_of Int slot = is_int slot

-- the numbers of those of which a test holds, in their order
abbrev pub numbers_that : (SlotInfo → Bool) → List SlotInfo → List ℕ
numbers_that is slots = map (λ (e : ℕ × SlotInfo). e.0) (filter (λ (e : ℕ × SlotInfo). is e.1) (enumerate_from 0 slots))
