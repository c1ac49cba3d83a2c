-- Links between slots, and what is copied along them.
use Rattle.std.specs.Prelude.{ℕ, Bool, false, not, if◌then◌else◌, List, Option, Some, ℤ}
use Rattle.std.specs.List.{fold}
use Rattle.sed_value.specs.SlotType.{goes_with}
use Rattle.sed_value.specs.declared.slot_type.SlotType.{SlotType}
use Rattle.sed_value.specs.declared.value.Value.{Value}
pub use Rattle.sub_table.specs.Links.{is_same_link, has_target, is_before, with_link, without_link, without_links_at}
pub use Rattle.sub_table.specs.Links.{links_into}
use Rattle.sed_engine.specs.declared.call.Callback.TheVariants.{Changed}
use Rattle.sed_engine.specs.Code.{Meaning, with_slot}
use Rattle.comp_tree.specs.Application.{Component, Components, Link, change_at, object_of, value_at, with_components}
use Rattle.comp_tree.specs.Calls.{Call, Counted, then_run}
use Rattle.node_table.specs.Same.{is_same_value}

-- ---- which slots go together

-- both are properties, and the type of the first goes with that of the other
abbrev pub go_together_if_there : Option SlotType → Option SlotType → Bool
go_together_if_there (Some from) (Some to) = goes_with from to
go_together_if_there from to = false

-- ---- values that are stored

-- a component with another value in a slot, as an assignment stores it
abbrev pub with_value : Meaning → ℕ → Value → Component → Component
with_value m slot v c = record {
  class = c.class;
  name = c.name;
  parent = c.parent;
  children = c.children;
  contents = (with_slot m (object_of c) slot v).contents;
  fault = c.fault;
}

abbrev pub store : Meaning → Components → ℕ → ℕ → Value → Components
store m a id slot v = with_components a (change_at a.by_id id (with_value m slot v))

-- the stored value differs from the one before
abbrev pub has_changed : Meaning → Components → Components → ℕ → ℕ → Bool
has_changed m before after id slot =
    not (is_same_value (value_at m before.by_id id slot) (value_at m after.by_id id slot))

-- what is copied along a link: the source's value, stored in the target
abbrev pub copy : Meaning → Components → Link → Components
copy m a l = store m a l.to l.to_slot (value_at m a.by_id l.from l.from_slot)

-- a copy, and then the target's `changed` where the stored value differs
abbrev pub copy_along : Meaning → ℕ → ℤ → Counted → Link → Counted
copy_along m turns moment s l =
    let after : Components = copy m s.left l in
    if has_changed m s.left after l.to l.to_slot
    then then_run (record { left = after; traps = s.traps }) (λ a. Call m a l.to Changed l.to_slot turns moment)
    else record { left = after; traps = s.traps }

-- the links into a component, one after another
abbrev pub copy_into : Meaning → List Link → ℕ → ℤ → Counted → ℕ → Counted
copy_into m links turns moment s id = fold (copy_along m turns moment) s (links_into id links)
