-- The parts of a component as bytes, and what of an application is kept in a file.
use Rattle.std.specs.Prelude.{ℕ, ◌==◌, if◌then◌else◌, List, [], ◌∷◌, ◌++◌, length, slice_get, map, Option, Some, None}
use Rattle.std.specs.Option.{option_map_or}
use Rattle.std.specs.List.{flat_map}
use Rattle.sed_value.specs.declared.value.Value.{Value}
use Rattle.sed_typed.specs.declared.schema.ClassInfo.{ClassInfo}
use Rattle.sed_typed.specs.Contents.{Contents}
use Rattle.sed_engine.specs.Code.{Meaning, new_object, slot_value}
pub use Rattle.sub_table.specs.Links.{links_at}
pub use Rattle.node_table.specs.Properties.{is_property_form, is_config, is_runtime, slots_that, config_slots}
pub use Rattle.node_table.specs.Properties.{runtime_slots, with_slots}
pub use Rattle.sed_wire.specs.Number.{u1, u2}
use Rattle.sed_value.specs.Mapped.{map_values}
use Rattle.comp_tree.specs.Application.{Application, ById, Component, Link, object_of}
use Rattle.node_table.specs.Values.{spelling_of_all}

-- ---- the properties of a class

abbrev pub values_in : Meaning → Component → List ℕ → List Value
values_in m c numbers = map (slot_value m (object_of c)) numbers

-- ---- the parts

-- no component has this id
abbrev pub no_id : ℕ
no_id = 65535

-- a text, and the 0 that ends it
abbrev pub text : List ℕ → List ℕ
text characters = characters ++ 0 ∷ []

-- the kit of a class and its number there
abbrev pub class_bytes : Meaning → ℕ → List ℕ
class_bytes m class = option_map_or (λ (c : ClassInfo). u1 c.kit ++ u1 c.number) (slice_get m.schema.classes class) []

-- `t`: the type, the name, the parent, the permissions, which are always all, and the children
abbrev pub tree_part : Meaning → Component → List ℕ
tree_part m c =
    class_bytes m c.class ++ text c.name ++ u2 (option_map_or (λ id. id) c.parent no_id) ++ u1 255
    ++ u1 (length c.children) ++ flat_map u2 c.children

-- `c` and `r`: the values of the config and of the runtime properties, in the order of the slots
abbrev pub config_part : Meaning → Component → List ℕ
config_part m c = spelling_of_all (values_in m c (config_slots m c.class))

abbrev pub runtime_part : Meaning → Component → List ℕ
runtime_part m c = spelling_of_all (values_in m c (runtime_slots m c.class))

abbrev pub link_bytes : Link → List ℕ
link_bytes l = u2 l.from ++ u1 l.from_slot ++ u2 l.to ++ u1 l.to_slot

-- `l`: the links at the component, in the order of their targets
abbrev pub link_part : ℕ → List Link → List ℕ
link_part id links = flat_map link_bytes (links_at id links) ++ u2 no_id

-- `f`: the fault
abbrev pub fault_part : Component → List ℕ
fault_part c = u1 c.fault

-- the part that a letter names: t, c, r, l or f
abbrev pub part_of : Meaning → List Link → ℕ → Component → ℕ → Option (List ℕ)
part_of m links id c letter =
    if letter == 116 then Some (tree_part m c)
    else if letter == 99 then Some (config_part m c)
    else if letter == 114 then Some (runtime_part m c)
    else if letter == 108 then Some (link_part id links)
    else if letter == 102 then Some (fault_part c)
    else None

-- ---- what is kept

-- the contents of a new object, but with a component's values in the config slots
abbrev pub kept_contents : Meaning → Component → Contents
kept_contents m c =
    (with_slots m (map (λ slot. (slot, slot_value m (object_of c) slot)) (config_slots m c.class))
    (new_object m c.class)).contents

abbrev pub kept_component : Meaning → Component → Component
kept_component m c = record {
  class = c.class;
  name = c.name;
  parent = c.parent;
  children = c.children;
  contents = kept_contents m c;
  fault = 0;
}

abbrev pub kept_by_id : Meaning → ById → ById
kept_by_id m all = map_values (kept_component m) all

-- the application with runtime slots, other fields, statics and faults as they begin
abbrev pub Kept : Meaning → Application → Application
Kept m a = record {
  components = record {
    by_id = kept_by_id m a.components.by_id;
    statics = m.initial_statics;
    limit = a.components.limit;
  };
  links = a.links;
}
