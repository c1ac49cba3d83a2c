-- What each command leaves of the components, where nothing refuses it.
use Rattle.std.specs.Prelude.{ℕ, ℤ, ◌==◌, not, if◌then◌else◌, List, [], ◌∷◌, ◌++◌, filter, codes, Option, Some, None}
use Rattle.std.specs.List.{list_any, zip}
use Rattle.std.specs.Option.{option_map_or}
use Rattle.std.specs.FinMap as map
use Rattle.std.specs.Ordering.{nat_cmp}
use Rattle.sed_value.specs.declared.value.Value.{Value}
use Rattle.sed_typed.specs.declared.number.SlotNo.{SlotNo}
use Rattle.sed_typed.specs.Contents.{Contents}
use Rattle.sed_typed.specs.Schemas.{type_at as class_numbered}
use Rattle.sed_typed.specs.SysTypes.{app_type}
use Rattle.sed_engine.specs.declared.call.Callback.TheVariants.{Start, Stop, Changed}
use Rattle.sed_engine.specs.declared.call.Root.TheVariants.{Action}
use Rattle.sed_engine.specs.Code.{Meaning, new_object}
use Rattle.comp_tree.specs.Application.{ById, Component, Components, change_at, parent_of, with_components}
use Rattle.comp_tree.specs.Calls.{Call, Ran, call_each, run_at}
use Rattle.comp_tree.specs.Links.{has_changed, store}
use Rattle.comp_tree.specs.Order.{least_free, subtree}
pub use Rattle.node_table.specs.Properties.{first_of}
use Rattle.node_table.specs.Properties.{config_slots, config_types, with_slots}
use Rattle.node_table.specs.Values.{taken}
use Rattle.comp_tree.specs.Refusals.{ids_of, invoke_types, write_types}

-- ---- parts of a component that change

abbrev pub with_name : List ℕ → Component → Component
with_name name c = record {
  class = c.class;
  name = name;
  parent = c.parent;
  children = c.children;
  contents = c.contents;
  fault = c.fault;
}

abbrev pub with_children : List ℕ → Component → Component
with_children children c = record {
  class = c.class;
  name = c.name;
  parent = c.parent;
  children = children;
  contents = c.contents;
  fault = c.fault;
}

abbrev pub with_child : ℕ → Component → Component
with_child id c = with_children (c.children ++ id ∷ []) c

abbrev pub without_child : ℕ → Component → Component
without_child id c = with_children (filter (λ child. not (child == id)) c.children) c

abbrev pub without_fault : Component → Component
without_fault c = record {
  class = c.class;
  name = c.name;
  parent = c.parent;
  children = c.children;
  contents = c.contents;
  fault = 0;
}

-- ---- add

-- a new component: its config properties have these values, stored in the order of the slots, and the rest is as it
-- begins
abbrev pub new_component : Meaning → Option ℕ → ℕ → List ℕ → List Value → Component
new_component m parent class name values = record {
  class = class;
  name = name;
  parent = parent;
  children = [];
  contents = (with_slots m (zip (config_slots m class) values) (new_object m class)).contents;
  fault = 0;
}

-- the last child of its parent
abbrev pub added : Meaning → ById → ℕ → ℕ → ℕ → List ℕ → List Value → ById
added m all id parent class name values =
    map.insert (change_at all parent (with_child id)) id (new_component m (Some parent) class name values)

-- the new component takes the least free id; then its `start` is called
abbrev pub after_add : Meaning → Components → ℕ → ℕ → List ℕ → List ℕ → ℕ → ℤ → Ran
after_add m a parent class name config turns moment =
    let id : ℕ = least_free a.by_id in
    Call m (with_components a (added m a.by_id id parent class name (taken (config_types m class) config)))
    id Start 0 turns moment

-- ---- delete

-- without what has one of these ids
abbrev pub without_all : {V : Type 0} → List ℕ → map.FinMap nat_cmp V → map.FinMap nat_cmp V
without_all ids all = map.retain_keys all (λ id. not (list_any (λ other. other == id) ids))

-- without a component and those below it: its parent has one child less
abbrev pub removed : ById → ℕ → ById
removed all id =
    without_all (subtree all id)
    (option_map_or (λ parent. change_at all parent (without_child id)) (parent_of all id) all)

-- first the `stop` of each is called, depth first
abbrev pub after_delete : Meaning → Components → ℕ → ℕ → ℤ → Components
after_delete m a id turns moment =
    let stopped : Components = (call_each m Stop turns moment a (subtree a.by_id id)).left in
    with_components stopped (removed stopped.by_id id)

-- ---- the other edits

-- the action is run with its argument; a trap is no refusal
abbrev pub after_invoke : Meaning → Components → ℕ → SlotNo → List ℕ → ℕ → ℤ → Ran
after_invoke m a id slot argument turns moment =
    run_at m a id (Action slot) (first_of (taken (invoke_types m a.by_id id slot.0) argument)) turns moment

abbrev pub after_rename : Components → ℕ → List ℕ → Components
after_rename a id name = with_components a (change_at a.by_id id (with_name name))

abbrev pub after_reorder : Components → ℕ → List ℕ → Components
after_reorder a id children =
    with_components a (change_at a.by_id id (with_children (option_map_or (λ ids. ids) (ids_of children) [])))

abbrev pub after_clear : Components → ℕ → Components
after_clear a id = with_components a (change_at a.by_id id without_fault)

-- the value is stored; `changed` is called where the stored value differs from the one before
abbrev pub after_write : Meaning → Components → ℕ → ℕ → List ℕ → ℕ → ℤ → Components
after_write m a id slot value turns moment =
    let after : Components = store m a id slot (first_of (taken (write_types m a.by_id id slot) value)) in
    if has_changed m a after id slot then (Call m after id Changed slot turns moment).left else after

-- ---- the App alone

abbrev pub app_class : Meaning → ℕ
app_class m = option_map_or (λ class. class) (class_numbered m.schema.classes 0 app_type) 0

abbrev pub app_component : Meaning → Component
app_component m = record {
  class = app_class m;
  name = codes "app";
  parent = None;
  children = [];
  contents = m.initial (app_class m);
  fault = 0;
}

abbrev pub first_components : Meaning → Contents → ℕ → Components
first_components m statics limit =
    record { by_id = map.insert map.empty 0 (app_component m); statics = statics; limit = limit }
