-- When a command is refused. Each table has a row for each refusal: its condition, and its name. The refusals stand in
-- the order of their rows, and the first whose condition holds is given. Want of memory stands in none, for it may come
-- wherever no refusal of an add or of a new link does.
use Rattle.std.specs.Prelude.{ℕ, ◌==◌, ◌||◌, ◌&&◌, ◌+◌, ◌*◌, Bool, true, false, not, is_none, nat_le, nat_lt, List, []}
use Rattle.std.specs.Prelude.{◌∷◌, length, Option, Some, None, count_by}
use Rattle.std.specs.List.{list_all, list_any}
use Rattle.std.specs.Option.{option_map, option_map_or, option_to_list}
use Rattle.std.specs.FinMap as map
use Rattle.std.specs.Str.{bytes_eq}
use Rattle.sed_value.specs.Names.{is_name}
use Rattle.sed_value.specs.declared.refusal.Refusal.{Refusal}
use Rattle.sed_value.specs.declared.refusal.Refusal.TheVariants.{AbstractType, AppItself, BadName, BadValue}
use Rattle.sed_value.specs.declared.refusal.Refusal.TheVariants.{BufferTooLong, ComponentLimit, DataFull, Faulted}
use Rattle.sed_value.specs.declared.refusal.Refusal.TheVariants.{LinkLimit, LinksAtComponent, LinkTypesDiffer}
use Rattle.sed_value.specs.declared.refusal.Refusal.TheVariants.{NameTaken, NoComponent, NoLink, NoSlot, NotTheChildren}
use Rattle.sed_value.specs.declared.refusal.Refusal.TheVariants.{NoType, TargetLinked, TooDeep, TooManyChildren}
use Rattle.sed_value.specs.declared.refusal.Refusal.TheVariants.{WrongKindOfSlot}
use Rattle.sed_value.specs.declared.slot_type.SlotType.{SlotType}
use Rattle.sed_typed.specs.declared.schema.ActionArg.{ActionArg}
use Rattle.sed_typed.specs.declared.schema.SlotForm.{SlotForm}
use Rattle.sed_typed.specs.declared.schema.SlotForm.TheVariants.{Prop, Action}
use Rattle.sed_typed.specs.Schemas.{type_at as class_numbered}
use Rattle.sed_typed.specs.SysTypes as typed
use Rattle.sed_typed.specs.TypedSchema.{is_abstract}
use Rattle.sed_engine.specs.Code.{Meaning}
pub use Rattle.node_table.specs.Properties.{config_types, argument_types}
pub use Rattle.node_table.specs.Rows.{first_refusal}
use Rattle.comp_tree.specs.Application.{ById, Components, Link, children_of, data_size_of, fault_of, form_at}
use Rattle.comp_tree.specs.Application.{greatest_depth, is_live, most_children, most_components, most_links}
use Rattle.comp_tree.specs.Application.{most_links_at_component, name_of, parent_of, type_at}
use Rattle.comp_tree.specs.Links.{go_together_if_there, has_target, is_same_link}
use Rattle.comp_tree.specs.Order.{depth}
use Rattle.comp_tree.specs.Parts.{links_at}
use Rattle.node_table.specs.Values.{are_bad_values, have_long_buffer}

-- ---- the conditions

-- a class is the type of kit `sys` with this number
abbrev pub is_sys_type : Meaning → ℕ → ℕ → Bool
is_sys_type m number class = typed.is_sys_type m.schema.classes number class

-- a class stands below `Component`, and is not `App`
abbrev pub is_for_components : Meaning → ℕ → Bool
is_for_components m class = typed.is_for_components m.schema.classes class

abbrev pub has_no_type : Meaning → ℕ → ℕ → Bool
has_no_type m kit number =
    option_map_or (λ class. not (is_for_components m class)) (class_numbered m.schema.classes kit number) true

abbrev pub is_abstract_class : Meaning → ℕ → Bool
is_abstract_class m class = is_abstract m.schema.classes class

abbrev pub is_abstract_type : Meaning → ℕ → ℕ → Bool
is_abstract_type m kit number = option_map_or (is_abstract_class m) (class_numbered m.schema.classes kit number) false

-- a child of the parent has the name
abbrev pub is_child_named : ById → ℕ → List ℕ → Bool
is_child_named all parent name = list_any (λ child. bytes_eq (name_of all child) name) (children_of all parent)

-- a child of a component's parent has the name, and is another one
abbrev pub is_other_child_named : ById → ℕ → List ℕ → Bool
is_other_child_named all id name =
    option_map_or (λ parent. list_any (λ child. not (child == id) && bytes_eq (name_of all child) name)
    (children_of all parent)) (parent_of all id) false

-- the types of the values that an add gives
abbrev pub config_types_of : Meaning → ℕ → ℕ → List SlotType
config_types_of m kit number = option_map_or (config_types m) (class_numbered m.schema.classes kit number) []

abbrev pub passes_limit : Meaning → Components → ℕ → ℕ → Bool
passes_limit m a kit number =
    option_map_or (λ class. nat_lt a.limit (data_size_of m a.by_id + m.data_size class))
    (class_numbered m.schema.classes kit number) false

abbrev pub action_argument : Option SlotForm → Option ActionArg
action_argument None = None
action_argument (Some (Prop t)) = None
action_argument (Some (Action a)) = Some a

abbrev pub argument_at : Meaning → ById → ℕ → ℕ → Option ActionArg
argument_at m all id slot = action_argument (form_at m all id slot)

-- the types of the values that a write and an invoke give
abbrev pub write_types : Meaning → ById → ℕ → ℕ → List SlotType
write_types m all id slot = option_to_list (type_at m all id slot)

abbrev pub invoke_types : Meaning → ById → ℕ → ℕ → List SlotType
invoke_types m all id slot = option_map_or argument_types (argument_at m all id slot) []

-- ids in two bytes each; none where a byte is left over
abbrev pub ids_of : List ℕ → Option (List ℕ)
ids_of [] = Some []
ids_of (high ∷ []) = None
ids_of (high ∷ low ∷ bytes) = option_map (λ ids. (high * 256 + low) ∷ ids) (ids_of bytes)

-- they are these, each once
abbrev pub are_each_once : List ℕ → List ℕ → Bool
are_each_once children ids = (length ids == length children)
    && list_all (λ child. count_by (λ id. id == child) ids == 1) children

abbrev pub are_the_children : ById → ℕ → List ℕ → Bool
are_the_children all id bytes = option_map_or (are_each_once (children_of all id)) (ids_of bytes) false

-- ---- the tables

-- add: 3 4 5 6 7 8 9 10 14 15 11
abbrev pub refusals_of_add : Meaning → Components → ℕ → ℕ → ℕ → List ℕ → List ℕ → List (Bool × Refusal)
refusals_of_add m a parent kit number name config =
    (not (is_live a.by_id parent), NoComponent)
    ∷ (has_no_type m kit number, NoType)
    ∷ (is_abstract_type m kit number, AbstractType)
    ∷ (not (is_name name), BadName)
    ∷ (is_child_named a.by_id parent name, NameTaken)
    ∷ (nat_le most_children (length (children_of a.by_id parent)), TooManyChildren)
    ∷ (nat_le greatest_depth (depth a.by_id parent), TooDeep)
    ∷ (nat_le most_components (map.len a.by_id), ComponentLimit)
    ∷ (are_bad_values (config_types_of m kit number) config, BadValue)
    ∷ (have_long_buffer (config_types_of m kit number) config, BufferTooLong)
    ∷ (passes_limit m a kit number, DataFull)
    ∷ []

-- read of a part: 3
abbrev pub refusals_of_part : ById → ℕ → List (Bool × Refusal)
refusals_of_part all id = (not (is_live all id), NoComponent) ∷ []

-- delete: 3 22
abbrev pub refusals_of_delete : ById → ℕ → List (Bool × Refusal)
refusals_of_delete all id =
    (not (is_live all id), NoComponent)
    ∷ (id == 0, AppItself)
    ∷ []

-- invoke: 3 12 13 14 23, and 25 24 where it is the App's `save`, which are the node's
abbrev pub refusals_of_invoke : Meaning → ById → ℕ → ℕ → List ℕ → List (Bool × Refusal)
refusals_of_invoke m all id slot argument =
    (not (is_live all id), NoComponent)
    ∷ (is_none (form_at m all id slot), NoSlot)
    ∷ (is_none (argument_at m all id slot), WrongKindOfSlot)
    ∷ (are_bad_values (invoke_types m all id slot) argument, BadValue)
    ∷ (not (fault_of all id == 0), Faulted)
    ∷ []

-- a new link: 3 12 13 16 17 18 19
abbrev pub refusals_of_link : Meaning → ById → List Link → Link → List (Bool × Refusal)
refusals_of_link m all links l =
    (not (is_live all l.from) || not (is_live all l.to), NoComponent)
    ∷ (is_none (form_at m all l.from l.from_slot) || is_none (form_at m all l.to l.to_slot), NoSlot)
    ∷ (is_none (type_at m all l.from l.from_slot) || is_none (type_at m all l.to l.to_slot), WrongKindOfSlot)
    ∷ (not (go_together_if_there (type_at m all l.from l.from_slot) (type_at m all l.to l.to_slot)), LinkTypesDiffer)
    ∷ (list_any (has_target l.to l.to_slot) links, TargetLinked)
    ∷ (
      nat_le most_links_at_component (length (links_at l.from links))
          || nat_le most_links_at_component (length (links_at l.to links)),
      LinksAtComponent,
    )
    ∷ (nat_le most_links (length links), LinkLimit)
    ∷ []

-- a link that is taken away: 20
abbrev pub refusals_of_unlink : List Link → Link → List (Bool × Refusal)
refusals_of_unlink links l = (not (list_any (is_same_link l) links), NoLink) ∷ []

-- rename: 3 6 7 22
abbrev pub refusals_of_rename : ById → ℕ → List ℕ → List (Bool × Refusal)
refusals_of_rename all id name =
    (not (is_live all id), NoComponent)
    ∷ (not (is_name name), BadName)
    ∷ (is_other_child_named all id name, NameTaken)
    ∷ (id == 0, AppItself)
    ∷ []

-- reorder: 3 21
abbrev pub refusals_of_reorder : ById → ℕ → List ℕ → List (Bool × Refusal)
refusals_of_reorder all id children =
    (not (is_live all id), NoComponent)
    ∷ (not (are_the_children all id children), NotTheChildren)
    ∷ []

-- read of a property: 3 12 13
abbrev pub refusals_of_read : Meaning → ById → ℕ → ℕ → List (Bool × Refusal)
refusals_of_read m all id slot =
    (not (is_live all id), NoComponent)
    ∷ (is_none (form_at m all id slot), NoSlot)
    ∷ (is_none (type_at m all id slot), WrongKindOfSlot)
    ∷ []

-- write: 3 12 13 14 15
abbrev pub refusals_of_write : Meaning → ById → ℕ → ℕ → List ℕ → List (Bool × Refusal)
refusals_of_write m all id slot value =
    (not (is_live all id), NoComponent)
    ∷ (is_none (form_at m all id slot), NoSlot)
    ∷ (is_none (type_at m all id slot), WrongKindOfSlot)
    ∷ (are_bad_values (write_types m all id slot) value, BadValue)
    ∷ (have_long_buffer (write_types m all id slot) value, BufferTooLong)
    ∷ []

-- clear, subscribe and unsubscribe: 3
abbrev pub refusals_of_clear : ById → ℕ → List (Bool × Refusal)
refusals_of_clear all id = (not (is_live all id), NoComponent) ∷ []
