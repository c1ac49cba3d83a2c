-- The printed form of an application: its components, depth first, and then its links.
use Rattle.std.specs.Prelude.{ℕ, ◌==◌, if◌then◌else◌, List, [], ◌∷◌, ◌++◌, reverse, slice_get, codes}
use Rattle.std.specs.Fmt.{decimal}
use Rattle.std.specs.FinMap as map
use Rattle.std.specs.List.{enumerate_from, flat_map}
use Rattle.std.specs.Option.{option_map_or}
use Rattle.sed_value.specs.declared.kit.KitRef.{KitRef}
use Rattle.sed_typed.specs.declared.schema.ClassInfo.{ClassInfo}
use Rattle.sed_typed.specs.declared.schema.SlotInfo.{SlotInfo}
use Rattle.sed_typed.specs.Classes.{slots}
use Rattle.sed_engine.specs.Code.{Meaning}
use Rattle.printed_app.specs.Printed.{fault_line, line_end, property_line}
use Rattle.comp_tree.specs.Application.{Application, ById, Component, Link, name_of, value_at}
use Rattle.comp_tree.specs.Order.{ancestors, depth_first}
use Rattle.comp_tree.specs.Parts.{is_property_form}

-- ---- components

-- what the path of a component has of each one on the way to it: nothing of the App
abbrev pub step_text : ById → ℕ → List ℕ
step_text all id = if id == 0 then [] else codes "/" ++ name_of all id

-- `/` for the App; for another component the names on the way down to it, each behind a `/`
abbrev pub path_text : ById → ℕ → List ℕ
path_text all id = if id == 0 then codes "/" else flat_map (step_text all) (reverse (id ∷ ancestors all id))

abbrev pub kit_name : Meaning → ℕ → List ℕ
kit_name m kit = option_map_or (λ (k : KitRef). k.name) (slice_get m.schema.kits kit) []

-- `KIT::TYPE`
abbrev pub class_text : Meaning → ℕ → List ℕ
class_text m class =
    option_map_or (λ (c : ClassInfo). kit_name m c.kit ++ (codes "::" ++ c.name)) (slice_get m.schema.classes class) []

-- `PATH KIT::TYPE id=ID fault=N`
abbrev pub component_line : Meaning → ById → ℕ → ℕ → ℕ → List ℕ
component_line m all id class fault =
    path_text all id ++ (codes " "
    ++ (class_text m class ++ (codes " id=" ++ (decimal id ++ (codes " " ++ fault_line fault)))))

-- `NAME=VALUE` behind two spaces where a slot is a property, and nothing where it is an action
abbrev pub slot_line : Meaning → ById → ℕ → ℕ × SlotInfo → List ℕ
slot_line m all id e =
    if is_property_form e.1.form then codes "  " ++ property_line e.1.name (value_at m all id e.0) else []

-- the properties, in the order of the slots
abbrev pub property_lines : Meaning → ById → ℕ → ℕ → List ℕ
property_lines m all id class = flat_map (slot_line m all id) (enumerate_from 0 (slots m.schema.classes class))

abbrev pub component_text : Meaning → ById → ℕ → List ℕ
component_text m all id =
    option_map_or (λ (c : Component). component_line m all id c.class c.fault ++ property_lines m all id c.class)
    (map.get all id) []

-- ---- links

-- `ID.SLOT`
abbrev pub end_text : ℕ → ℕ → List ℕ
end_text id slot = decimal id ++ (codes "." ++ decimal slot)

-- `link ID.SLOT -> ID.SLOT`
abbrev pub link_line : Link → List ℕ
link_line l = codes "link " ++ (end_text l.from l.from_slot ++ (codes " -> " ++ (end_text l.to l.to_slot ++ line_end)))

-- ---- the whole

-- a component before its children, and these in their order; the links stand in ascending order of their targets
abbrev pub application_text : Meaning → Application → List ℕ
application_text m a =
    flat_map (component_text m a.components.by_id) (depth_first a.components.by_id) ++ flat_map link_line a.links
