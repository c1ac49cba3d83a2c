-- The slots of a class.
use Rattle.std.specs.Prelude.{ℕ, ◌+◌, Bool, true, false, not, ◌&&◌, ◌||◌, if◌then◌else◌, List, [], ◌∷◌, reverse, Option}
use Rattle.std.specs.Prelude.{Some, None}
use Rattle.std.specs.List.{filter_map, flat_map}
use Rattle.sed_value.specs.declared.slot_type.Primitive.TheVariants as prim
use Rattle.sed_value.specs.declared.slot_type.SlotType.{SlotType}
use Rattle.sed_value.specs.declared.slot_type.SlotType.TheVariants as slot
use Rattle.sed_typed.specs.declared.schema.ActionArg.{ActionArg}
use Rattle.sed_typed.specs.declared.schema.ActionArg.TheVariants as argument
use Rattle.sed_typed.specs.declared.schema.SlotForm.{SlotForm}
use Rattle.sed_typed.specs.declared.schema.SlotForm.TheVariants.{Prop, Action}
use Rattle.sed_typed.specs.declared.schema.SlotInfo.{SlotInfo}
use Rattle.sed_units.specs.declared.leaves.Param.{Param}
use Rattle.sed_units.specs.declared.classes.Member.{Member}
use Rattle.sed_classes.specs.declared.kit_units.KitUnits.{KitUnits}
use Rattle.sed_classes.specs.declared.source_type.SourceType.{SourceType}
use Rattle.sed_classes.specs.declared.source_type.SourceType.TheVariants.{Prim, Buf}
use Rattle.sed_classes.specs.Bases.{lineage}
use Rattle.sed_classes.specs.Types.{type_of}
use Rattle.sed_classes.specs.Members.{kit_of, members_of, is_config, is_property, is_action, is_method, overrides}
use Rattle.sed_classes.specs.Members.{form_params}

-- the type of a property; what is none has no slot
abbrev pub slot_type : SourceType → Option SlotType
slot_type (Prim p) = Some (slot.Prim p)
slot_type (Buf n) = Some (slot.Buf n)
slot_type t = None

abbrev pub argument_of : SourceType → ActionArg
argument_of (Prim prim.Bool) = argument.Bool
argument_of (Prim prim.Int) = argument.Int
argument_of (Prim prim.Long) = argument.Long
argument_of t = argument.Void

-- the argument of an action with these parameters
abbrev pub action_argument : List KitUnits → ℕ → List Param → ActionArg
action_argument units kit [] = argument.Void
action_argument units kit (p ∷ ps) = argument_of (type_of units kit p.kind)

-- An action that overrides none adds a slot. What overrides one has that one's.
abbrev pub is_new_action : Member → Bool
is_new_action m = is_method m && is_action m && not (overrides m)

-- a slot without its name: whether the application file keeps it, and its form
abbrev pub property_shape : Bool → Option SlotType → Option (Bool × SlotForm)
property_shape config None = None
property_shape config (Some t) = Some (config, Prop t)

-- that of the slot that a member of a class of a kit adds
abbrev pub shape_of : List KitUnits → ℕ → Member → Option (Bool × SlotForm)
shape_of units kit m =
    if is_property m then property_shape (is_config m.facets) (slot_type (type_of units kit m.kind))
    else if is_new_action m then Some (false, Action (action_argument units kit (form_params m.form)))
    else None

abbrev pub with_name : List ℕ → Option (Bool × SlotForm) → Option SlotInfo
with_name name None = None
with_name name (Some shape) = Some (record { name = name; config = shape.0; form = shape.1 })

-- the slot that a member adds
abbrev pub slot_of : List KitUnits → ℕ → Member → Option SlotInfo
slot_of units kit m = with_name m.name.bytes (shape_of units kit m)

-- the slots that a class adds, in the order of its members
abbrev pub own_slots : List KitUnits → ℕ → List SlotInfo
own_slots units class = filter_map (slot_of units (kit_of units class)) (members_of units class)

-- the slots of a class, inherited ones first
abbrev pub slots : List KitUnits → ℕ → List SlotInfo
slots units class = flat_map (own_slots units) (reverse (lineage units class))
