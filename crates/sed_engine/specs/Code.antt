-- A code, as everything above an engine knows it, and the objects that an engine keeps of it.
use Rattle.std.specs.Prelude.{ℕ, ℤ, Bool, true, false, ◌==◌, ◌&&◌, not, sum_by, List, [], ◌∷◌, slice_get, Option, Some}
use Rattle.std.specs.Prelude.{None}
use Rattle.std.specs.Option.{option_map, option_map_or}
use Rattle.std.specs.FinMap as map
use Rattle.std.specs.Ordering.{nat_cmp}
use Rattle.sed_value.specs.Value.{stored, goes_to, is_of_type}
use Rattle.sed_value.specs.declared.value.Value.{Value}
use Rattle.sed_value.specs.declared.value.Value.TheVariants as kept
use Rattle.sed_value.specs.declared.slot_type.Primitive.TheVariants as prim
use Rattle.sed_value.specs.declared.slot_type.SlotType.{SlotType}
use Rattle.sed_value.specs.declared.slot_type.SlotType.TheVariants.{Prim}
use Rattle.sed_typed.specs.declared.schema.ActionArg.{ActionArg}
use Rattle.sed_typed.specs.declared.schema.ActionArg.TheVariants.{Void, Bool as BoolArg, Int as IntArg, Long as LongArg}
use Rattle.sed_typed.specs.declared.schema.Schema.{Schema}
use Rattle.sed_typed.specs.declared.schema.SlotForm.{SlotForm}
use Rattle.sed_typed.specs.declared.schema.SlotForm.TheVariants.{Prop, Action}
use Rattle.sed_typed.specs.Classes.{slots}
use Rattle.sed_typed.specs.Contents.{Contents, Shape, value_at, with_value}
use Rattle.sed_engine.specs.declared.call.Root.{Root as Root-type}
use Rattle.sed_engine.specs.declared.call.Root.TheVariants.{Execute, Action as ActionRoot, Callback}
use Rattle.sed_engine.specs.declared.call.Callback.TheVariants.{Start, Stop, Changed}
use Rattle.sed_engine.specs.Root.{RootEnd}

-- what a root call is asked: to run a root of a class on contents and statics, with an argument, turns and a moment
pub record Question : Type 0 where
  pub class : ℕ
  pub contents : Contents
  pub statics : Contents
  pub which : Root-type
  pub argument : Value
  pub turns : ℕ
  pub moment : ℤ

-- what a code means: its schema, the fields of each class, the field behind each slot of a class, the statics, first
-- contents, data sizes, and what a root call does
pub record Meaning : Type 0 where
  pub schema : Schema
  pub fields : ℕ → List Shape
  pub slot_field : ℕ → ℕ → Option ℕ
  pub static_fields : List Shape
  pub initial : ℕ → Contents
  pub initial_statics : Contents
  pub data_size : ℕ → ℕ
  pub root : Question → RootEnd

-- what a live place holds
pub record Object : Type 0 where
  pub class : ℕ
  pub contents : Contents

-- the live places with their objects
abbrev pub Places : Type 0
Places = map.FinMap nat_cmp Object

abbrev pub slot_form : Meaning → ℕ → ℕ → Option SlotForm
slot_form m class slot = option_map (λ s. s.form) (slice_get (slots m.schema.classes class) slot)

-- the type of a slot that is a property
abbrev pub property_type : Option SlotForm → Option SlotType
property_type None = None
property_type (Some (Prop t)) = Some t
property_type (Some (Action a)) = None

abbrev pub slot_type : Meaning → ℕ → ℕ → Option SlotType
slot_type m class slot = property_type (slot_form m class slot)

-- the path of a property: its field
abbrev pub slot_path : Meaning → ℕ → ℕ → List ℕ
slot_path m class slot = option_map_or (λ i. i ∷ []) (m.slot_field class slot) []

-- the value in a slot
abbrev pub slot_value : Meaning → Object → ℕ → Value
slot_value m o slot = option_map_or (λ v. v) (value_at o.contents (slot_path m o.class slot)) kept.Nothing

-- what is kept of a value in a slot of this class
abbrev pub slot_keeps : Meaning → ℕ → ℕ → Value → Value
slot_keeps m class slot v = option_map_or (λ t. stored t v) (slot_type m class slot) v

-- an object with another value in a slot
abbrev pub with_slot : Meaning → Object → ℕ → Value → Object
with_slot m o slot v =
    record {
      class = o.class;
      contents = with_value o.contents (slot_path m o.class slot) (slot_keeps m o.class slot v);
    }

-- a new object of a class
abbrev pub new_object : Meaning → ℕ → Object
new_object m class = record { class = class; contents = m.initial class }

-- what a root call on an object gives, and the object that it leaves
abbrev pub asked_of : Object → Contents → Root-type → Value → ℕ → ℤ → Question
asked_of o statics which argument turns moment =
    record {
      class = o.class;
      contents = o.contents;
      statics = statics;
      which = which;
      argument = argument;
      turns = turns;
      moment = moment;
    }

abbrev pub root_of : Meaning → Object → Contents → Root-type → Value → ℕ → ℤ → RootEnd
root_of m o statics which argument turns moment = m.root (asked_of o statics which argument turns moment)

abbrev pub called : Object → RootEnd → Object
called o e = record { class = o.class; contents = e.contents }

-- the data sizes of the live objects together
abbrev pub data_of : Meaning → Places → ℕ
data_of m live = sum_by (λ o. m.data_size o.class) (map.values live)

-- a slot that is a property
abbrev pub is_property : Meaning → ℕ → ℕ → Bool
is_property m class slot = option_map_or (λ _. true) (slot_type m class slot) false

-- two slots that have a field each, and the same one: what is stored in the one is read in the other
abbrev pub is_same_field : Meaning → ℕ → ℕ → ℕ → Bool
is_same_field m class a b =
    option_map_or (λ i. option_map_or (λ j. i == j) (m.slot_field class b) false) (m.slot_field class a) false

-- a value that may be stored in a slot of this class
abbrev pub may_store : Meaning → ℕ → ℕ → Value → Bool
may_store m class slot v = option_map_or (λ t. goes_to t v) (slot_type m class slot) false

-- a value that an action is given
abbrev pub is_argument : ActionArg → Value → Bool
is_argument Void kept.Nothing = true
is_argument Void v = false
is_argument BoolArg v = is_of_type (Prim prim.Bool) v
is_argument IntArg v = is_of_type (Prim prim.Int) v
is_argument LongArg v = is_of_type (Prim prim.Long) v

-- of a slot that is an action
abbrev pub action_takes : Option SlotForm → Value → Bool
action_takes None v = false
action_takes (Some (Prop t)) v = false
action_takes (Some (Action a)) v = is_argument a v

-- a root that the class has, with an argument of its type
abbrev pub may_call : Meaning → ℕ → Root-type → Value → Bool
may_call m class Execute v = is_argument Void v
may_call m class (ActionRoot slot) v = action_takes (slot_form m class slot.0) v
may_call m class (Callback Start) v = is_argument Void v
may_call m class (Callback Stop) v = is_argument Void v
may_call m class (Callback Changed) v = is_argument IntArg v

-- a class of which components are made
abbrev pub is_creatable : Meaning → ℕ → Bool
is_creatable m class = option_map_or (λ c. c.is_component && not c.is_abstract) (slice_get m.schema.classes class) false
