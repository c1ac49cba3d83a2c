-- A component alone: what cycles do to it, and how it prints.
use Rattle.std.specs.Prelude.{ℕ, zero, suc, ◌*◌, ℤ, pos, ◌==◌, if◌then◌else◌, List, [], ◌++◌}
use Rattle.std.specs.List.{enumerate_from, flat_map}
use Rattle.sed_value.specs.declared.value.Value.TheVariants as kept
use Rattle.sed_typed.specs.declared.schema.SlotForm.{SlotForm}
use Rattle.sed_typed.specs.declared.schema.SlotForm.TheVariants.{Prop, Action}
use Rattle.sed_typed.specs.declared.schema.SlotInfo.{SlotInfo}
use Rattle.sed_typed.specs.Classes.{slots}
use Rattle.sed_typed.specs.Contents.{Contents}
use Rattle.sed_engine.specs.declared.call.CallEnd.{CallEnd}
use Rattle.sed_engine.specs.declared.call.CallEnd.TheVariants.{Done, Trap}
use Rattle.sed_engine.specs.declared.call.Root.TheVariants.{Execute}
use Rattle.sed_engine.specs.Code.{Meaning, Object, new_object, slot_value, root_of, called}
use Rattle.sed_engine.specs.Root.{RootEnd}
use Rattle.printed_app.specs.Printed.{property_line, fault_line}

-- a component, the statics of its code, and its fault
pub record Alone : Type 0 where
  pub object : Object
  pub statics : Contents
  pub fault : ℕ

-- a new component of a class, beside these statics
abbrev pub begun : Meaning → ℕ → Contents → Alone
begun m class statics = record { object = new_object m class; statics = statics; fault = 0 }

-- ---- cycles

-- the fault that a root call leaves: a trap is one
abbrev pub fault_by : CallEnd → ℕ
fault_by (Done left) = 0
fault_by (Trap number) = number

-- what a root call leaves of a component
abbrev pub left_by : Alone → RootEnd → Alone
left_by a e = record { object = called a.object e; statics = e.statics; fault = fault_by e.end }

-- a component is executed with so many turns at a moment, and while it is faulted it is not
abbrev pub executed : Meaning → ℕ → ℤ → Alone → Alone
executed m turns moment a =
    if a.fault == 0 then left_by a (root_of m a.object a.statics Execute kept.Nothing turns moment) else a

-- a cycle, counted from 1, comes a second after the one before it; moments are in nanoseconds
abbrev pub moment_of : ℕ → ℤ
moment_of cycle = pos (cycle * 1000000000)

abbrev pub after_cycles : Meaning → ℕ → ℕ → Alone → Alone
after_cycles m turns zero a = a
after_cycles m turns (suc n) a = executed m turns (moment_of (suc n)) (after_cycles m turns n a)

-- ---- printed

abbrev pub form_line : Meaning → Object → ℕ → List ℕ → SlotForm → List ℕ
form_line m o slot name (Prop t) = property_line name (slot_value m o slot)
form_line m o slot name (Action a) = []

-- the line of a slot by its number, if it is a property
abbrev pub slot_line : Meaning → Object → ℕ × SlotInfo → List ℕ
slot_line m o e = form_line m o e.0 e.1.name e.1.form

-- the properties in the order of the slots, and then the fault
abbrev pub component_text : Meaning → Object → ℕ → List ℕ
component_text m o fault = flat_map (slot_line m o) (enumerate_from 0 (slots m.schema.classes o.class))
    ++ fault_line fault
