-- A whole program as a literal: kit `sys`, and kit `demo` with one class, of a ramp.
use Rattle.std.proofs.Common.{ℕ, pos, Bool, true, false, List, [], ◌∷◌, ◌++◌, Option, Some, None, codes}
use Rattle.sed_value.specs.declared.value.Value.TheVariants as kept
use Rattle.sed_value.specs.declared.slot_type.Primitive.TheVariants as prim
use Rattle.sed_value.specs.declared.slot_type.SlotType.TheVariants as slot
use Rattle.sed_typed.specs.declared.kind.Kind.TheVariants as kind
use Rattle.sed_typed.specs.declared.operators.Arithmetic.TheVariants as op
use Rattle.sed_typed.specs.declared.number.TypeNo.{TypeNo}
use Rattle.sed_typed.specs.declared.schema.ClassInfo.{ClassInfo}
use Rattle.sed_typed.specs.declared.schema.SlotInfo.{SlotInfo}
use Rattle.sed_typed.specs.declared.schema.SlotForm.TheVariants.{Prop}
use Rattle.sed_typed.specs.declared.program.Field.{Field}
use Rattle.sed_typed.specs.declared.program.FieldForm.TheVariants as form
use Rattle.sed_typed.specs.declared.program.Method.{Method}
use Rattle.sed_typed.specs.declared.program.Program.{Program}
use Rattle.sed_typed.specs.declared.statement.Stmt.{Stmt, end_of-Stmt}
use Rattle.sed_typed.specs.declared.statement.Stmt.TheVariants as stmt
use Rattle.sed_typed.specs.SysTypes.{meta_slot, save_slot}
use Rattle.sed_engine.proofs.Building.{Pointer, none, chain, by, own, set}

abbrev pub based_on : ℕ → Option TypeNo
based_on class = Some (record { 0 = class })

-- a class of a kit with its number, name, base, size and slots
abbrev pub class_of : ℕ → ℕ → List ℕ → Option TypeNo → Bool → Bool → ℕ → List SlotInfo → ClassInfo
class_of kit number name base abstract component size slots = record {
  kit = kit;
  number = number;
  name = name;
  base = base;
  is_abstract = abstract;
  is_component = component;
  size = size;
  slots = slots;
}

abbrev pub sys_kit : List ClassInfo
sys_kit =
    class_of 0 0 (codes "Obj") None true false 0 []
    ∷ class_of 0 1 (codes "Virtual") (based_on 0) true false 0 []
    ∷ class_of 0 2 (codes "Component") (based_on 1) true true 4 (meta_slot ∷ [])
    ∷ class_of 0 3 (codes "App") (based_on 2) false true 4 (meta_slot ∷ save_slot ∷ [])
    ∷ class_of 0 4 (codes "Folder") (based_on 2) false true 4 (meta_slot ∷ [])
    ∷ []

abbrev pub int_slot : List ℕ → Bool → SlotInfo
int_slot name config = record { name = name; config = config; form = Prop (slot.Prim prim.Int) }

-- the class of the ramp, number 5, with this base
abbrev pub ramp_class : ℕ → ClassInfo
ramp_class base = class_of 1 0 (codes "Ramp") (based_on base) false true 12 (meta_slot ∷ int_slot (codes "step") true ∷ int_slot (codes "out") false ∷ [])

-- an int property of a class in a slot, with its first value
abbrev pub int_property : ℕ → List ℕ → ℕ → ℕ → Field
int_property class name number n = record {
  class = record { 0 = class };
  name = name;
  form = form.Prim prim.Int;
  slot = Some (record { 0 = number });
  initial = kept.Int (pos n);
}

abbrev pub meta_field : Field
meta_field = int_property 2 (codes "meta") 0 0

abbrev pub step_field : Field
step_field = int_property 5 (codes "step") 1 1

abbrev pub out_field : Field
out_field = int_property 5 (codes "out") 2 0

abbrev pub void_method : ℕ → List ℕ → Stmt → Method
void_method class name body = record { class = record { 0 = class }; name = name; is_static = false; is_virtual = true; params = []; result = kind.Void; body = Some body }

-- the callback with a slot's number
abbrev pub changed_method : ℕ → Stmt → Method
changed_method class body = record (void_method class (codes "changed") body) { params = kind.Int ∷ [] }

-- { }
abbrev pub nothing : Pointer → Stmt
nothing p = stmt.Block' (none p) end_of-Stmt

-- out = out + step
abbrev pub adding : Pointer → Stmt
adding p = set p prim.Int 2 (chain p (own p prim.Int 2) (by op.Add (own p prim.Int 1)))

-- the methods of `sys`, where Component and App have these numbers; they do nothing
abbrev pub sys_methods_in : ℕ → ℕ → Pointer → List Method
sys_methods_in component app p =
    void_method component (codes "execute") (nothing p)
    ∷ void_method component (codes "start") (nothing p)
    ∷ void_method component (codes "stop") (nothing p)
    ∷ changed_method component (nothing p)
    ∷ void_method app (codes "save") (nothing p)
    ∷ []

-- these classes behind those of `sys`, and these fields behind `meta`
abbrev pub program_with : List ClassInfo → List Field → Pointer → Program
program_with classes fields p = record {
  schema = record { kits = record { name = codes "sys"; checksum = pos 0 } ∷ record { name = codes "demo"; checksum = pos 0 } ∷ []; classes = sys_kit ++ classes };
  methods = sys_methods_in 2 3 p ++ void_method 5 (codes "execute") (adding p) ∷ [];
  fields = meta_field ∷ fields;
  statics = [];
  texts = [];
}

-- class Ramp extends Component { @config property int step = 1  property int out  override void execute() { out = out + step } }
abbrev pub ramp : Pointer → Program
ramp p = program_with (ramp_class 2 ∷ []) (step_field ∷ out_field ∷ []) p
