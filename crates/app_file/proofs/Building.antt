-- A code of the kits `sys` and `math`, and components of it.
use Rattle.std.proofs.Common.{◌≡◌, ℕ, pos, negsuc, List, [], ◌∷◌, ap, ◌∙◌}
use Rattle.std.specs.Prelude.{ℤ, ◌==◌, ◌*◌, Bool, true, false, nat_lt, if◌then◌else◌, codes, length, map as map_list, Option, Some, None}
use Rattle.std.specs.Option.{option_map}
use Rattle.std.specs.List.{enumerate_from}
use Rattle.std.specs.FinMap as map
use Rattle.std.specs.Ordering.{nat_cmp}
use Rattle.sed_value.specs.declared.kit.KitRef.{KitRef}
use Rattle.sed_value.specs.declared.slot_type.Primitive.TheVariants as prim
use Rattle.sed_value.specs.declared.slot_type.SlotType.TheVariants.{Prim}
use Rattle.sed_value.specs.declared.value.Value.TheVariants as kept
use Rattle.sed_typed.specs.declared.number.TypeNo.{TypeNo}
use Rattle.sed_typed.specs.declared.program.FieldForm.TheVariants as form
use Rattle.sed_typed.specs.declared.schema.ClassInfo.{ClassInfo}
use Rattle.sed_typed.specs.declared.schema.SlotForm.TheVariants.{Prop}
use Rattle.sed_typed.specs.declared.schema.SlotInfo.{SlotInfo}
use Rattle.sed_typed.specs.Contents.{Contents, Shape}
use Rattle.sed_typed.specs.SysTypes.{meta_slot, save_slot}
use Rattle.sed_engine.specs.declared.call.CallEnd.TheVariants.{Done}
use Rattle.sed_engine.specs.Code.{Meaning}
use Rattle.comp_tree.specs.Application.{Application, ById, Component, Link}

-- ---- kits and classes

unfoldable pub sys : KitRef
sys = record { name = codes "sys"; checksum = pos 0x3600e4e4 }

-- of examples/math.toml; the bytes of the checksum are ad 0f 33 4b
unfoldable pub math : KitRef
math = record { name = codes "math"; checksum = negsuc 1391512756 }

unfoldable pub plant : KitRef
plant = record { name = codes "plant"; checksum = pos 5 }

abbrev int_slot : List ℕ → Bool → SlotInfo
int_slot name config = record { name = name; config = config; form = Prop (Prim prim.Int) }

abbrev class : ℕ → ℕ → List ℕ → Option ℕ → Bool → List SlotInfo → ClassInfo
class kit number name base abstract slots = record {
  kit = kit;
  number = number;
  name = name;
  base = option_map (λ (n : ℕ). let t : TypeNo = record { 0 = n } in t) base;
  is_abstract = abstract;
  is_component = nat_lt 0 (length slots);
  size = 4 * length slots;
  slots = slots;
}

-- the classes 5 and 6 are of kit `math`
abbrev classes : List ClassInfo
classes =
    class 0 0 (codes "Obj") None true []
    ∷ class 0 1 (codes "Virtual") (Some 0) true []
    ∷ class 0 2 (codes "Component") (Some 1) true (meta_slot ∷ [])
    ∷ class 0 3 (codes "App") (Some 2) false (meta_slot ∷ save_slot ∷ [])
    ∷ class 0 4 (codes "Folder") (Some 2) false (meta_slot ∷ [])
    ∷ class 1 0 (codes "Ramp") (Some 2) false (meta_slot ∷ int_slot (codes "step") true ∷ int_slot (codes "out") false ∷ [])
    ∷ class 1 1 (codes "Add2") (Some 2) false (meta_slot ∷ int_slot (codes "in1") false ∷ int_slot (codes "in2") false ∷ int_slot (codes "out") false ∷ [])
    ∷ []

-- how many ints a class has
abbrev ints : ℕ → ℕ
ints class = if nat_lt class 2 then 0 else if class == 5 then 3 else if class == 6 then 4 else 1

abbrev int_shapes : List ℤ → List Shape
int_shapes values = map_list (λ (v : ℤ). record { form = form.Prim prim.Int }) values

-- the fields have these ints
abbrev pub ints_are : List ℤ → Contents
ints_are values = map_list (λ (e : ℕ × ℤ). (e.0 ∷ [], kept.Int e.1)) (enumerate_from 0 values)

abbrev first_ints : ℕ → List ℤ
first_ints class =
    if nat_lt class 2 then [] else if class == 5 then pos 0 ∷ pos 1 ∷ pos 0 ∷ []
    else if class == 6 then pos 0 ∷ pos 0 ∷ pos 0 ∷ pos 0 ∷ [] else pos 0 ∷ []

-- over these kits; no root call does anything
unfoldable pub code : List KitRef → Meaning
code kits = record {
  schema = record { kits = kits; classes = classes };
  fields = λ class. int_shapes (first_ints class);
  slot_field = λ class slot. if nat_lt slot (ints class) then Some slot else None;
  static_fields = [];
  initial = λ class. ints_are (first_ints class);
  initial_statics = [];
  data_size = λ class. 4 * ints class;
  root = λ q. record { contents = q.contents; statics = q.statics; end = Done q.turns };
}

-- ---- applications

abbrev pub component : ℕ → List ℕ → Option ℕ → List ℕ → List ℤ → Component
component class name parent children values =
    record { class = class; name = name; parent = parent; children = children; contents = ints_are values; fault = 0 }

abbrev pub application : ById → List Link → Application
application all links = record { components = record { by_id = all; statics = []; limit = 4194304 }; links = links }

-- what components are read off entries
pub found : (all : ById) (es : List (ℕ × Component)) → map.entries all ≡ es → (id : ℕ) → map.get all id ≡ map.find nat_cmp id es
found all es is id = map.get-entries all id ∙ ap (map.find nat_cmp id) is
