-- The kit `sys` and its classes.
use Rattle.std.specs.Prelude.{ℕ, pos, nat_lt, Bool, true, false, if◌then◌else◌, List, [], ◌∷◌, length, codes, Option}
use Rattle.std.specs.Prelude.{Some, None}
use Rattle.sed_value.specs.declared.kit.KitRef.{KitRef}
use Rattle.sed_typed.specs.declared.number.TypeNo.{TypeNo}
use Rattle.sed_typed.specs.declared.schema.ClassInfo.{ClassInfo}
use Rattle.sed_typed.specs.declared.schema.SlotInfo.{SlotInfo}
pub use Rattle.sed_engine.specs.Whole.{meta_slot, save_slot}

abbrev pub sys_kits : List KitRef
sys_kits = record { name = codes "sys"; checksum = pos 0 } ∷ []

-- a class of kit 0; those that have slots are components, of 4 bytes
abbrev pub class_of : ℕ → List ℕ → Option TypeNo → Bool → List SlotInfo → ClassInfo
class_of number name base abstract slots = record {
  kit = 0;
  number = number;
  name = name;
  base = base;
  is_abstract = abstract;
  is_component = nat_lt 0 (length slots);
  size = if nat_lt 0 (length slots) then 4 else 0;
  slots = slots;
}

abbrev pub sys_classes : List ClassInfo
sys_classes =
    class_of 0 (codes "Obj") None true []
    ∷ class_of 1 (codes "Virtual") (Some (record { 0 = 0 })) true []
    ∷ class_of 2 (codes "Component") (Some (record { 0 = 1 })) true (meta_slot ∷ [])
    ∷ class_of 3 (codes "App") (Some (record { 0 = 2 })) false (meta_slot ∷ save_slot ∷ [])
    ∷ class_of 4 (codes "Folder") (Some (record { 0 = 2 })) false (meta_slot ∷ [])
    ∷ []
