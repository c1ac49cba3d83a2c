-- A code of `sys` and a kit `plant`, and an application of it.
use Rattle.std.proofs.Common.{◌≡◌, ℕ, pos, List, [], ◌∷◌, ap, ◌∙◌}
use Rattle.std.specs.Prelude.{ℤ, ◌==◌, ◌*◌, ◌&&◌, Bool, true, false, nat_lt, if◌then◌else◌, codes, length, Option, Some, None}
use Rattle.std.specs.Option.{option_map}
use Rattle.std.specs.FinMap as map
use Rattle.std.specs.Ordering.{nat_cmp}
use Rattle.sed_value.specs.declared.slot_type.Primitive.TheVariants as prim
use Rattle.sed_value.specs.declared.slot_type.SlotType.TheVariants.{Buf}
use Rattle.sed_value.specs.declared.value.Value.TheVariants as kept
use Rattle.sed_typed.specs.declared.number.TypeNo.{TypeNo}
use Rattle.sed_typed.specs.declared.program.FieldForm.TheVariants as form
use Rattle.sed_typed.specs.declared.schema.ClassInfo.{ClassInfo}
use Rattle.sed_typed.specs.declared.schema.ActionArg.TheVariants.{Void}
use Rattle.sed_typed.specs.declared.schema.SlotForm.TheVariants.{Prop, Action}
use Rattle.sed_typed.specs.declared.schema.SlotInfo.{SlotInfo}
use Rattle.sed_typed.specs.Contents.{Contents, Shape}
use Rattle.sed_typed.specs.SysTypes.{meta_slot, save_slot}
use Rattle.sed_engine.specs.declared.call.CallEnd.TheVariants.{Done}
use Rattle.sed_engine.specs.Code.{Meaning}
use Rattle.comp_tree.specs.Application.{Application, ById, Component, Link}

-- ---- the code

abbrev class : ℕ → ℕ → List ℕ → Option ℕ → Bool → List SlotInfo → ClassInfo
class kit number name base abstract slots = record {
  kit = kit;
  number = number;
  name = name;
  base = option_map (λ (n : ℕ). let t : TypeNo = record { 0 = n } in t) base;
  is_abstract = abstract;
  is_component = nat_lt 0 (length slots);
  size = 4 * length slots;
  slots = slots;
}

-- a Buf of at most four bytes
abbrev tag_slot : SlotInfo
tag_slot = record { name = codes "tag"; config = true; form = Prop (Buf 4) }

-- an action without argument
abbrev ring_slot : SlotInfo
ring_slot = record { name = codes "ring"; config = false; form = Action Void }

abbrev classes : List ClassInfo
classes =
    class 0 0 (codes "Obj") None true []
    ∷ class 0 1 (codes "Virtual") (Some 0) true []
    ∷ class 0 2 (codes "Component") (Some 1) true (meta_slot ∷ [])
    ∷ class 0 3 (codes "App") (Some 2) false (meta_slot ∷ save_slot ∷ [])
    ∷ class 0 4 (codes "Folder") (Some 2) false (meta_slot ∷ [])
    ∷ class 1 0 (codes "Note") (Some 2) false (meta_slot ∷ tag_slot ∷ ring_slot ∷ [])
    ∷ []

abbrev int_shape : Shape
int_shape = record { form = form.Prim prim.Int }

abbrev tag_shape : Shape
tag_shape = record { form = form.Buf 4 }

abbrev pub meta_is : ℤ → Contents
meta_is n = (0 ∷ [], kept.Int n) ∷ []

abbrev pub note_is : ℤ → List ℕ → Contents
note_is n tag = (0 ∷ [], kept.Int n) ∷ (1 ∷ [], kept.Buf tag) ∷ []

-- no root call does anything
unfoldable pub code : Meaning
code = record {
  schema = record {
    kits = record { name = codes "sys"; checksum = pos 0x3600e4e4 } ∷ record { name = codes "plant"; checksum = pos 1 } ∷ [];
    classes = classes;
  };
  fields = λ class. if class == 5 then int_shape ∷ tag_shape ∷ [] else if nat_lt class 2 then [] else int_shape ∷ [];
  slot_field = λ class slot.
      if nat_lt class 2 then None else if slot == 0 then Some 0 else if (class == 5) && (slot == 1) then Some 1 else None;
  static_fields = [];
  initial = λ class. if class == 5 then note_is (pos 0) [] else if nat_lt class 2 then [] else meta_is (pos 0);
  initial_statics = [];
  data_size = λ class. if class == 5 then 10 else if nat_lt class 2 then 0 else 4;
  root = λ q. record { contents = q.contents; statics = q.statics; end = Done q.turns };
}

-- ---- the application

-- the App, a Folder `f` with a fault, and a Note `n`
abbrev pub three : List (ℕ × Component)
three =
    (0, record { class = 3; name = codes "app"; parent = None; children = 1 ∷ 2 ∷ []; contents = meta_is (pos 0); fault = 0 })
    ∷ (1, record { class = 4; name = codes "f"; parent = Some 0; children = []; contents = meta_is (pos 7); fault = 3 })
    ∷ (2, record { class = 5; name = codes "n"; parent = Some 0; children = []; contents = note_is (pos 0) (0x61 ∷ 0x62 ∷ []); fault = 0 })
    ∷ []

-- from the Folder's `meta` to the Note's
abbrev pub between : Link
between = record { from = 1; from_slot = 0; to = 2; to_slot = 0 }

abbrev pub application : ById → List Link → Application
application all links = record { components = record { by_id = all; statics = []; limit = 40 }; links = links }

-- what components are read off entries
pub found : (all : ById) (es : List (ℕ × Component)) → map.entries all ≡ es → (id : ℕ) → map.get all id ≡ map.find nat_cmp id es
found all es is id = map.get-entries all id ∙ ap (map.find nat_cmp id) is

pub counted : (all : ById) (es : List (ℕ × Component)) → map.entries all ≡ es → map.len all ≡ length es
counted all es is = map.len-entries all ∙ ap length is
