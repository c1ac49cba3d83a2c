-- Programs and their classes as they stand in an image, worked out by hand.
use Rattle.std.proofs.Common.{◌≡◌, ℕ, negsuc, false, true, List, [], ◌∷◌, ◌++◌, Some, None, refl, codes}
use Rattle.sed_value.specs.declared.value.Value.{Value}
use Rattle.sed_value.specs.declared.value.Value.TheVariants as kept
use Rattle.sed_value.specs.declared.slot_type.Primitive.TheVariants as prim
use Rattle.sed_value.specs.declared.slot_type.SlotType.TheVariants as slot
use Rattle.sed_typed.specs.declared.kind.Kind.TheVariants as kind
use Rattle.sed_typed.specs.declared.program.Field.{Field}
use Rattle.sed_typed.specs.declared.program.FieldForm.{FieldForm}
use Rattle.sed_typed.specs.declared.program.FieldForm.TheVariants as form
use Rattle.sed_typed.specs.declared.program.Method.{Method}
use Rattle.sed_typed.specs.declared.program.Program.{Program}
use Rattle.sed_typed.specs.declared.schema.ActionArg.TheVariants as argument
use Rattle.sed_typed.specs.declared.schema.ClassInfo.{ClassInfo}
use Rattle.sed_typed.specs.declared.schema.SlotForm.TheVariants.{Prop, Action}
use Rattle.sed_typed.specs.declared.schema.SlotInfo.{SlotInfo}
use Rattle.sed_typed.specs.SysTypes.{meta_slot}
use Rattle.sed_engine.proofs.Building.{Pointer}
use Rattle.sed_engine.proofs.Ramp.{based_on, class_of, meta_field, nothing, ramp, ramp_class, sys_kit, sys_methods_in, void_method}
use Rattle.scode_image.specs.declared.image.ImageClass.{ImageClass}
use Rattle.scode_image.specs.declared.image.ImageField.{ImageField}
use Rattle.scode_image.specs.declared.image.ImageSlot.{ImageSlot}
use Rattle.scode_gen.specs.Classes.{image_class}
use Rattle.scode_gen.specs.FirstBytes.{static_bytes}
use Rattle.scode_gen.specs.ImageFields.{static_fields}

abbrev field_of : ℕ → ℕ → ℕ → ImageField
field_of offset form n = record { offset = offset; form = form; n = n }

abbrev slot_of : List ℕ → ℕ → ℕ → ℕ → ℕ → ImageSlot
slot_of name form place n config = record { name = name; form = form; place = place; n = n; config = config }

-- three ints, of which `meta` is inherited; `execute` is overridden, so method 5 stands at its place in the table
abbrev wanted_ramp : ImageClass
wanted_ramp = record {
  kit = 1;
  number = 0;
  name = codes "Ramp";
  base = 2;
  flags = 2;
  fields = field_of 0 4 0 ∷ field_of 4 4 0 ∷ field_of 8 4 0 ∷ [];
  slots = slot_of (codes "meta") 4 0 0 1 ∷ slot_of (codes "step") 4 4 0 1 ∷ slot_of (codes "out") 4 8 0 0 ∷ [];
  table = 5 ∷ 1 ∷ 2 ∷ 3 ∷ [];
  contents = 0 ∷ 0 ∷ 0 ∷ 0 ∷ 0 ∷ 0 ∷ 0 ∷ 1 ∷ 0 ∷ 0 ∷ 0 ∷ 0 ∷ [];
}

ramps : (p : Pointer) → image_class (ramp p) 5 (ramp_class 2) ≡ wanted_ramp
ramps p = refl

-- ---- fields of each form

abbrev plain_field : ℕ → List ℕ → FieldForm → Value → Field
plain_field class name form initial = record { class = record { 0 = class }; name = name; form = form; slot = None; initial = initial }

-- class Pair { short a = 258  bool q = null }, number 5
abbrev pair_class : ClassInfo
pair_class = class_of 1 0 (codes "Pair") (based_on 0) false false 3 []

abbrev pair_fields : List Field
pair_fields =
    plain_field 5 (codes "a") (form.Prim prim.Short) (kept.Short 258)
    ∷ plain_field 5 (codes "q") (form.Prim prim.Bool) (kept.Bool 2)
    ∷ []

-- class Mixed extends Component, number 6: property Buf(4) f = "AB"; int[2] a; inline Pair p; long n = -2; Str(3) s;
-- byte b = 7; action void go(int n); override void stop()
abbrev mixed_slots : List SlotInfo
mixed_slots =
    meta_slot
    ∷ record { name = codes "go"; config = false; form = Action argument.Int }
    ∷ record { name = codes "f"; config = true; form = Prop (slot.Buf 4) }
    ∷ []

abbrev mixed_class : ClassInfo
mixed_class = class_of 1 1 (codes "Mixed") (based_on 2) true true 33 mixed_slots

abbrev mixed_fields : List Field
mixed_fields =
    record (plain_field 6 (codes "f") (form.Buf 4) (kept.Buf (codes "AB"))) { slot = Some (record { 0 = 2 }) }
    ∷ plain_field 6 (codes "a") (form.Array prim.Int 2) kept.Nothing
    ∷ plain_field 6 (codes "p") (form.Object (record { 0 = 5 })) kept.Nothing
    ∷ plain_field 6 (codes "n") (form.Prim prim.Long) (kept.Long (negsuc 1))
    ∷ plain_field 6 (codes "s") (form.Str 3) kept.Nothing
    ∷ plain_field 6 (codes "b") (form.Prim prim.Byte) (kept.Byte 7)
    ∷ []

-- methods 5 and 6
abbrev mixed_methods : Pointer → List Method
mixed_methods p =
    void_method 6 (codes "stop") (nothing p)
    ∷ record (void_method 6 (codes "go") (nothing p)) { params = kind.Int ∷ [] }
    ∷ []

-- statics: int u = -2; Pair w; byte[2] z
abbrev mixed : Pointer → Program
mixed p = record {
  schema = record { kits = []; classes = sys_kit ++ pair_class ∷ mixed_class ∷ [] };
  methods = sys_methods_in 2 3 p ++ mixed_methods p;
  fields = meta_field ∷ pair_fields ++ mixed_fields;
  statics = plain_field 6 (codes "u") (form.Prim prim.Int) (kept.Int (negsuc 1))
      ∷ plain_field 6 (codes "w") (form.Object (record { 0 = 5 })) kept.Nothing
      ∷ plain_field 6 (codes "z") (form.Array prim.Byte 2) kept.Nothing
      ∷ [];
  texts = [];
}

abbrev wanted_mixed : ImageClass
wanted_mixed = record {
  kit = 1;
  number = 1;
  name = codes "Mixed";
  base = 2;
  flags = 3;
  fields = field_of 0 4 0
      ∷ field_of 4 7 4
      ∷ field_of 10 12 2
      ∷ field_of 18 8 5
      ∷ field_of 21 5 0
      ∷ field_of 29 6 3
      ∷ field_of 32 2 0
      ∷ [];
  slots = slot_of (codes "meta") 4 0 0 1 ∷ slot_of (codes "go") 0x12 4 0 0 ∷ slot_of (codes "f") 7 4 4 1 ∷ [];
  table = 0 ∷ 1 ∷ 5 ∷ 3 ∷ 6 ∷ [];
  contents = (0 ∷ 0 ∷ 0 ∷ 0 ∷ [])
      ++ (0 ∷ 2 ∷ 0x41 ∷ 0x42 ∷ 0 ∷ 0 ∷ [])
      ++ (0 ∷ 0 ∷ 0 ∷ 0 ∷ 0 ∷ 0 ∷ 0 ∷ 0 ∷ [])
      ++ (1 ∷ 2 ∷ 2 ∷ [])
      ++ (0xff ∷ 0xff ∷ 0xff ∷ 0xff ∷ 0xff ∷ 0xff ∷ 0xff ∷ 0xfe ∷ [])
      ++ (0 ∷ 0 ∷ 0 ∷ [])
      ++ 7
      ∷ [];
}

mixes : (p : Pointer) → image_class (mixed p) 6 mixed_class ≡ wanted_mixed
mixes p = refl

-- a class without a base and fields
abbrev wanted_object : ImageClass
wanted_object = record {
  kit = 0;
  number = 0;
  name = codes "Obj";
  base = 0xffff;
  flags = 1;
  fields = [];
  slots = [];
  table = [];
  contents = [];
}

objects : (p : Pointer) → image_class (mixed p) 0 (class_of 0 0 (codes "Obj") None true false 0 []) ≡ wanted_object
objects p = refl

placed : (p : Pointer) → static_fields (mixed p) ≡ field_of 0 4 0 ∷ field_of 4 8 5 ∷ field_of 7 10 2 ∷ []
placed p = refl

begun : (p : Pointer) → static_bytes (mixed p) ≡ 0xff ∷ 0xff ∷ 0xff ∷ 0xfe ∷ 1 ∷ 2 ∷ 2 ∷ 0 ∷ 0 ∷ []
begun p = refl
