-- The schema that the image tells is that of the program.
use Rattle.std.proofs.Common.{◌≡◌, ℕ, ◌+◌, ◌<◌, ◌≤◌, ◌==◌, ◌%◌, Bool, true, false, cond, List, [], ◌∷◌, length, map, nat_le, Option, Some, None, refl, ap, sym, subst, ◌∙◌, arith}
use Rattle.std.specs.Prelude.{IfSome, slice_get}
use Rattle.std.specs.List.{enumerate_from}
use Rattle.std.specs.Option.{option_and_then, option_map, option_map_or}
use Rattle.std.proofs.lemmas.Option.{slice_get_within}
use Rattle.sed_value.specs.declared.kit.KitRef.{KitRef}
use Rattle.sed_value.specs.declared.slot_type.Primitive.TheVariants as prim
use Rattle.sed_value.specs.declared.slot_type.SlotType.TheVariants as slot
use Rattle.sed_typed.specs.declared.number.TypeNo.{TypeNo}
use Rattle.sed_typed.specs.declared.program.Program.{Program}
use Rattle.sed_typed.specs.declared.schema.ActionArg.TheVariants as argument
use Rattle.sed_typed.specs.declared.schema.ClassInfo.{ClassInfo}
use Rattle.sed_typed.specs.declared.schema.Schema.{Schema}
use Rattle.sed_typed.specs.declared.schema.SlotForm.{SlotForm}
use Rattle.sed_typed.specs.declared.schema.SlotForm.TheVariants.{Prop, Action}
use Rattle.sed_typed.specs.declared.schema.SlotInfo.{SlotInfo}
use Rattle.sed_typed.specs.Typed.{Typed}
use Rattle.sed_typed.specs.TypedSchema.{HasBase, HasSlot, HasSlots, IsClass}
use Rattle.scode_image.specs.declared.image.ImageSlot.{ImageSlot}
use Rattle.scode_code.specs.Tables.{base_of, class_of, kit_of, schema_of, slot_of}
use Rattle.scode_gen.specs.Classes.{base_number, class_flags, image_class, image_kit}
use Rattle.scode_gen.specs.FirstBytes.{first_bytes}
use Rattle.scode_gen.specs.Generated.{image_of}
use Rattle.scode_gen.specs.ImageSlots.{config_number, image_slot, slot_number, slot_place, slot_room}
use Rattle.scode_made.proofs.FirstBytes.{first_many}
use Rattle.scode_made.proofs.Places.{read_back}

-- ---- kits

kits_back : (all : List KitRef) → map kit_of (map image_kit all) ≡ all
kits_back [] = refl
kits_back (k ∷ ks) = ap (λ (rest : List KitRef). k ∷ rest) (kits_back ks)

-- ---- slots

-- the application file keeps no action
abbrev IsKept : SlotForm → Bool → Type 0
IsKept (Prop t) kept = Unit {0}
IsKept (Action a) kept = kept ≡ false

is_kept : (program : Program) (class n : ℕ) (s : SlotInfo) (f : SlotForm) → HasSlot program class n s f → IsKept f s.config
is_kept program class n s (Prop t) h = tt
is_kept program class n s (Action a) h = h.2

module _ (name : List ℕ) (place : ℕ) where
  abbrev made : Bool → SlotForm → ImageSlot
  made kept f = record { name = name; form = slot_number f; place = place; n = slot_room f; config = config_number kept f }

  abbrev told : Bool → SlotForm → SlotInfo
  told kept f = record { name = name; config = kept; form = f }

  form_back : (kept : Bool) (f : SlotForm) → IsKept f kept → slot_of (made kept f) ≡ told kept f
  form_back true (Prop (slot.Prim prim.Bool)) h = refl
  form_back true (Prop (slot.Prim prim.Byte)) h = refl
  form_back true (Prop (slot.Prim prim.Short)) h = refl
  form_back true (Prop (slot.Prim prim.Int)) h = refl
  form_back true (Prop (slot.Prim prim.Long)) h = refl
  form_back true (Prop (slot.Buf n)) h = refl
  form_back true (Action a) h = let never : ⊥ = cc in absurd never
  form_back false (Prop (slot.Prim prim.Bool)) h = refl
  form_back false (Prop (slot.Prim prim.Byte)) h = refl
  form_back false (Prop (slot.Prim prim.Short)) h = refl
  form_back false (Prop (slot.Prim prim.Int)) h = refl
  form_back false (Prop (slot.Prim prim.Long)) h = refl
  form_back false (Prop (slot.Buf n)) h = refl
  form_back false (Action argument.Void) h = refl
  form_back false (Action argument.Bool) h = refl
  form_back false (Action argument.Int) h = refl
  form_back false (Action argument.Long) h = refl

slots_back : (program : Program) (class : ℕ) (info : ClassInfo) → HasSlots program class info →
    map slot_of (map (λ (at : ℕ × SlotInfo). image_slot program class at.0 at.1) (enumerate_from 0 info.slots)) ≡ info.slots
slots_back program class info has =
    read_back (image_slot program class) slot_of info.slots
    (λ n s there.
    let known : HasSlot program class n s s.form = subst (λ (o : Option SlotInfo). IfSome o (λ x. HasSlot program class n x x.form)) there (has.each n) in
    form_back s.name (slot_place program class n s.name s.form) s.config s.form (is_kept program class n s s.form known))

-- ---- classes

flags_abstract : (abstract component : Bool) → ((cond abstract 1 0 + cond component 2 0) % 2 == 1) ≡ abstract
flags_abstract true true = refl
flags_abstract true false = refl
flags_abstract false true = refl
flags_abstract false false = refl

flags_component : (abstract component : Bool) → nat_le 2 (cond abstract 1 0 + cond component 2 0) ≡ component
flags_component true true = refl
flags_component true false = refl
flags_component false true = refl
flags_component false false = refl

base_back : (program : Program) (class : ℕ) (b : Option TypeNo) → class < 65536 → IfSome (option_map (λ t. t.0) b) (HasBase program class) → base_of (option_map_or (λ t. t.0) b 0xffff) ≡ b
base_back program class None few h = refl
base_back program class (Some t) few h =
    let less : t.0 < class = h.before in
    let other : (t.0 == 0xffff) ≡ false = grind (arith, less, few) in
    ap (λ (b : Bool). cond b None (Some (record { 0 = t.0 }))) other

class_back : (program : Program) → Typed program → length program.schema.classes ≤ 1024 → (class : ℕ) (info : ClassInfo) → slice_get program.schema.classes class ≡ Some info →
    class < length program.schema.classes → class_of (image_class program class info) ≡ info
class_back program typed few class info there within =
    ap (λ (b : Option TypeNo). told b (class_flags info % 2 == 1) (nat_le 2 (class_flags info)) (length (first_bytes program class)) said) base
    ∙ ap (λ (a : Bool). told info.base a (nat_le 2 (class_flags info)) (length (first_bytes program class)) said) (flags_abstract info.is_abstract info.is_component)
    ∙ ap (λ (c : Bool). told info.base info.is_abstract c (length (first_bytes program class)) said) (flags_component info.is_abstract info.is_component)
    ∙ ap (λ (size : ℕ). told info.base info.is_abstract info.is_component size said) (first_many program typed class ∙ sym known.size)
    ∙ ap (told info.base info.is_abstract info.is_component info.size) (slots_back program class info slots)
  where
    told : Option TypeNo → Bool → Bool → ℕ → List SlotInfo → ClassInfo
    told b abstract component size all = record {
      kit = info.kit;
      number = info.number;
      name = info.name;
      base = b;
      is_abstract = abstract;
      is_component = component;
      size = size;
      slots = all;
    }

    said : List SlotInfo
    said = map slot_of (map (λ (at : ℕ × SlotInfo). image_slot program class at.0 at.1) (enumerate_from 0 info.slots))

    known : IsClass program class info
    known = subst (λ (o : Option ClassInfo). IfSome o (IsClass program class)) there (typed.classes class)

    slots : HasSlots program class info
    slots = subst (λ (o : Option ClassInfo). IfSome o (HasSlots program class)) there (typed.slots class)

    based : IfSome (option_map (λ t. t.0) info.base) (HasBase program class)
    based = subst (λ (o : Option ClassInfo). IfSome (option_and_then (λ (x : ClassInfo). option_map (λ t. t.0) x.base) o) (HasBase program class)) there known.base

    base : base_of (base_number info) ≡ info.base
    base = base_back program class info.base (omega (arith, within, few)) based

-- ---- the schema

pub schema_back : (program : Program) → Typed program → length program.schema.classes ≤ 1024 → schema_of (image_of program) ≡ program.schema
schema_back program typed few =
    let classes : List ClassInfo = map class_of (image_of program).classes in
    let all : classes ≡ program.schema.classes =
    read_back (image_class program) class_of program.schema.classes
    (λ class info there. class_back program typed few class info there (slice_get_within program.schema.classes class info there)) in
    ap (λ (kits : List KitRef). schema kits classes) (kits_back program.schema.kits) ∙ ap (schema program.schema.kits) all
  where
    schema : List KitRef → List ClassInfo → Schema
    schema kits classes = record { kits = kits; classes = classes }
