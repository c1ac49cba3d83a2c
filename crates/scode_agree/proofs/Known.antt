-- The parts of an image are ones that a text can tell: its flags, forms, bytes, texts and entries.
use Rattle.std.proofs.Common.{◌≡◌, ℕ, suc, ◌+◌, ◌<◌, ◌==◌, ◌&&◌, Bool, true, false, cond, List, [], ◌∷◌, get_or, length}
use Rattle.std.proofs.Common.{map, nat_le, refl, subst, arith}
use Rattle.std.specs.Prelude.{is_none}
use Rattle.std.specs.List.{list_all}
use Rattle.std.specs.List.Sorted.{IsStrictlyIncreasing}
use Rattle.std.proofs.lemmas.Bool.{and_from, eq-eqb, le-leb}
use Rattle.sed_value.specs.Value.{are_bytes}
use Rattle.sed_value.specs.declared.slot_type.Primitive.TheVariants as prim
use Rattle.sed_value.specs.declared.slot_type.SlotType.TheVariants as slot
use Rattle.sed_typed.specs.declared.program.Field.{Field}
use Rattle.sed_typed.specs.declared.program.FieldForm.{FieldForm}
use Rattle.sed_typed.specs.declared.program.FieldForm.TheVariants as form
use Rattle.sed_typed.specs.declared.program.Method.{Method}
use Rattle.sed_typed.specs.declared.program.Program.{Program}
use Rattle.sed_typed.specs.declared.schema.ActionArg.TheVariants as argument
use Rattle.sed_typed.specs.declared.schema.SlotForm.{SlotForm}
use Rattle.sed_typed.specs.declared.schema.SlotForm.TheVariants.{Prop, Action}
use Rattle.sed_typed.specs.Classes.{fields}
use Rattle.sed_typed.specs.Typed.{IsText, Typed}
use Rattle.sed_layout.specs.Offsets.{offset_of, static_offset_of}
use Rattle.scode_image.specs.declared.image.ImageEntry.{ImageEntry}
use Rattle.scode_image.specs.declared.image.ImageField.{ImageField}
use Rattle.scode_image.specs.declared.image.ImageKind.{ImageKind}
use Rattle.scode_image.specs.declared.image.ImageSlot.{ImageSlot}
use Rattle.scode_image.specs.Grammar.{is_field_form, is_slot_form}
use Rattle.scode_code.specs.TableRules.{class_is_known, method_is_known, parts_are_known, places_ascend, text_is_known}
use Rattle.scode_emit.specs.Method.{code_of, site_of}
use Rattle.scode_entries.specs.declared.marks.Mark.{Mark}
use Rattle.scode_entries.specs.Entries.{body_marks, each_once}
use Rattle.scode_entries.specs.Method.{entries_of, entry_of, flags_of, image_method, local_kinds}
use Rattle.scode_gen.specs.Classes.{class_flags}
use Rattle.scode_gen.specs.FirstBytes.{first_bytes, static_bytes}
use Rattle.scode_gen.specs.Generated.{image_layout, image_of}
use Rattle.scode_gen.specs.ImageFields.{class_fields, fields_placed, image_field, static_fields}
use Rattle.scode_gen.specs.ImageSlots.{config_number, image_slot, image_slots, slot_number}
use Rattle.scode_ops.specs.Codes.{IsOp}
use Rattle.std.specs.Prelude.{All}
use Rattle.scode_made.proofs.Places.{all_at}
use Rattle.scode_agree.proofs.Bytes.{code_is_bytes, first_are_bytes, statics_are_bytes}
use Rattle.scode_agree.proofs.Given.{IsGiven}
use Rattle.scode_agree.proofs.Infos.{each_class}
use Rattle.scode_agree.proofs.Tests.{five, four, from_all, mapped_pass, numbered_pass}

-- ---- classes

flags_few : (abstract component : Bool) → nat_le (cond abstract 1 0 + cond component 2 0) 3 ≡ true
flags_few true true = refl
flags_few true false = refl
flags_few false true = refl
flags_few false false = refl

form_known : (offset : ℕ) (f : FieldForm) → is_field_form (image_field offset f).form ≡ true
form_known offset (form.Prim prim.Bool) = refl
form_known offset (form.Prim prim.Byte) = refl
form_known offset (form.Prim prim.Short) = refl
form_known offset (form.Prim prim.Int) = refl
form_known offset (form.Prim prim.Long) = refl
form_known offset (form.Str n) = refl
form_known offset (form.Buf n) = refl
form_known offset (form.Object class) = refl
form_known offset (form.Array prim.Bool n) = refl
form_known offset (form.Array prim.Byte n) = refl
form_known offset (form.Array prim.Short n) = refl
form_known offset (form.Array prim.Int n) = refl
form_known offset (form.Array prim.Long n) = refl

forms_known : (offset : ℕ → ℕ) (all : List Field)
    → list_all (λ (f : ImageField). is_field_form f.form) (fields_placed offset all) ≡ true
forms_known offset all =
    numbered_pass (λ (i : ℕ) (f : Field). image_field (offset i) f.form) (λ (f : ImageField). is_field_form f.form) all
    (λ i f at. form_known (offset i) f.form)

slot_form_known : (f : SlotForm) → is_slot_form (slot_number f) ≡ true
slot_form_known (Prop (slot.Prim prim.Bool)) = refl
slot_form_known (Prop (slot.Prim prim.Byte)) = refl
slot_form_known (Prop (slot.Prim prim.Short)) = refl
slot_form_known (Prop (slot.Prim prim.Int)) = refl
slot_form_known (Prop (slot.Prim prim.Long)) = refl
slot_form_known (Prop (slot.Buf n)) = refl
slot_form_known (Action argument.Void) = refl
slot_form_known (Action argument.Bool) = refl
slot_form_known (Action argument.Int) = refl
slot_form_known (Action argument.Long) = refl

config_few : (kept : Bool) (f : SlotForm) → nat_le (config_number kept f) 1 ≡ true
config_few true (Prop t) = refl
config_few false (Prop t) = refl
config_few kept (Action a) = refl

classes_known : (program : Program) → Typed program → list_all class_is_known (image_of program).classes ≡ true
classes_known program typed =
    each_class program class_is_known
    (λ class info there.
    four (nat_le (class_flags info) 3)
    (list_all (λ (f : ImageField). is_field_form f.form) (class_fields program class))
    (list_all (λ (s : ImageSlot). is_slot_form s.form && nat_le s.config 1) (image_slots program class info.slots))
    (are_bytes (first_bytes program class))
    (flags_few info.is_abstract info.is_component)
    (forms_known (offset_of program class) (fields program class))
    (numbered_pass (image_slot program class) (λ (s : ImageSlot). is_slot_form s.form && nat_le s.config 1) info.slots
    (λ n s at. and_from (is_slot_form (slot_number s.form)) (nat_le (config_number s.config s.form) 1)
    (slot_form_known s.form) (config_few s.config s.form)))
    (first_are_bytes program typed class))

-- ---- methods

flags_said : (static abstract : Bool) → nat_le (cond static 0 1 + cond abstract 2 0) 3 ≡ true
flags_said true true = refl
flags_said true false = refl
flags_said false true = refl
flags_said false false = refl

abbrev places : List ImageEntry → List ℕ
places es = map (λ (e : ImageEntry). e.place) es

rest_increases : (n : ℕ) (ns : List ℕ) → IsStrictlyIncreasing (n ∷ ns) → IsStrictlyIncreasing ns
rest_increases n ns h k lt =
    let more : suc k + 1 < suc (length ns) = omega (arith, lt) in
    let step : suc k + 1 ≡ suc (k + 1) = omega arith in
    subst (λ (i : ℕ). get_or ns k 0 < get_or (n ∷ ns) i 0) step (h (suc k) more)

first_two : (m n : ℕ) (ns : List ℕ) → IsStrictlyIncreasing (m ∷ n ∷ ns) → m < n
first_two m n ns h = let two : 0 + 1 < suc (suc (length ns)) = omega arith in h 0 two

rest_ascends : (n : ℕ) (es : List ImageEntry) → IsStrictlyIncreasing (n ∷ places es) → places_ascend (suc n) es ≡ true
rest_ascends n [] h = refl
rest_ascends n (e ∷ es) h =
    let less : n < e.place = first_two n e.place (places es) h in
    and_from (nat_le (suc n) e.place) (places_ascend (suc e.place) es) (le-leb (suc n) e.place (omega (arith, less)))
    (rest_ascends e.place es (rest_increases n (e.place ∷ places es) h))

all_ascend : (es : List ImageEntry) → IsStrictlyIncreasing (places es) → places_ascend 0 es ≡ true
all_ascend [] h = refl
all_ascend (e ∷ es) h =
    and_from (nat_le 0 e.place) (places_ascend (suc e.place) es) (le-leb 0 e.place (omega arith))
    (rest_ascends e.place es h)

locals_alike : (locals : List ImageKind) (marks : List Mark)
    → list_all (λ (e : ImageEntry). length e.locals == length locals) (map (entry_of locals) marks) ≡ true
locals_alike locals marks =
    mapped_pass (entry_of locals) (λ (e : ImageEntry). length e.locals == length locals) marks
    (λ i m at. eq-eqb (length locals) (length locals) refl)

methods_known : (program : Program) → IsGiven program → list_all method_is_known (image_of program).methods ≡ true
methods_known program is =
    let layout = image_layout program in
    mapped_pass (image_method program layout) method_is_known program.methods
    (λ i m at.
    let entries : List ImageEntry = entries_of program layout m in
    four (nat_le (flags_of m) 3) (places_ascend 0 entries)
    (list_all (λ (e : ImageEntry). length e.locals == length (local_kinds m)) entries)
    (are_bytes (image_method program layout m).code)
    (flags_said m.is_static (is_none m.body))
    (all_ascend entries (is.ascend m))
    (locals_alike (local_kinds m) (each_once (body_marks (site_of program layout m) m.body)))
    (code_is_bytes (code_of program layout m)
    (all_at (λ (x : Method). All IsOp (code_of program layout x)) program.methods i m at is.exist)))

-- ---- all parts

text_known : (text : List ℕ) → IsText text → text_is_known text ≡ true
text_known text is = and_from (are_bytes text) (nat_le (length text) 255) is.0 (le-leb (length text) 255 is.1)

pub parts_known : (program : Program) → IsGiven program → parts_are_known (image_of program) ≡ true
parts_known program is =
    five (list_all class_is_known (image_of program).classes)
    (list_all (λ (f : ImageField). is_field_form f.form) (static_fields program))
    (are_bytes (static_bytes program))
    (list_all text_is_known program.texts)
    (list_all method_is_known (image_of program).methods)
    (classes_known program is.typed)
    (forms_known (static_offset_of program) program.statics)
    (statics_are_bytes program is.typed)
    (from_all IsText text_is_known text_known program.texts is.typed.texts)
    (methods_known program is)
