-- Each slot of a class has a field of its form, or a method of its signature.
use Rattle.std.proofs.Common.{◌≡◌, ℕ, ◌&&◌, ◌||◌, Bool, true, false, not, nat_le, List, Option, Some, refl, ap}
use Rattle.std.proofs.Common.{◌∙◌}
use Rattle.std.specs.Prelude.{is_some, slice_get}
use Rattle.std.specs.Option.{option_map_or}
use Rattle.std.proofs.lemmas.Bool.{and_from, or_left, or_right}
use Rattle.sed_typed.specs.declared.program.Program.{Program}
use Rattle.sed_typed.specs.declared.schema.ActionArg.{ActionArg}
use Rattle.sed_typed.specs.declared.schema.ActionArg.TheVariants as argument
use Rattle.sed_typed.specs.declared.schema.ClassInfo.{ClassInfo}
use Rattle.sed_typed.specs.declared.schema.SlotForm.{SlotForm}
use Rattle.sed_typed.specs.declared.schema.SlotForm.TheVariants.{Prop, Action}
use Rattle.sed_typed.specs.declared.schema.SlotInfo.{SlotInfo}
use Rattle.sed_typed.specs.Classes.{fields}
use Rattle.sed_typed.specs.TypedSchema.{HasSlot}
use Rattle.sed_layout.specs.MethodTables.{table_of}
use Rattle.sed_layout.specs.Offsets.{offset_of}
use Rattle.scode_image.specs.declared.image.ImageField.{ImageField}
use Rattle.scode_image.specs.declared.image.ImageSlot.{ImageSlot}
use Rattle.scode_code.specs.Kinds.{void}
use Rattle.scode_code.specs.TableRules.{action_has_method, action_params, has_signature, property_has_field}
use Rattle.scode_code.specs.TableRules.{slots_have_parts}
use Rattle.scode_code.specs.Tables.{field_number}
use Rattle.scode_gen.specs.Classes.{image_class}
use Rattle.scode_gen.specs.Generated.{image_of}
use Rattle.scode_gen.specs.ImageFields.{class_fields}
use Rattle.scode_gen.specs.ImageSlots.{action_number, action_place, image_slot, property_offset, slot_number}
use Rattle.scode_gen.specs.ImageSlots.{slot_place, slot_room}
use Rattle.scode_sim.specs.Made.{number_of_form}
use Rattle.scode_made.proofs.MadeData.{number_back}
use Rattle.scode_made.proofs.MadeFields.{StandApart, found}
use Rattle.scode_made.proofs.MadeStatics.{stand_apart}
use Rattle.scode_agree.proofs.Given.{IsGiven}
use Rattle.scode_agree.proofs.Infos.{slot_known, slots_known}
use Rattle.scode_agree.proofs.Properties.{its_field, its_method, no_action}
use Rattle.scode_agree.proofs.Signatures.{action_signed}
use Rattle.scode_agree.proofs.Tests.{numbered_pass}

is_action_number : (a : ActionArg) → nat_le 0x10 (action_number a) ≡ true
is_action_number argument.Void = refl
is_action_number argument.Bool = refl
is_action_number argument.Int = refl
is_action_number argument.Long = refl

module _ (program : Program) (is : IsGiven program) (class : ℕ) where
  apart : StandApart (offset_of program class) (fields program class)
  apart =
      stand_apart program (offset_of program class) (fields program class) (is.laid.wide class) (is.laid.apart class)

  has_field : (n : ℕ) (s : SlotInfo) (f : SlotForm) → HasSlot program class n s f →
      (nat_le 0x10 (slot_number f) || is_some (field_number (class_fields program class) (slot_number f)
      (slot_place program class n s.name f) (slot_room f))) ≡ true
  has_field n s (Prop t) has =
      let x = its_field program class n s t has in
      let back = number_back s t x.field x.is in
      let own : List ImageField = class_fields program class in
      or_right (nat_le 0x10 (slot_number (Prop t)))
      (is_some (field_number own (slot_number (Prop t)) (property_offset program class n) (slot_room (Prop t))))
      (ap (λ (number : ℕ). is_some (field_number own number (property_offset program class n) (slot_room (Prop t))))
      back.1
      ∙ ap (λ (offset : ℕ). is_some (field_number own (number_of_form x.field.form) offset (slot_room (Prop t))))
      x.offset
      ∙ ap (λ (room : ℕ). is_some (field_number own (number_of_form x.field.form)
      (offset_of program class x.place) room)) back.2
      ∙ ap (λ (o : Option ℕ). is_some o) (found (offset_of program class)
      (fields program class) x.place x.field x.there apart))
  has_field n s (Action a) has =
      or_left (nat_le 0x10 (action_number a)) (is_some
      (field_number (class_fields program class) (action_number a) (action_place program class s.name)
      (slot_room (Action a))))
      (is_action_number a)

  has_method : (n : ℕ) (s : SlotInfo) (f : SlotForm) → HasSlot program class n s f →
      (not (nat_le 0x10 (slot_number f))
      || option_map_or (has_signature (image_of program) (action_params (slot_number f)) void)
      (slice_get (table_of program class) (slot_place program class n s.name f)) false) ≡ true
  has_method n s (Prop t) has =
      or_left (not (nat_le 0x10 (slot_number (Prop t))))
      (option_map_or (has_signature (image_of program) (action_params (slot_number (Prop t))) void)
      (slice_get (table_of program class) (property_offset program class n)) false)
      (ap not (no_action t))
  has_method n s (Action a) has =
      let m = its_method program is.tabled class n s a has in
      let signed : ℕ → Bool = has_signature (image_of program) (action_params (action_number a)) void in
      or_right (not (nat_le 0x10 (action_number a)))
      (option_map_or signed (slice_get (table_of program class) (action_place program class s.name)) false)
      (ap (λ (place : ℕ). option_map_or signed (slice_get (table_of program class) place) false) m.said
      ∙ ap (λ (o : Option ℕ). option_map_or signed o false) m.stands
      ∙ action_signed program m.number a m.is)

  pub parts_there : (info : ClassInfo) → slice_get program.schema.classes class ≡ Some info
      → slots_have_parts (image_of program) (image_class program class info) ≡ true
  parts_there info there =
      let own = image_class program class info in
      numbered_pass (image_slot program class)
      (λ (s : ImageSlot). property_has_field own s && action_has_method (image_of program) own s) info.slots
      (λ n s at.
      let has : HasSlot program class n s s.form =
      slot_known program class info (slots_known program is.typed class info there) n s at in
      and_from (property_has_field own (image_slot program class n s))
      (action_has_method (image_of program) own (image_slot program class n s))
      (has_field n s s.form has) (has_method n s s.form has))
