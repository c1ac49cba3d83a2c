-- The numbers, bases and marks of classes, and what a class has of its base.
use Rattle.std.proofs.Common.{◌≡◌, ℕ, ◌<◌, ◌==◌, ◌||◌, Bool, true, false, not, nat_le, nat_lt, List, ◌++◌, length}
use Rattle.std.proofs.Common.{Option, Some, refl, ap, sym, subst, ◌∙◌, arith}
use Rattle.std.specs.Prelude.{IsSomeAnd, position, slice_get, unwrap_or}
use Rattle.std.specs.List.{list_all}
use Rattle.std.specs.Option.{option_map_or}
use Rattle.std.specs.Str.{bytes_eq}
use Rattle.std.proofs.lemmas.Bool.{eq-eqb, le-leb, lt-ltb, or_left, or_right}
use Rattle.std.proofs.lemmas.List.{length-append, length-map}
use Rattle.std.proofs.lemmas.Option.{slice_get_within}
use Rattle.std.proofs.lemmas.Slice.Eq.{bytes_eq-Decides}
use Rattle.sed_typed.specs.declared.program.Field.{Field}
use Rattle.sed_typed.specs.declared.program.Program.{Program}
use Rattle.sed_typed.specs.declared.schema.ClassInfo.{ClassInfo}
use Rattle.sed_typed.specs.declared.schema.Schema.{Schema}
use Rattle.sed_typed.specs.declared.schema.SlotForm.{SlotForm}
use Rattle.sed_typed.specs.declared.schema.SlotForm.TheVariants.{Prop, Action}
use Rattle.sed_typed.specs.declared.schema.SlotInfo.{SlotInfo}
use Rattle.sed_typed.specs.Classes.{fields, method_name}
use Rattle.sed_typed.specs.Schemas.{type_at}
use Rattle.sed_typed.specs.SysTypes.{component_type}
use Rattle.sed_typed.specs.TypedSchema.{HasSlot, in_slot, is_below}
use Rattle.sed_typed.specs.Virtual.{virtual_names}
use Rattle.sed_engine.proofs.Below.{of_some}
use Rattle.sed_engine.proofs.Positions.{found_before}
use Rattle.sed_engine.proofs.SysMethods.{sys_class}
use Rattle.sed_layout.specs.MethodTables.{KeepsPlaces, MayStand, table_of}
use Rattle.sed_layout.specs.Offsets.{KeepsFields, offset_of}
use Rattle.scode_image.specs.declared.image.ImageClass.{ImageClass}
use Rattle.scode_image.specs.declared.image.ImageField.{ImageField}
use Rattle.scode_image.specs.declared.image.ImageSlot.{ImageSlot}
use Rattle.scode_code.specs.TableRules.{are_equal, base_stands_before, begins, class_numbers_are_there, grows_from_base}
use Rattle.scode_code.specs.TableRules.{has_class, has_method, is_action, is_component, is_marked, same_field}
use Rattle.scode_code.specs.TableRules.{same_slot, with_base}
use Rattle.scode_entries.specs.Method.{image_method}
use Rattle.scode_gen.specs.Classes.{base_number, image_class, image_kit}
use Rattle.scode_gen.specs.FirstBytes.{first_bytes}
use Rattle.scode_gen.specs.Generated.{image_layout, image_of}
use Rattle.scode_gen.specs.ImageFields.{class_fields, fields_placed, image_field}
use Rattle.scode_gen.specs.ImageSlots.{action_place, config_number, image_slot, image_slots, property_offset}
use Rattle.scode_gen.specs.ImageSlots.{slot_number, slot_place, slot_room}
use Rattle.scode_made.proofs.FirstBytes.{first_many}
use Rattle.scode_made.proofs.MadeSchema.{schema_back}
use Rattle.scode_made.proofs.Places.{all_at}
use Rattle.scode_agree.proofs.Given.{IsGiven}
use Rattle.scode_agree.proofs.Infos.{Alone, Based, Bases, IsBased, base_passes, class_known, class_there, its_base}
use Rattle.scode_agree.proofs.Infos.{slot_known, slots_known, slots_there, told_back}
use Rattle.scode_agree.proofs.Lines.{below_base}
use Rattle.scode_agree.proofs.Properties.{its_field, its_method, no_action}
use Rattle.scode_agree.proofs.Tests.{five, four, from_all, numbered_begin, numbered_pass, three}

-- ---- numbers

pub as_many_methods : (program : Program) → length (image_of program).methods ≡ length program.methods
as_many_methods program = length-map program.methods (image_method program (image_layout program))

equal_same : (a b : Bool) → a ≡ b → are_equal a b ≡ true
equal_same true b e = sym e
equal_same false b e = ap not (sym e)

field_itself : (f : ImageField) → same_field f f ≡ true
field_itself f =
    three (f.offset == f.offset) (f.form == f.form) (f.n == f.n) (eq-eqb f.offset f.offset refl)
    (eq-eqb f.form f.form refl) (eq-eqb f.n f.n refl)

module _ (program : Program) (is : IsGiven program) (class : ℕ) (info : ClassInfo)
    (there : slice_get program.schema.classes class ≡ Some info) where
  abbrev own : ImageClass
  own = image_class program class info

  kit_known : nat_lt info.kit (length (image_of program).kits) ≡ true
  kit_known =
      let known : info.kit < length program.schema.kits =
      all_at (λ (c : ClassInfo). c.kit < length program.schema.kits) program.schema.classes class info there
      is.typed.kits.known in
      lt-ltb info.kit (length (image_of program).kits)
      (subst (λ (n : ℕ). info.kit < n) (sym (length-map program.schema.kits image_kit)) known)

  base_known : ((base_number info == 0xffff) || has_class (image_of program) (base_number info)) ≡ true
  base_known = by_base (its_base program is.typed class info there)
    where
      by_base : Bases program class info → ((base_number info == 0xffff)
          || has_class (image_of program) (base_number info)) ≡ true
      by_base (Alone none said) =
          or_left (base_number info == 0xffff) (has_class (image_of program) (base_number info))
          (eq-eqb (base_number info) 0xffff said)
      by_base (Based base based) =
          or_right (base_number info == 0xffff) (has_class (image_of program) (base_number info))
          (class_there program (base_number info) (subst (λ (n : ℕ). n < length program.schema.classes)
          (sym based.said) based.within))

  method_known : list_all (has_method (image_of program)) (table_of program class) ≡ true
  method_known =
      from_all (λ (number : ℕ). IsSomeAnd (slice_get program.methods number) (MayStand program class))
      (has_method (image_of program))
      (λ number h.
      let m = of_some {P = MayStand program class} (slice_get program.methods number) h in
      lt-ltb number (length (image_of program).methods)
      (subst (λ (n : ℕ). number < n) (sym (as_many_methods program)) (slice_get_within program.methods number m.0 m.1)))
      (table_of program class) (is.stand class)

  action_known : (n : ℕ) (s : SlotInfo) (f : SlotForm) → HasSlot program class n s f →
      (not (nat_le 0x10 (slot_number f)) || nat_lt (slot_place program class n s.name f)
      (length (table_of program class))) ≡ true
  action_known n s (Prop t) has =
      ap (λ (b : Bool). not b || nat_lt (property_offset program class n) (length (table_of program class)))
      (no_action t)
  action_known n s (Action a) has =
      let m = its_method program is.tabled class n s a has in
      or_right (not (nat_le 0x10 (slot_number (Action a))))
      (nat_lt (action_place program class s.name) (length (table_of program class)))
      (lt-ltb (action_place program class s.name) (length (table_of program class))
      (subst (λ (place : ℕ). place < length (table_of program class)) (sym m.said) m.within))

  pub numbers_known : class_numbers_are_there (image_of program) own ≡ true
  numbers_known =
      let actions : ImageSlot → Bool = λ s. not (is_action s) || nat_lt s.place (length (table_of program class)) in
      four (nat_lt info.kit (length (image_of program).kits))
      ((base_number info == 0xffff) || has_class (image_of program) (base_number info))
      (list_all (has_method (image_of program)) (table_of program class))
      (list_all actions (image_slots program class info.slots))
      kit_known base_known method_known
      (numbered_pass (image_slot program class) actions info.slots
      (λ n s at. action_known n s s.form (slot_known program class info
      (slots_known program is.typed class info there) n s at)))

  -- ---- bases

  pub base_before : base_stands_before class own ≡ true
  base_before = by_base (its_base program is.typed class info there)
    where
      by_base : Bases program class info → ((base_number info == 0xffff) || nat_lt (base_number info) class) ≡ true
      by_base (Alone none said) =
          or_left (base_number info == 0xffff) (nat_lt (base_number info) class) (eq-eqb (base_number info) 0xffff said)
      by_base (Based base based) =
          or_right (base_number info == 0xffff) (nat_lt (base_number info) class)
          (lt-ltb (base_number info) class (subst (λ (n : ℕ). n < class) (sym based.said) based.has.before))

  pub marked : is_marked (image_of program) class own ≡ true
  marked =
      let s = sys_class program.schema.classes component_type _ is.typed.kits.sys_types.component in
      let flag : is_component own ≡ info.is_component =
      ap (λ (x : ClassInfo). x.is_component) (told_back program is.typed is.laid.few_classes class info there) in
      ap (λ (x : Schema). option_map_or (λ (c : ℕ). are_equal (is_component own) (is_below x.classes c class))
      (type_at x.classes 0 2) false)
      (schema_back program is.typed is.laid.few_classes)
      ∙ ap (λ (o : Option ℕ). option_map_or (λ (c : ℕ). are_equal (is_component own)
      (is_below program.schema.classes c class)) o false) s.is
      ∙ equal_same (is_component own) (is_below program.schema.classes s.class class)
      (flag
      ∙ (class_known program is.typed class info there).component
      ∙ ap (λ (o : Option ℕ). option_map_or (λ (c : ℕ). is_below program.schema.classes c class) o false) s.is)

  -- ---- what stands in front

  module _ (base : ℕ) (based : IsBased program class info base) where
    below : is_below program.schema.classes base class ≡ true
    below = below_base program is.typed class base based.is based.within

    keeps_fields : KeepsFields program base class
    keeps_fields = is.laid.keeps base class below

    keeps_places : KeepsPlaces program base class
    keeps_places = is.tabled.keeps_places base class below

    contents_grow : nat_le (length (first_bytes program base)) (length (first_bytes program class)) ≡ true
    contents_grow =
        let low = first_many program is.typed base in
        let high = first_many program is.typed class in
        let grows = based.has.size in
        le-leb (length (first_bytes program base)) (length (first_bytes program class))
        (omega (arith, low, high, grows))

    as_many_names : (c : ℕ) → length (table_of program c) ≡ length (virtual_names program c)
    as_many_names c = sym (length-map (table_of program c) (method_name program)) ∙ ap length (is.tabled.names c)

    table_grows : nat_le (length (table_of program base)) (length (table_of program class)) ≡ true
    table_grows =
        let low = as_many_names base in
        let high = as_many_names class in
        let front : length (virtual_names program class) ≡ length (virtual_names program base ++ keeps_places.first.0) =
        ap length keeps_places.first.1 in
        let both = length-append (virtual_names program base) keeps_places.first.0 in
        le-leb (length (table_of program base)) (length (table_of program class))
        (omega (arith, low, high, front, both))

    fields_begin : begins same_field (class_fields program base) (class_fields program class) ≡ true
    fields_begin =
        ap (λ (all : List Field). begins same_field (class_fields program base)
        (fields_placed (offset_of program class) all)) keeps_fields.first.1
        ∙ numbered_begin (λ (i : ℕ) (f : Field). image_field (offset_of program base i) f.form)
        (λ (i : ℕ) (f : Field). image_field (offset_of program class i) f.form) same_field
        (fields program base) keeps_fields.first.0
        (λ i f at.
        ap (λ (o : ℕ). same_field (image_field (offset_of program base i) f.form) (image_field o f.form))
        (keeps_fields.offsets i (slice_get_within (fields program base) i f at))
        ∙ field_itself (image_field (offset_of program base i) f.form))

    place_same : (n : ℕ) (s : SlotInfo) (f : SlotForm) → HasSlot program base n s f
        → slot_place program base n s.name f ≡ slot_place program class n s.name f
    place_same n s (Prop t) has =
        let x = its_field program base n s t has in
        let found : position (in_slot n) (fields program class) ≡ Some x.place =
        ap (position (in_slot n)) keeps_fields.first.1
        ∙ found_before (in_slot n) (fields program base) keeps_fields.first.0 x.place x.first in
        x.offset
        ∙ sym (keeps_fields.offsets x.place (slice_get_within (fields program base) x.place x.field x.there))
        ∙ sym (ap (λ (o : Option ℕ). option_map_or (offset_of program class) o 0) found)
    place_same n s (Action a) has =
        let m = its_method program is.tabled base n s a has in
        m.said ∙ sym (ap (λ (o : Option ℕ). unwrap_or o 0) (keeps_places.places s.name m.place m.placed_at))

    slot_alike : (n : ℕ) (s : SlotInfo) → HasSlot program base n s s.form
        → same_slot (image_slot program base n s) (image_slot program class n s) ≡ true
    slot_alike n s has =
        let low : ℕ = slot_place program base n s.name s.form in
        let high : ℕ = slot_place program class n s.name s.form in
        let number : ℕ = slot_number s.form in
        let room : ℕ = slot_room s.form in
        let config : ℕ = config_number s.config s.form in
        five (bytes_eq s.name s.name) (number == number) (low == high) (room == room) (config == config)
        ((bytes_eq-Decides s.name s.name).1 refl) (eq-eqb number number refl)
        (eq-eqb low high (place_same n s s.form has)) (eq-eqb room room refl) (eq-eqb config config refl)

    slots_begin : begins same_slot (image_slots program base based.above.slots)
        (image_slots program class info.slots) ≡ true
    slots_begin =
        let all_slots : info.slots ≡ based.above.slots ++ based.has.slots.0 =
        sym (slots_there program class info there)
        ∙ based.has.slots.1
        ∙ ap (λ (front : List SlotInfo). front ++ based.has.slots.0)
        (slots_there program base based.above based.there) in
        ap (λ (all : List SlotInfo). begins same_slot (image_slots program base based.above.slots)
        (image_slots program class all)) all_slots
        ∙ numbered_begin (image_slot program base)
        (image_slot program class) same_slot based.above.slots based.has.slots.0
        (λ n s at. slot_alike n s (slot_known program base based.above
        (slots_known program is.typed base based.above based.there) n s at))

    grows : grows_from_base own (image_class program base based.above) ≡ true
    grows =
        four (nat_le (length (first_bytes program base)) (length (first_bytes program class)))
        (nat_le (length (table_of program base)) (length (table_of program class)))
        (begins same_field (class_fields program base) (class_fields program class))
        (begins same_slot (image_slots program base based.above.slots) (image_slots program class info.slots))
        contents_grow table_grows fields_begin slots_begin

  pub grown : with_base (image_of program) (grows_from_base own) own ≡ true
  grown = base_passes program is.typed is.laid.few_classes (grows_from_base own) class info there grows
