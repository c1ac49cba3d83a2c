-- The field behind each slot of an image whose tables agree.
use Rattle.std.proofs.Common.{◌≡◌, ◌⊎◌, inl, inr, ◌≤◌, ℕ, ◌-◌, ◌==◌, ◌&&◌, ◌||◌, nat_le, if◌then◌else◌, Bool, true, false, List, [], map, Option, Some, None, refl, sym, ap, subst, ◌∙◌, arith}
use Rattle.std.specs.Prelude.{IfSome, IsSomeAnd, is_some, slice_get}
use Rattle.std.specs.List.{list_all}
use Rattle.std.specs.Option.{option_and_then, option_map, option_map_or}
use Rattle.std.proofs.lemmas.Bool.{and_parts, eqb-true, leb-true}
use Rattle.std.proofs.lemmas.Bool.Decides.{nat_tests}
use Rattle.std.proofs.lemmas.Option.{slice_get-map}
use Rattle.sed_value.specs.Characters.{is_between}
use Rattle.sed_value.specs.declared.slot_type.SlotType.{SlotType}
use Rattle.sed_value.specs.declared.slot_type.SlotType.TheVariants as slot
use Rattle.sed_typed.specs.declared.program.FieldForm.{FieldForm}
use Rattle.sed_typed.specs.declared.program.FieldForm.TheVariants as form
use Rattle.sed_typed.specs.declared.schema.ActionArg.{ActionArg}
use Rattle.sed_typed.specs.declared.schema.ActionArg.TheVariants as argument
use Rattle.sed_typed.specs.declared.schema.ClassInfo.{ClassInfo}
use Rattle.sed_typed.specs.declared.schema.SlotForm.{SlotForm}
use Rattle.sed_typed.specs.declared.schema.SlotForm.TheVariants.{Prop, Action}
use Rattle.sed_typed.specs.declared.schema.SlotInfo.{SlotInfo}
use Rattle.sed_typed.specs.Contents.{Shape}
use Rattle.sed_engine.specs.Code.{property_type, slot_type}
use Rattle.sed_engine.specs.Fits.{form_at}
use Rattle.sed_engine.specs.Whole.{HasBufSize, field_form}
use Rattle.sed_engine.proofs.Below.{IsPassed, position_passes}
use Rattle.scode_image.specs.declared.image.Image.{Image}
use Rattle.scode_image.specs.declared.image.ImageClass.{ImageClass}
use Rattle.scode_image.specs.declared.image.ImageField.{ImageField}
use Rattle.scode_image.specs.declared.image.ImageSlot.{ImageSlot}
use Rattle.scode_image.specs.Grammar.{is_slot_form}
use Rattle.scode_code.specs.Image.{code_of}
use Rattle.scode_code.specs.TableRules as rule
use Rattle.scode_code.specs.Tables.{class_fields, class_of, field_number, form_of, is_field, primitive_of, schema_of, shape_of, slot_field, slot_field_in, slot_form, slot_of}
use Rattle.scode_whole.proofs.Truths.{either, no_truth, no_value, passes, three}
use Rattle.scode_whole.proofs.Rule.{Agrees, ClassAgrees, class_agrees}
use Rattle.scode_whole.proofs.Bases.{fields_at, slot_field_at, slots_at}

-- ---- a slot is a property with a field, or an action

pub data SlotKind (fields : List ImageField) (s : ImageSlot) : Type 0 where
  Property : (t : SlotType) (i : ℕ) (f : ImageField) → slot_form s ≡ Prop t → slot_field_in fields s ≡ Some i
      → slice_get fields i ≡ Some f → form_of f ≡ field_form t → SlotKind fields s
  Performs : (a : ActionArg) → slot_form s ≡ Action a → slot_field_in fields s ≡ None → SlotKind fields s

some_of : {X : Type 0} (o : Option X) → is_some o ≡ true → (x : X) × (o ≡ Some x)
some_of None h = no_truth h
some_of (Some x) h = (x, refl)

not_first : (a b : Bool) → a ≡ false → (a || b) ≡ true → b ≡ true
not_first true b e h = no_truth (sym e)
not_first false b e h = h

record FieldOf (fields : List ImageField) (s : ImageSlot) : Type 0 where
  i : ℕ
  f : ImageField
  is : slot_field_in fields s ≡ Some i
  there : slice_get fields i ≡ Some f
  form : f.form ≡ s.form
  n : f.n ≡ s.n

field_of : (fields : List ImageField) (s : ImageSlot) → nat_le s.form 7 ≡ true → nat_le 0x10 s.form ≡ false
    → (rule.is_action s || is_some (field_number fields s.form s.place s.n)) ≡ true → FieldOf fields s
field_of fields s low no_action h =
    let at = some_of (field_number fields s.form s.place s.n)
    (not_first (rule.is_action s) (is_some (field_number fields s.form s.place s.n)) no_action h) in
    let found : IsPassed (is_field s.form s.place s.n) fields at.0 =
    position_passes (is_field s.form s.place s.n) fields at.0 at.1 in
    let p = three (found.value.form == s.form) (found.value.offset == s.place) (found.value.n == s.n) found.passes in
    record {
      i = at.0;
      f = found.value;
      is = ap (λ (b : Bool). if b then field_number fields s.form s.place s.n else None) low ∙ at.1;
      there = found.is;
      form = eqb-true found.value.form s.form p.0;
      n = eqb-true found.value.n s.n p.2;
    }

-- ---- forms by their numbers

pub form_prim : (f : ImageField) → nat_le f.form 5 ≡ true → form_of f ≡ form.Prim (primitive_of f.form)
form_prim f a = rw a refl

pub form_str : (f : ImageField) → nat_le f.form 5 ≡ false → (f.form == 6) ≡ true → form_of f ≡ form.Str f.n
form_str f a b = rw (a, b) refl

pub form_buf : (f : ImageField) → nat_le f.form 5 ≡ false → (f.form == 6) ≡ false → (f.form == 7) ≡ true
    → form_of f ≡ form.Buf f.n
form_buf f a b c = rw (a, b, c) refl

slot_prim : (s : ImageSlot) → nat_le s.form 5 ≡ true → slot_form s ≡ Prop (slot.Prim (primitive_of s.form))
slot_prim s a = rw a refl

slot_buf : (s : ImageSlot) → nat_le s.form 5 ≡ false → (s.form == 7) ≡ true → slot_form s ≡ Prop (slot.Buf s.n)
slot_buf s a b = rw (a, b) refl

action_of : Bool → Bool → Bool → ActionArg
action_of true b c = argument.Void
action_of false true c = argument.Bool
action_of false false true = argument.Int
action_of false false false = argument.Long

chosen : (a b c : Bool)
    → (if a then Action argument.Void else if b then Action argument.Bool else if c then Action argument.Int
    else Action argument.Long)
    ≡ Action (action_of a b c)
unfolding action_of
chosen true b c = refl
chosen false true c = refl
chosen false false true = refl
chosen false false false = refl

slot_action : (s : ImageSlot) → nat_le s.form 5 ≡ false → (s.form == 7) ≡ false
    → slot_form s ≡ Action (action_of (s.form == 0x10) (s.form == 0x11) (s.form == 0x12))
slot_action s a b = rw (a, b) (chosen (s.form == 0x10) (s.form == 0x11) (s.form == 0x12))

of_prim : (fields : List ImageField) (s : ImageSlot) → is_between 1 5 s.form ≡ true
    → (rule.is_action s || is_some (field_number fields s.form s.place s.n)) ≡ true → SlotKind fields s
of_prim fields s e h =
    let low : nat_le s.form 5 ≡ true = (and_parts (nat_le 1 s.form) (nat_le s.form 5) e).1 in
    let most : s.form ≤ 5 = leb-true s.form 5 low in
    let g : FieldOf fields s =
    field_of fields s (grind (arith, nat_tests, most)) (grind (arith, nat_tests, most)) h in
    let own : nat_le g.f.form 5 ≡ true = ap (λ (n : ℕ). nat_le n 5) g.form ∙ low in
    Property (slot.Prim (primitive_of s.form)) g.i g.f (slot_prim s low) g.is g.there
    (form_prim g.f own ∙ ap (λ (n : ℕ). form.Prim (primitive_of n)) g.form)

of_buf : (fields : List ImageField) (s : ImageSlot) → (s.form == 7) ≡ true
    → (rule.is_action s || is_some (field_number fields s.form s.place s.n)) ≡ true → SlotKind fields s
of_buf fields s e h =
    let same : s.form ≡ 7 = eqb-true s.form 7 e in
    let g : FieldOf fields s = field_of fields s (ap (λ (n : ℕ). nat_le n 7) same)
    (ap (λ (n : ℕ). nat_le 0x10 n) same) h in
    let own : g.f.form ≡ 7 = g.form ∙ same in
    Property (slot.Buf s.n) g.i g.f (slot_buf s (ap (λ (n : ℕ). nat_le n 5) same) e) g.is g.there
    (form_buf g.f (ap (λ (n : ℕ). nat_le n 5) own) (ap (λ (n : ℕ). n == 6) own) (ap (λ (n : ℕ). n == 7) own)
    ∙ ap (λ (n : ℕ). form.Buf n) g.n)

of_action : (fields : List ImageField) (s : ImageSlot) → is_between 0x10 0x13 s.form ≡ true → SlotKind fields s
of_action fields s e =
    let high : 0x10 ≤ s.form = leb-true 0x10 s.form (and_parts (nat_le 0x10 s.form) (nat_le s.form 0x13) e).0 in
    let is : slot_form s ≡ Action (action_of (s.form == 0x10) (s.form == 0x11) (s.form == 0x12)) =
    slot_action s (grind (arith, nat_tests, high)) (grind (arith, nat_tests, high)) in
    let past : nat_le s.form 7 ≡ false = grind (arith, nat_tests, high) in
    Performs (action_of (s.form == 0x10) (s.form == 0x11) (s.form == 0x12)) is
    (ap (λ (b : Bool). if b then field_number fields s.form s.place s.n else None) past)

kind_of : (fields : List ImageField) (s : ImageSlot) → is_slot_form s.form ≡ true
    → (rule.is_action s || is_some (field_number fields s.form s.place s.n)) ≡ true → SlotKind fields s
kind_of fields s known h = by_form (either (is_between 1 5 s.form || (s.form == 7)) (is_between 0x10 0x13 s.form) known)
  where
    by_property : (is_between 1 5 s.form ≡ true) ⊎ ((s.form == 7) ≡ true) → SlotKind fields s
    by_property (inl e) = of_prim fields s e h
    by_property (inr e) = of_buf fields s e h

    by_form : ((is_between 1 5 s.form || (s.form == 7)) ≡ true) ⊎ (is_between 0x10 0x13 s.form ≡ true)
        → SlotKind fields s
    by_form (inl e) = by_property (either (is_between 1 5 s.form) (s.form == 7) e)
    by_form (inr e) = of_action fields s e

pub kind_at : (image : Image) (class : ℕ) (c : ImageClass) → ClassAgrees image class c → (n : ℕ) (s : ImageSlot)
    → slice_get c.slots n ≡ Some s → SlotKind c.fields s
kind_at image class c a n s e =
    let known : (is_slot_form s.form && nat_le s.config 1) ≡ true =
    passes (λ (t : ImageSlot). is_slot_form t.form && nat_le t.config 1) c.slots n s a.slot_forms e in
    let parts : (rule.property_has_field c s && rule.action_has_method image c s) ≡ true =
    passes (λ (t : ImageSlot). rule.property_has_field c t && rule.action_has_method image c t) c.slots n s a.slots e in
    kind_of c.fields s (and_parts (is_slot_form s.form) (nat_le s.config 1) known).0
    (and_parts (rule.property_has_field c s) (rule.action_has_method image c s) parts).0

-- ---- the room of a Buf

abbrev BufFits : FieldForm → Type 0
BufFits (form.Buf n) = (1 ≤ n) × (n ≤ 128)
BufFits other = Unit {0}

sized_form : (f : ImageField) → rule.n_is_of_form f ≡ true → BufFits (form_of f)
sized_form f h = by_number (nat_le f.form 5) (f.form == 6) (f.form == 7) (f.form == 8) h
  where
    by_number : (a b c d : Bool)
        → (if a then f.n == 0 else if b then nat_le 1 f.n && nat_le f.n 255 else if c then nat_le 1 f.n && nat_le f.n
        128
        else if d then true else nat_le 1 f.n)
        ≡ true
        → BufFits (if a then form.Prim (primitive_of f.form) else if b then form.Str f.n else if c then form.Buf f.n
        else if d then form.Object (record { 0 = f.n }) else form.Array (primitive_of (f.form - 8)) f.n)
    by_number true b c d h = tt
    by_number false true c d h = tt
    by_number false false true d h =
        let p = and_parts (nat_le 1 f.n) (nat_le f.n 128) h in (leb-true 1 f.n p.0, leb-true f.n 128 p.1)
    by_number false false false true h = tt
    by_number false false false false h = tt

buf_size : (fields : List ImageField) (s : ImageSlot) → list_all rule.n_is_of_form fields ≡ true → SlotKind fields s
    → HasBufSize (slot_form s)
buf_size fields s sized (Performs a is none) = subst (λ (o : SlotForm). HasBufSize o) (sym is) tt
buf_size fields s sized (Property (slot.Prim p) i f is at there of) = subst (λ (o : SlotForm). HasBufSize o) (sym is) tt
buf_size fields s sized (Property (slot.Buf n) i f is at there of) =
    subst (λ (o : SlotForm). HasBufSize o) (sym is)
    (subst (λ (g : FieldForm). BufFits g) of (sized_form f (passes rule.n_is_of_form fields i f sized there)))

pub bufs_of : (image : Image) (class : ℕ) (c : ImageClass) → ClassAgrees image class c → (n : ℕ) (s : ImageSlot)
    → slice_get c.slots n ≡ Some s → HasBufSize (slot_form s)
bufs_of image class c a n s e = buf_size c.fields s a.fields.of_form (kind_at image class c a n s e)

-- ---- what a code says of a slot

pub data SlotAt (image : Image) (class n : ℕ) : Type 0 where
  Lacks : slot_type (code_of image) class n ≡ None → slot_field image class n ≡ None → SlotAt image class n
  Has : (c : ImageClass) (t : SlotType) (i : ℕ) (f : ImageField) → slice_get image.classes class ≡ Some c
      → slot_type (code_of image) class n ≡ Some t → slot_field image class n ≡ Some i → slice_get c.fields i ≡ Some f
      → form_of f ≡ field_form t → SlotAt image class n

type_in : List SlotInfo → ℕ → Option SlotType
type_in all n = property_type (option_map (λ (s : SlotInfo). s.form) (slice_get all n))

type_at : (image : Image) (class n : ℕ) (c : ImageClass) (o : Option ImageSlot) → slice_get image.classes class ≡ Some c
    → slice_get c.slots n ≡ o
    → slot_type (code_of image) class n ≡ property_type (option_map (λ (s : ImageSlot). slot_form s) o)
unfolding type_in
type_at image class n c o here e =
    ap (λ (all : List SlotInfo). type_in all n) (slots_at image class c here)
    ∙ ap (λ (r : Option SlotInfo). property_type (option_map (λ (s : SlotInfo). s.form) r))
    (slice_get-map slot_of c.slots n)
    ∙ ap (λ (r : Option ImageSlot). property_type (option_map (λ (s : SlotInfo). s.form) (option_map slot_of r))) e
    ∙ by_slot o
  where
    by_slot : (r : Option ImageSlot) → property_type (option_map (λ (s : SlotInfo). s.form) (option_map slot_of r))
        ≡ property_type (option_map (λ (s : ImageSlot). slot_form s) r)
    by_slot None = refl
    by_slot (Some s) = refl

no_class : (image : Image) (class n : ℕ) → slice_get image.classes class ≡ None → SlotAt image class n
unfolding type_in
no_class image class n e =
    let none : slice_get (schema_of image).classes class ≡ None =
    slice_get-map class_of image.classes class ∙ ap (λ (o : Option ImageClass). option_map class_of o) e in
    Lacks
    (ap (λ (o : Option ClassInfo). type_in (option_map_or (λ (info : ClassInfo). info.slots) o []) n) none)
    (ap (λ (o : Option ImageClass). option_and_then (λ (d : ImageClass). option_and_then (slot_field_in d.fields)
    (slice_get d.slots n)) o) e)

of_kind : (image : Image) (class n : ℕ) (c : ImageClass) (s : ImageSlot) → slice_get image.classes class ≡ Some c
    → slice_get c.slots n ≡ Some s → SlotKind c.fields s → SlotAt image class n
of_kind image class n c s here e kind =
    let of_type : slot_type (code_of image) class n ≡ property_type (Some (slot_form s)) =
    type_at image class n c (Some s) here e in
    let of_field : slot_field image class n ≡ slot_field_in c.fields s =
    slot_field_at image class n c here ∙ ap (λ (o : Option ImageSlot). option_and_then (slot_field_in c.fields) o) e in
    by_kind of_type of_field kind
  where
    by_kind : slot_type (code_of image) class n ≡ property_type (Some (slot_form s))
        → slot_field image class n ≡ slot_field_in c.fields s → SlotKind c.fields s → SlotAt image class n
    by_kind of_type of_field (Property t i f is at there of) =
        Has c t i f here (of_type ∙ ap (λ (o : SlotForm). property_type (Some o)) is) (of_field ∙ at) there of
    by_kind of_type of_field (Performs a is none) =
        Lacks (of_type ∙ ap (λ (o : SlotForm). property_type (Some o)) is) (of_field ∙ none)

pub slot_at : (image : Image) → Agrees image → (class n : ℕ) → SlotAt image class n
slot_at image is class n = by_class (slice_get image.classes class) refl
  where
    by_slot : (c : ImageClass) → slice_get image.classes class ≡ Some c → (o : Option ImageSlot)
        → slice_get c.slots n ≡ o
        → SlotAt image class n
    by_slot c here None e =
        Lacks (type_at image class n c None here e)
        (slot_field_at image class n c here ∙ ap (λ (o : Option ImageSlot). option_and_then
        (slot_field_in c.fields) o) e)
    by_slot c here (Some s) e =
        of_kind image class n c s here e (kind_at image class c (class_agrees image is class c here) n s e)

    by_class : (o : Option ImageClass) → slice_get image.classes class ≡ o → SlotAt image class n
    by_class None e = no_class image class n e
    by_class (Some c) e = by_slot c e (slice_get c.slots n) refl

-- ---- a property has a field of its form, and nothing else has one

form_is : (image : Image) (class i : ℕ) (c : ImageClass) (f : ImageField) (t : SlotType)
    → slice_get image.classes class ≡ Some c → slice_get c.fields i ≡ Some f → form_of f ≡ field_form t
    → form_at (map shape_of (class_fields image class)) i ≡ Some (field_form t)
form_is image class i c f t here there of =
    ap (λ (all : List ImageField). form_at (map shape_of all) i) (fields_at image class c here)
    ∙ ap (λ (o : Option Shape). option_map (λ (s : Shape). s.form) o) (slice_get-map shape_of c.fields i)
    ∙ ap (λ (o : Option ImageField). option_map (λ (s : Shape). s.form) (option_map shape_of o)) there
    ∙ ap (λ (g : FieldForm). Some g) of

pub slot_fields_of : (image : Image) (class n : ℕ) → SlotAt image class n
    → IfSome (slot_type (code_of image) class n)
    (λ t. IsSomeAnd (slot_field image class n)
    (λ i. form_at (map shape_of (class_fields image class)) i ≡ Some (field_form t)))
slot_fields_of image class n (Lacks none no_field) =
    subst (λ (o : Option SlotType). IfSome o (λ t. IsSomeAnd (slot_field image class n)
    (λ i. form_at (map shape_of (class_fields image class)) i ≡ Some (field_form t))))
    (sym none) tt
slot_fields_of image class n (Has c t i f here of_type of_field there of) =
    subst (λ (o : Option SlotType). IfSome o (λ t. IsSomeAnd (slot_field image class n)
    (λ i. form_at (map shape_of (class_fields image class)) i ≡ Some (field_form t))))
    (sym of_type)
    (subst (λ (o : Option ℕ). IsSomeAnd o (λ i. form_at (map shape_of (class_fields image class)) i
    ≡ Some (field_form t)))
    (sym of_field) (form_is image class i c f t here there of))

pub no_fields_of : (image : Image) (class n : ℕ) → SlotAt image class n → slot_type (code_of image) class n ≡ None
    → slot_field image class n ≡ None
no_fields_of image class n (Lacks none no_field) e = no_field
no_fields_of image class n (Has c t i f here of_type of_field there of) e = no_value t (sym e ∙ of_type)
