-- The slot of a property, and the field behind it.
use Rattle.std.proofs.Common.{◌≡◌, ◌≢◌, ◌⊎◌, inl, inr, ◌≤◌, ℕ, ◌==◌, ◌&&◌, ◌||◌, nat_le, if◌then◌else◌, Bool, true, false, List, Option, Some, None, refl, sym, ap, subst, ◌∙◌, arith}
use Rattle.std.specs.Prelude.{slice_get}
use Rattle.std.specs.Option.{option_and_then, option_map, option_map_or}
use Rattle.std.proofs.lemmas.Bool.{and_from, and_parts, cases_Bool, cases_eq, eq-eqb, eqb-true, leb-true, ne_eqb}
use Rattle.std.proofs.lemmas.Bool.Decides.{nat_tests}
use Rattle.std.proofs.lemmas.Option.{same_Some, slice_get-map}
use Rattle.sed_value.specs.Characters.{is_between}
use Rattle.sed_value.specs.declared.slot_type.SlotType.{SlotType}
use Rattle.sed_typed.specs.declared.schema.SlotForm.{SlotForm}
use Rattle.sed_typed.specs.declared.schema.SlotForm.TheVariants.{Prop}
use Rattle.sed_typed.specs.declared.schema.SlotInfo.{SlotInfo}
use Rattle.sed_engine.specs.Code.{is_property, is_same_field, property_type, slot_type}
use Rattle.sed_engine.proofs.Below.{IsPassed, position_passes}
use Rattle.scode_image.specs.declared.image.Image.{Image}
use Rattle.scode_image.specs.declared.image.ImageClass.{ImageClass}
use Rattle.scode_image.specs.declared.image.ImageField.{ImageField}
use Rattle.scode_image.specs.declared.image.ImageSlot.{ImageSlot}
use Rattle.scode_image.specs.Grammar.{is_slot_form}
use Rattle.scode_code.specs.Faults.{IsVerified}
use Rattle.scode_code.specs.Image.{code_of}
use Rattle.scode_code.specs.TableRules as rule
use Rattle.scode_code.specs.Tables.{class_fields, field_number, is_field, slot_field, slot_field_in, slot_form, slot_of}
use Rattle.scode_whole.proofs.Bases.{fields_at, slot_field_at, slots_at}
use Rattle.scode_whole.proofs.Rule.{Agrees, ClassAgrees, agrees, class_agrees}
use Rattle.scode_whole.proofs.SlotFields.{Has, Lacks, SlotAt, slot_at as slot_kind}
use Rattle.scode_whole.proofs.Truths.{either, no_truth, no_value, passes, three}
use Rattle.scode_whole.proofs.Whole.{first_rule}
use Rattle.scode_engine.specs.Slots.{field_of, is_buf, is_held, slot_at, type_of}

-- the slot of a property, and its field
pub record IsBehind (image : Image) (class n : ℕ) : Type 0 where
  pub slot : ImageSlot
  pub at : slot_at image class n ≡ Some slot
  pub i : ℕ
  pub behind : slot_field image class n ≡ Some i
  pub number : field_number (class_fields image class) slot.form slot.place slot.n ≡ Some i
  pub stands : slice_get (class_fields image class) i ≡ Some (field_of slot)
  pub held : is_held (field_of slot) ≡ true
  pub typed : slot_type (code_of image) class n ≡ Some (type_of (field_of slot))

one_field : (f : ImageField) (s : ImageSlot) → is_field s.form s.place s.n f ≡ true → f ≡ field_of s
one_field f s passes =
    let p = three (f.form == s.form) (f.offset == s.place) (f.n == s.n) passes in
    let form = eqb-true f.form s.form p.0 in
    let offset = eqb-true f.offset s.place p.1 in
    let n = eqb-true f.n s.n p.2 in
    λ i. record { offset = offset i; form = form i; n = n i }

-- a property is of a primitive, or a Buf
property_form : (s : ImageSlot) → is_slot_form s.form ≡ true → nat_le s.form 7 ≡ true
    → (nat_le s.form 5 ≡ true) ⊎ (s.form ≡ 7)
property_form s known low = by_form (either (is_between 1 5 s.form || (s.form == 7)) (is_between 0x10 0x13 s.form) known)
  where
    by_property : (is_between 1 5 s.form ≡ true) ⊎ ((s.form == 7) ≡ true) → (nat_le s.form 5 ≡ true) ⊎ (s.form ≡ 7)
    by_property (inl e) = inl (and_parts (nat_le 1 s.form) (nat_le s.form 5) e).1
    by_property (inr e) = inr (eqb-true s.form 7 e)

    by_form : ((is_between 1 5 s.form || (s.form == 7)) ≡ true) ⊎ (is_between 0x10 0x13 s.form ≡ true)
        → (nat_le s.form 5 ≡ true) ⊎ (s.form ≡ 7)
    by_form (inl e) = by_property (either (is_between 1 5 s.form) (s.form == 7) e)
    by_form (inr e) =
        let high : 0x10 ≤ s.form = leb-true 0x10 s.form (and_parts (nat_le 0x10 s.form) (nat_le s.form 0x13) e).0 in
        let most : s.form ≤ 7 = leb-true s.form 7 low in
        absurd (omega (arith, high, most))

-- a Buf has at most 128 bytes
few_bytes : (f : ImageField) → f.form ≡ 7 → rule.n_is_of_form f ≡ true → nat_le f.n 128 ≡ true
few_bytes f is sized = by_number (nat_le f.form 5) (f.form == 6) (f.form == 7) (f.form == 8)
    (ap (λ (k : ℕ). nat_le k 5) is) (ap (λ (k : ℕ). k == 6) is) (ap (λ (k : ℕ). k == 7) is) sized
  where
    by_number : (a b c d : Bool) → a ≡ false → b ≡ false → c ≡ true
        → (if a then f.n == 0 else if b then nat_le 1 f.n && nat_le f.n 255 else if c then nat_le 1 f.n && nat_le f.n
        128
        else if d then true else nat_le 1 f.n)
        ≡ true
        → nat_le f.n 128 ≡ true
    by_number true b c d x y z h = no_truth (sym x)
    by_number false true c d x y z h = no_truth (sym y)
    by_number false false false d x y z h = no_truth z
    by_number false false true d x y z h = (and_parts (nat_le 1 f.n) (nat_le f.n 128) h).1

held_of : (f : ImageField) → (nat_le f.form 5 ≡ true) ⊎ (f.form ≡ 7) → rule.n_is_of_form f ≡ true
    → is_held f ≡ true
held_of f (inl low) sized = ap (λ (b : Bool). b || (is_buf f.form && nat_le f.n 128)) low
held_of f (inr is) sized =
    let buf : is_buf f.form ≡ true = ap (λ (k : ℕ). k == 7) is in
    let high : nat_le f.form 5 ≡ false = ap (λ (k : ℕ). nat_le k 5) is in
    ap (λ (b : Bool). b || (is_buf f.form && nat_le f.n 128)) high
    ∙ and_from (is_buf f.form) (nat_le f.n 128) buf (few_bytes f is sized)

typed_of : (s : ImageSlot) → (nat_le s.form 5 ≡ true) ⊎ (s.form ≡ 7) → slot_form s ≡ Prop (type_of (field_of s))
typed_of s (inl low) =
    let most : s.form ≤ 5 = leb-true s.form 5 low in
    let none : (s.form == 7) ≡ false = grind (arith, nat_tests, most) in
    rw (low, none) refl
typed_of s (inr is) =
    let buf : (s.form == 7) ≡ true = ap (λ (k : ℕ). k == 7) is in
    let high : nat_le s.form 5 ≡ false = ap (λ (k : ℕ). nat_le k 5) is in
    rw (high, buf) refl

module _ (image : Image) (verified : IsVerified image) (class n : ℕ) where
  agree : Agrees image
  agree = agrees image (first_rule image verified)

  with_slot : (c : ImageClass) → slice_get image.classes class ≡ Some c → (s : ImageSlot)
      → slice_get c.slots n ≡ Some s → (i : ℕ) → slot_field image class n ≡ Some i → IsBehind image class n
  with_slot c here s e i behind =
      let a : ClassAgrees image class c = class_agrees image agree class c here in
      let known : (is_slot_form s.form && nat_le s.config 1) ≡ true =
      passes (λ (t : ImageSlot). is_slot_form t.form && nat_le t.config 1) c.slots n s a.slot_forms e in
      let in_fields : slot_field_in c.fields s ≡ Some i =
      sym (slot_field_at image class n c here
      ∙ ap (λ (o : Option ImageSlot). option_and_then (slot_field_in c.fields) o) e) ∙ behind in
      let low : nat_le s.form 7 ≡ true = is_low s c i in_fields in
      let number : field_number c.fields s.form s.place s.n ≡ Some i =
      sym (ap (λ (b : Bool). if b then field_number c.fields s.form s.place s.n else None) low) ∙ in_fields in
      let found : IsPassed (is_field s.form s.place s.n) c.fields i =
      position_passes (is_field s.form s.place s.n) c.fields i number in
      let same : found.value ≡ field_of s = one_field found.value s found.passes in
      let there : slice_get c.fields i ≡ Some (field_of s) = found.is ∙ ap (λ (f : ImageField). Some f) same in
      let kind = property_form s (and_parts (is_slot_form s.form) (nat_le s.config 1) known).0 low in
      let fields = fields_at image class c here in
      record {
        slot = s;
        at = ap (λ (o : Option ImageClass). option_and_then (λ (d : ImageClass). slice_get d.slots n) o) here ∙ e;
        i = i;
        behind = behind;
        number = ap (λ (all : List ImageField). field_number all s.form s.place s.n) fields ∙ number;
        stands = ap (λ (all : List ImageField). slice_get all i) fields ∙ there;
        held = held_of (field_of s) kind (passes rule.n_is_of_form c.fields i (field_of s) a.fields.of_form there);
        typed =
            ap (λ (all : List SlotInfo). property_type (option_map (λ (t : SlotInfo). t.form) (slice_get all n)))
            (slots_at image class c here)
            ∙ ap (λ (r : Option SlotInfo). property_type (option_map (λ (t : SlotInfo). t.form) r))
            (slice_get-map slot_of c.slots n)
            ∙ ap (λ (r : Option ImageSlot). property_type (option_map (λ (t : SlotInfo). t.form) (option_map slot_of r)))
            e
            ∙ ap (λ (f : SlotForm). property_type (Some f)) (typed_of s kind);
      }
    where
      is_low : (s : ImageSlot) (c : ImageClass) (i : ℕ) → slot_field_in c.fields s ≡ Some i → nat_le s.form 7 ≡ true
      is_low s c i h = go (nat_le s.form 7) h
        where
          go : (b : Bool) → (if b then field_number c.fields s.form s.place s.n else None) ≡ Some i → b ≡ true
          go true h = refl
          go false h = no_value i h

  with_class : (c : ImageClass) → slice_get image.classes class ≡ Some c → (i : ℕ) → slot_field image class n ≡ Some i
      → IsBehind image class n
  with_class c here i behind = go (slice_get c.slots n) refl
    where
      go : (o : Option ImageSlot) → slice_get c.slots n ≡ o → IsBehind image class n
      go None e =
          no_value i (sym (slot_field_at image class n c here
          ∙ ap (λ (o : Option ImageSlot). option_and_then (slot_field_in c.fields) o) e) ∙ behind)
      go (Some s) e = with_slot c here s e i behind

  pub behind_type : (t : SlotType) → slot_type (code_of image) class n ≡ Some t → IsBehind image class n
  behind_type t is = go (slot_kind image agree class n)
    where
      go : SlotAt image class n → IsBehind image class n
      go (Lacks none no_field) = no_value t (sym none ∙ is)
      go (Has c u i f here of_type of_field there of) = with_class c here i of_field

  pub behind_property : is_property (code_of image) class n ≡ true → IsBehind image class n
  behind_property is = go (slot_type (code_of image) class n) refl is
    where
      go : (o : Option SlotType) → slot_type (code_of image) class n ≡ o → option_map_or (λ (t : SlotType). true) o false ≡ true
          → IsBehind image class n
      go None e h = no_truth h
      go (Some t) e h = behind_type t e

-- ---- two properties

-- fields are told apart by form, offset and n
same_fields : (f g : ImageField) → rule.same_field f g ≡ true → f ≡ g
same_fields f g h =
    let p = three (f.offset == g.offset) (f.form == g.form) (f.n == g.n) h in
    let offset = eqb-true f.offset g.offset p.0 in
    let form = eqb-true f.form g.form p.1 in
    let n = eqb-true f.n g.n p.2 in
    λ i. record { offset = offset i; form = form i; n = n i }

same_itself : (f : ImageField) → rule.same_field f f ≡ true
same_itself f =
    and_from ((f.offset == f.offset) && (f.form == f.form)) (f.n == f.n)
    (and_from (f.offset == f.offset) (f.form == f.form) (eq-eqb f.offset f.offset refl) (eq-eqb f.form f.form refl))
    (eq-eqb f.n f.n refl)

pub same_behind : (image : Image) (class a b : ℕ) (x : IsBehind image class a) (y : IsBehind image class b)
    → rule.same_field (field_of x.slot) (field_of y.slot) ≡ is_same_field (code_of image) class a b
same_behind image class a b x y =
    elim (cases_eq x.i y.i) [
      | inl e ↦ one e ∙ sym (eq-eqb x.i y.i e) ∙ sym fields_are
      | inr ne ↦ apart ne ∙ sym (ne_eqb x.i y.i ne) ∙ sym fields_are
    ]
  where
    fields_are : is_same_field (code_of image) class a b ≡ (x.i == y.i)
    fields_are =
        ap (λ (o : Option ℕ). option_map_or (λ i. option_map_or (λ j. i == j) (slot_field image class b) false) o
        false) x.behind
        ∙ ap (λ (o : Option ℕ). option_map_or (λ j. x.i == j) o false) y.behind

    one : x.i ≡ y.i → rule.same_field (field_of x.slot) (field_of y.slot) ≡ true
    one e =
        let same : field_of x.slot ≡ field_of y.slot =
        same_Some (field_of x.slot) (field_of y.slot)
        (sym x.stands ∙ ap (slice_get (class_fields image class)) e ∙ y.stands) in
        subst (λ (g : ImageField). rule.same_field (field_of x.slot) g ≡ true) same (same_itself (field_of x.slot))

    apart : x.i ≢ y.i → rule.same_field (field_of x.slot) (field_of y.slot) ≡ false
    apart ne = elim (cases_Bool (rule.same_field (field_of x.slot) (field_of y.slot))) [
      | inl e ↦
          let same : field_of x.slot ≡ field_of y.slot = same_fields (field_of x.slot) (field_of y.slot) e in
          absurd (ne (same_Some x.i y.i (sym x.number
          ∙ ap (λ (f : ImageField). field_number (class_fields image class) f.form f.offset f.n) same ∙ y.number)))
      | inr e ↦ e
    ]
