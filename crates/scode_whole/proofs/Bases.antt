-- The classes of an image whose tables agree, and their bases.
use Rattle.std.proofs.Common.{◌≡◌, ℕ, ◌<◌, ◌==◌, ◌||◌, nat_le, nat_lt, Bool, true, false, if◌then◌else◌, List, [], ◌++◌, length, map, Option, Some, None, refl, sym, ap, subst, ◌∙◌}
use Rattle.std.specs.Prelude.{IfSome, slice_get}
use Rattle.std.specs.Option.{option_and_then, option_map, option_map_or}
use Rattle.std.proofs.lemmas.Bool.{ltb-true}
use Rattle.std.proofs.lemmas.Option.{slice_get-map}
use Rattle.sed_typed.specs.declared.number.TypeNo.{TypeNo}
use Rattle.sed_typed.specs.declared.schema.ClassInfo.{ClassInfo}
use Rattle.sed_typed.specs.declared.schema.SlotInfo.{SlotInfo}
use Rattle.sed_typed.specs.Classes.{base_of, slots}
use Rattle.sed_typed.specs.Schemas.{type_at}
use Rattle.sed_typed.specs.SysTypes.{meta_slot}
use Rattle.sed_typed.specs.TypedSchema.{Begins, is_below}
use Rattle.sed_engine.specs.Whole.{FollowsBase, MarksComponents}
use Rattle.sed_engine.proofs.Below.{Below, Itself, Based, below_of, of_some}
use Rattle.sed_engine.proofs.Positions.{found_before}
use Rattle.scode_image.specs.declared.image.Image.{Image}
use Rattle.scode_image.specs.declared.image.ImageClass.{ImageClass}
use Rattle.scode_image.specs.declared.image.ImageField.{ImageField}
use Rattle.scode_image.specs.declared.image.ImageSlot.{ImageSlot}
use Rattle.scode_code.specs.Image.{code_of}
use Rattle.scode_code.specs.Kinds.{is_at_or_above}
use Rattle.scode_code.specs.TableRules as rule
use Rattle.scode_code.specs.Tables.{base_of as own_base, class_fields, class_of, field_number, is_field, schema_of, shape_of, slot_field, slot_field_in, slot_of}
use Rattle.scode_whole.proofs.Truths.{four, no_truth, no_value, of_mapped, same_value, there, through}
use Rattle.scode_whole.proofs.Rule.{Agrees, ClassAgrees, class_agrees}
use Rattle.scode_whole.proofs.Kits.{numbers_there}
use Rattle.scode_whole.proofs.Rows.{begins_mapped, begins_with, one_field, one_slot, stands_on}
use Rattle.scode_whole.proofs.SysTypes.{sys_of}
use Rattle.sed_value.proofs.Lists.{item_there as there_at}

-- ---- what is said of a class that is there

pub info_at : (image : Image) (class : ℕ) (c : ImageClass) → slice_get image.classes class ≡ Some c
    → slice_get (schema_of image).classes class ≡ Some (class_of c)
info_at image class c e =
    slice_get-map class_of image.classes class ∙ ap (λ (o : Option ImageClass). option_map class_of o) e

pub slots_at : (image : Image) (class : ℕ) (c : ImageClass) → slice_get image.classes class ≡ Some c
    → slots (schema_of image).classes class ≡ map slot_of c.slots
slots_at image class c e =
    ap (λ (o : Option ClassInfo). option_map_or (λ (info : ClassInfo). info.slots) o []) (info_at image class c e)

pub fields_at : (image : Image) (class : ℕ) (c : ImageClass) → slice_get image.classes class ≡ Some c
    → class_fields image class ≡ c.fields
fields_at image class c e = ap (λ (o : Option ImageClass). option_map_or (λ (d : ImageClass). d.fields) o []) e

pub slot_field_at : (image : Image) (class n : ℕ) (c : ImageClass) → slice_get image.classes class ≡ Some c
    → slot_field image class n ≡ option_and_then (slot_field_in c.fields) (slice_get c.slots n)
slot_field_at image class n c e =
    ap (λ (o : Option ImageClass). option_and_then (λ (d : ImageClass). option_and_then (slot_field_in d.fields)
    (slice_get d.slots n)) o) e

-- ---- bases

record HasBase (image : Image) (class base : ℕ) : Type 0 where
  c : ImageClass
  here : slice_get image.classes class ≡ Some c
  is_base : c.base ≡ base
  some : (c.base == 0xffff) ≡ false

own_is : (base other : ℕ) → option_map (λ (t : TypeNo). t.0) (own_base base) ≡ Some other
    → ((base == 0xffff) ≡ false) × (base ≡ other)
own_is base other e = by_test (base == 0xffff) e
  where
    by_test : (b : Bool) → option_map (λ (t : TypeNo). t.0) (if b then None else Some (record { 0 = base }))
        ≡ Some other
        → (b ≡ false) × (base ≡ other)
    by_test true e = no_value other e
    by_test false e = (refl, same_value base other e)

has_base : (image : Image) (class base : ℕ) → base_of (schema_of image).classes class ≡ Some base
    → HasBase image class base
has_base image class base e =
    let t = through (λ (info : ClassInfo). option_map (λ (b : TypeNo). b.0) info.base)
    (slice_get (schema_of image).classes class) base e in
    let m = of_mapped class_of image.classes class t.0 t.1 in
    let own : option_map (λ (b : TypeNo). b.0) (own_base m.0.base) ≡ Some base =
    ap (λ (info : ClassInfo). option_map (λ (b : TypeNo). b.0) info.base) (sym m.2) ∙ t.2 in
    let p = own_is m.0.base base own in
    record { c = m.0; here = m.1; is_base = p.1; some = p.0 }

record Grows (image : Image) (class base : ℕ) : Type 0 where
  c : ImageClass
  b : ImageClass
  here : slice_get image.classes class ≡ Some c
  above : slice_get image.classes base ≡ Some b
  before : base < class
  fields : (rest : List ImageField) × (c.fields ≡ b.fields ++ rest)
  slots : (rest : List ImageSlot) × (c.slots ≡ b.slots ++ rest)

not_first : (a b : Bool) → a ≡ false → (a || b) ≡ true → b ≡ true
not_first true b e h = no_truth (sym e)
not_first false b e h = h

grows_of : (image : Image) → Agrees image → (class base : ℕ) → base_of (schema_of image).classes class ≡ Some base
    → Grows image class base
grows_of image is class base e =
    let h = has_base image class base e in
    let c = h.c in
    let a : ClassAgrees image class c = class_agrees image is class c h.here in
    let known : nat_lt c.base (length image.classes) ≡ true =
    not_first (c.base == 0xffff) (rule.has_class image c.base) h.some (numbers_there image class c a).base in
    let low : nat_lt c.base class ≡ true = not_first (c.base == 0xffff) (nat_lt c.base class) h.some a.before in
    let at = there_at image.classes c.base (ltb-true c.base (length image.classes) known) in
    let test : rule.grows_from_base c at.0 ≡ true =
    sym (ap (λ (o : Option ImageClass). rule.none_or (option_and_then
    (λ (b : ImageClass). Some (rule.grows_from_base c b)) o)) at.1)
    ∙ a.grows in
    let p = four (nat_le (length at.0.contents) (length c.contents)) (nat_le (length at.0.table) (length c.table))
    (rule.begins rule.same_field at.0.fields c.fields) (rule.begins rule.same_slot at.0.slots c.slots) test in
    record {
      c = c;
      b = at.0;
      here = h.here;
      above = subst (λ (k : ℕ). slice_get image.classes k ≡ Some at.0) h.is_base at.1;
      before = subst (λ (k : ℕ). k < class) h.is_base (ltb-true c.base class low);
      fields = begins_with rule.same_field one_field at.0.fields c.fields p.2;
      slots = begins_with rule.same_slot one_slot at.0.slots c.slots p.3;
    }

-- a slot has the field that it has at the base
field_stays : (fields rest : List ImageField) (s : ImageSlot)
    → IfSome (slot_field_in fields s) (λ i. slot_field_in (fields ++ rest) s ≡ Some i)
field_stays fields rest s = by_form (nat_le s.form 7)
  where
    by_place : (o : Option ℕ) → field_number fields s.form s.place s.n ≡ o
        → IfSome o (λ i. field_number (fields ++ rest) s.form s.place s.n ≡ Some i)
    by_place None e = tt
    by_place (Some i) e = found_before (is_field s.form s.place s.n) fields rest i e

    by_form : (b : Bool) → IfSome (if b then field_number fields s.form s.place s.n else None)
        (λ i. (if b then field_number (fields ++ rest) s.form s.place s.n else None) ≡ Some i)
    by_form true = by_place (field_number fields s.form s.place s.n) refl
    by_form false = tt

slot_stays : (image : Image) (class base n : ℕ) → Grows image class base
    → IfSome (slot_field image base n) (λ i. slot_field image class n ≡ Some i)
slot_stays image class base n g =
    subst (λ (o : Option ℕ). IfSome o (λ i. slot_field image class n ≡ Some i))
    (sym (slot_field_at image base n g.b g.above))
    (by_slot (slice_get g.b.slots n) refl)
  where
    by_slot : (o : Option ImageSlot) → slice_get g.b.slots n ≡ o
        → IfSome (option_and_then (slot_field_in g.b.fields) o) (λ i. slot_field image class n ≡ Some i)
    by_slot None e = tt
    by_slot (Some s) e =
        let stands : slice_get g.c.slots n ≡ Some s =
        ap (λ (all : List ImageSlot). slice_get all n) g.slots.1 ∙ stands_on g.b.slots g.slots.0 n s e in
        let own : slot_field image class n ≡ slot_field_in (g.b.fields ++ g.fields.0) s =
        slot_field_at image class n g.c g.here
        ∙ ap (λ (o : Option ImageSlot). option_and_then (slot_field_in g.c.fields) o) stands
        ∙ ap (λ (all : List ImageField). slot_field_in all s) g.fields.1 in
        subst (λ (o : Option ℕ). IfSome (slot_field_in g.b.fields s) (λ i. o ≡ Some i)) (sym own)
        (field_stays g.b.fields g.fields.0 s)

pub follows : (image : Image) → Agrees image → (class base : ℕ) → base_of (schema_of image).classes class ≡ Some base
    → FollowsBase (code_of image) class base
follows image is class base e =
    let g : Grows image class base = grows_of image is class base e in
    let of_slots : Begins (map slot_of g.b.slots) (map slot_of g.c.slots) =
    begins_mapped slot_of g.b.slots g.c.slots g.slots.0 g.slots.1 in
    let of_fields : Begins (map shape_of g.b.fields) (map shape_of g.c.fields) =
    begins_mapped shape_of g.b.fields g.c.fields g.fields.0 g.fields.1 in
    record {
      before = g.before;
      slots = (
        of_slots.0,
        slots_at image class g.c g.here ∙ of_slots.1
            ∙ ap (λ (front : List SlotInfo). front ++ of_slots.0) (sym (slots_at image base g.b g.above)),
      );
      fields = (
        of_fields.0,
        ap (map shape_of) (fields_at image class g.c g.here) ∙ of_fields.1
            ∙ ap (λ (front : List ImageField). map shape_of front ++ of_fields.0)
            (sym (fields_at image base g.b g.above)),
      );
      slot_fields = λ n. slot_stays image class base n g;
    }

-- ---- components

first_stays : (xs rest whole : List SlotInfo) (x : SlotInfo) → whole ≡ xs ++ rest → slice_get xs 0 ≡ Some x
    → slice_get whole 0 ≡ Some x
first_stays xs rest whole x e h = ap (λ (all : List SlotInfo). slice_get all 0) e ∙ stands_on xs rest 0 x h

slot_below : (image : Image) → Agrees image → (above class : ℕ) (s : SlotInfo)
    → slice_get (slots (schema_of image).classes above) 0 ≡ Some s → Below (schema_of image).classes above class
    → slice_get (slots (schema_of image).classes class) 0 ≡ Some s
slot_below image is above class s h Itself = h
slot_below image is above class s h (Based base low b rest) =
    let begins : Begins (slots (schema_of image).classes base) (slots (schema_of image).classes class) =
    (follows image is class base b).slots in
    first_stays (slots (schema_of image).classes base) begins.0 (slots (schema_of image).classes class) s begins.1
    (slot_below image is above base s h rest)

are_same : (a b : Bool) → rule.are_equal a b ≡ true → a ≡ b
are_same true true h = refl
are_same true false h = no_truth h
are_same false true h = no_truth h
are_same false false h = refl

pub marks : (image : Image) → Agrees image → (class : ℕ) (c : ImageClass) → slice_get image.classes class ≡ Some c
    → MarksComponents (schema_of image) class (class_of c)
marks image is class c here =
    let classes = (schema_of image).classes in
    let t = there (λ (component : ℕ). rule.are_equal (rule.is_component c) (is_at_or_above image component class))
    (type_at (schema_of image).classes 0 2) (class_agrees image is class c here).marked in
    let same : rule.is_component c ≡ is_below (schema_of image).classes t.0 class =
    are_same (rule.is_component c) (is_at_or_above image t.0 class) t.2 in
    let component = of_some (type_at (schema_of image).classes 0 2) (sys_of image is).types.component in
    let at = of_some (slice_get (schema_of image).classes component.0) component.2 in
    let place : component.0 ≡ t.0 = same_value component.0 t.0 (sym component.1 ∙ t.1) in
    let own : slice_get (slots (schema_of image).classes component.0) 0 ≡ Some meta_slot =
    ap (λ (o : Option ClassInfo). slice_get (option_map_or (λ (info : ClassInfo). info.slots) o []) 0) at.1
    ∙ ap (λ (all : List SlotInfo). slice_get all 0) at.2.slots in
    record {
      marked =
          same
          ∙ sym (ap (λ (o : Option ℕ). option_map_or (λ (above : ℕ). is_below
          (schema_of image).classes above class) o false) t.1);
      meta = λ component_is.
          sym (ap (λ (all : List SlotInfo). slice_get all 0) (slots_at image class c here))
          ∙ slot_below image is t.0 class meta_slot
          (subst (λ (k : ℕ). slice_get (slots (schema_of image).classes k) 0 ≡ Some meta_slot) place own)
          (below_of (schema_of image).classes t.0 class (sym same ∙ component_is));
    }
