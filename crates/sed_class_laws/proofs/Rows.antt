-- The slots that a class adds, beside the fields that it declares, in one order.
use Rattle.std.proofs.Common.{◌≡◌, ◌<◌, ◌≤◌, ◌+◌, ◌==◌, ℕ, zero, suc, Bool, true, false, if◌then◌else◌, List, [], ◌∷◌, ◌++◌, filter, length, slice_get, All, IfSome, Option, Some, None, refl, sym, ap, ◌∙◌, subst, arith, append_assoc}
use Rattle.std.specs.List.{cons_option, count_by, filter_map}
use Rattle.std.specs.Option.{option_map, option_map_or}
use Rattle.std.specs.Str.{bytes_eq}
use Rattle.std.proofs.lemmas.List.{length-append}
use Rattle.std.proofs.lemmas.List.Elements.{All-cons, All-nil, All-tail, All-head}
use Rattle.std.proofs.lemmas.Bool.Decides.{nat_tests}
use Rattle.sed_value.specs.declared.slot_type.SlotType.{SlotType}
use Rattle.sed_units.specs.declared.classes.Member.{Member}
use Rattle.sed_typed.specs.declared.number.SlotNo.{SlotNo}
use Rattle.sed_typed.specs.declared.program.Field.{Field}
use Rattle.sed_typed.specs.declared.schema.SlotForm.{SlotForm}
use Rattle.sed_typed.specs.declared.schema.SlotForm.TheVariants.{Prop, Action}
use Rattle.sed_typed.specs.declared.schema.SlotInfo.{SlotInfo}
use Rattle.sed_typed.specs.TypedSchema.{IsProperty, in_slot, property_slots}
use Rattle.sed_classes.specs.declared.kit_units.KitUnits.{KitUnits}
use Rattle.sed_classes.specs.Members.{is_instance_field, kit_of}
use Rattle.sed_classes.specs.Slots.{slot_of, slots}
use Rattle.sed_program.specs.Fields.{field_of, slot_no}
use Rattle.sed_program.proofs.OrderLists.{is_itself, once_at}
use Rattle.sed_class_laws.proofs.Entry.{Entry, property, action, plain, named_slot}
use Rattle.sed_class_laws.proofs.Named.{bytes_itself}
use Rattle.sed_typed.specs.declared.schema.ActionArg.{ActionArg}
use Rattle.std.specs.Prelude.{slice_index_or}

-- a slot has one field, or none where it is an action's
abbrev pub Slotted : List Field → ℕ → SlotInfo → SlotForm → Type 0
Slotted fields n s (Prop t) = (f : Field) × (filter (in_slot n) fields ≡ f ∷ []) × IsProperty s t f
Slotted fields n s (Action a) = filter (in_slot n) fields ≡ []

-- a field has no slot, or one from here on and below there
abbrev pub SlotFrom : ℕ → ℕ → Field → Type 0
SlotFrom low high f = IfSome f.slot (λ (x : SlotNo). (low ≤ x.0) × (x.0 < high))

-- numbers that rise from here on
abbrev pub Rising : ℕ → List ℕ → Type 0
Rising low [] = Unit {0}
Rising low (x ∷ xs) = (low ≤ x) × Rising (suc x) xs

-- slots from a number on, beside the fields that have them
pub record InStep (low : ℕ) (added : List SlotInfo) (fields : List Field) : Type 0 where
  pub each : (i : ℕ) (s : SlotInfo) → slice_get added i ≡ Some s → Slotted fields (low + i) s s.form
  pub within : All (SlotFrom low (low + length added)) fields
  pub rising : Rising low (property_slots fields)

-- ---- fields in other slots

slot_other : (n low high : ℕ) (o : Option SlotNo) → n < low → IfSome o (λ (x : SlotNo). (low ≤ x.0) × (x.0 < high)) →
    option_map_or (λ (x : SlotNo). x.0 == n) o false ≡ false
slot_other n low high None l h = refl
slot_other n low high (Some x) l h = let le : low ≤ x.0 = h.0 in grind (arith, nat_tests)

slot_above : (n low high : ℕ) (o : Option SlotNo) → high ≤ n → IfSome o (λ (x : SlotNo). (low ≤ x.0) × (x.0 < high)) →
    option_map_or (λ (x : SlotNo). x.0 == n) o false ≡ false
slot_above n low high None l h = refl
slot_above n low high (Some x) l h = let lt : x.0 < high = h.1 in grind (arith, nat_tests)

pub none_in : (n : ℕ) (fields : List Field) → All (λ f. in_slot n f ≡ false) fields → filter (in_slot n) fields ≡ []
none_in n [] h = refl
none_in n (f ∷ fs) h =
    ap (λ b. if b then f ∷ filter (in_slot n) fs else filter (in_slot n) fs) (All-head (λ g. in_slot n g
    ≡ false) f fs h)
    ∙ none_in n fs (All-tail (λ g. in_slot n g ≡ false) f fs h)

pub none_below : (n low high : ℕ) (fields : List Field) → n < low → All (SlotFrom low high) fields →
    filter (in_slot n) fields ≡ []
none_below n low high fields l h = none_in n fields (λ i d k. slot_other n low high (slice_index_or fields i d).slot l
    (h i d k))

pub none_above : (n low high : ℕ) (fields : List Field) → high ≤ n → All (SlotFrom low high) fields →
    filter (in_slot n) fields ≡ []
none_above n low high fields l h = none_in n fields (λ i d k. slot_above n low high (slice_index_or fields i d).slot l
    (h i d k))

-- ---- a first one more

wider : (low high above : ℕ) (fields : List Field) → high ≡ above → All (SlotFrom (suc low) high) fields →
    All (SlotFrom low above) fields
wider low high above fields e h i d k = one (slice_index_or fields i d).slot (h i d k)
  where
    one : (o : Option SlotNo) → IfSome o (λ (x : SlotNo). (suc low ≤ x.0) × (x.0 < high)) →
        IfSome o (λ (x : SlotNo). (low ≤ x.0) × (x.0 < above))
    one None g = tt
    one (Some x) g = let le : suc low ≤ x.0 = g.0 in let lt : x.0 < high = g.1 in (
      omega (arith, le),
      omega
          (arith, lt, e),
    )

lower : (low : ℕ) (xs : List ℕ) → Rising (suc low) xs → Rising low xs
lower low [] r = tt
lower low (x ∷ xs) r = (omega (arith, r.0), r.1)

slotted_at : (fields : List Field) (n k : ℕ) (s : SlotInfo) (x : SlotForm) → n ≡ k → Slotted fields n s x →
    Slotted fields k s x
slotted_at fields n k s x e h = subst (λ j. Slotted fields j s x) e h

-- a field behind it in another slot changes nothing
passed : (f : Field) (fields : List Field) (n : ℕ) (s : SlotInfo) (x : SlotForm) → in_slot n f ≡ false →
    Slotted fields n s x → Slotted (f ∷ fields) n s x
passed f fields n s (Prop t) e h =
    (h.0, ap (λ b. if b then f ∷ filter (in_slot n) fields else filter (in_slot n) fields) e ∙ h.1, h.2)
passed f fields n s (Action a) e h = ap (λ b. if b then f ∷ filter (in_slot n) fields
    else filter (in_slot n) fields) e ∙ h

with_property : (low : ℕ) (s : SlotInfo) (t : SlotType) (f : Field) (added : List SlotInfo) (fields : List Field) →
    s.form ≡ Prop t →
    f.slot ≡ Some (slot_no low) → IsProperty s t f → InStep (suc low) added fields → InStep low (s ∷ added) (f ∷ fields)
with_property low s t f added fields form is p rest = record {
  each = each;
  within =
      All-cons
      (SlotFrom low (low + length (s ∷ added)))
      f
      fields
      (subst (λ o. IfSome o (λ (x : SlotNo). (low ≤ x.0)
      × (x.0 < low + length (s ∷ added)))) (sym is) (omega arith, omega arith))
      (wider low (suc low + length added) (low + length (s ∷ added)) fields (omega arith) rest.within);
  rising = ap_rising (f.slot) is;
}
  where
    here : in_slot low f ≡ true
    here = ap (λ o. option_map_or (λ (x : SlotNo). x.0 == low) o false) is ∙ is_itself low

    other : (n : ℕ) → low < n → in_slot n f ≡ false
    other n l = ap (λ o. option_map_or (λ (x : SlotNo). x.0 == n) o false) is ∙ apart n l
      where
        apart : (k : ℕ) → low < k → (low == k) ≡ false
        apart k l = grind (arith, nat_tests)

    first : Slotted (f ∷ fields) low s s.form
    first =
        subst
        (Slotted (f ∷ fields) low s)
        (sym form) (
          f,
          ap (λ b. if b then f ∷ filter (in_slot low) fields else filter (in_slot low) fields) here
              ∙ ap (λ r. f ∷ r) (none_below low (suc low) (suc low + length added) fields (omega arith) rest.within),
          p,
        )

    each : (i : ℕ) (x : SlotInfo) → slice_get (s ∷ added) i ≡ Some x → Slotted (f ∷ fields) (low + i) x x.form
    each zero x e =
        let same : s ≡ x = cc in
        let zeroth : low ≡ low + 0 = omega arith in
        slotted_at (f ∷ fields) low (low + 0) x x.form zeroth (subst (λ (y : SlotInfo). Slotted
        (f ∷ fields) low y y.form) same first)
    each (suc i) x e =
        let further : suc low + i ≡ low + suc i = omega arith in
        passed
        f
        fields
        (low + suc i)
        x
        x.form
        (other (low + suc i) (omega arith))
        (slotted_at fields (suc low + i) (low + suc i) x x.form further (rest.each i x e))

    ap_rising : (o : Option SlotNo) → o ≡ Some (slot_no low) →
        Rising low (cons_option (option_map (λ (x : SlotNo). x.0) o) (property_slots fields))
    ap_rising o e =
        subst
        (λ q. Rising low (cons_option (option_map (λ (x : SlotNo). x.0) q) (property_slots fields)))
        (sym e)
        (omega arith, rest.rising)

with_action : (low : ℕ) (s : SlotInfo) (added : List SlotInfo) (fields : List Field) (a : ActionArg) →
    s.form ≡ Action a →
    InStep (suc low) added fields → InStep low (s ∷ added) fields
with_action low s added fields a form rest = record {
  each = each;
  within = wider low (suc low + length added) (low + length (s ∷ added)) fields (omega arith) rest.within;
  rising = lower low (property_slots fields) rest.rising;
}
  where
    first : Slotted fields low s s.form
    first = subst (Slotted fields low s) (sym form) (none_below low (suc low) (suc low + length added) fields
        (omega arith) rest.within)

    each : (i : ℕ) (x : SlotInfo) → slice_get (s ∷ added) i ≡ Some x → Slotted fields (low + i) x x.form
    each zero x e =
        let same : s ≡ x = cc in
        let zeroth : low ≡ low + 0 = omega arith in
        slotted_at fields low (low + 0) x x.form zeroth (subst (λ
        (y : SlotInfo). Slotted fields low y y.form) same first)
    each (suc i) x e =
        let further : suc low + i ≡ low + suc i = omega arith in
        slotted_at fields (suc low + i) (low + suc i) x x.form further (rest.each i x e)

with_field : (low : ℕ) (f : Field) (added : List SlotInfo) (fields : List Field) → f.slot ≡ None →
    InStep low added fields → InStep low added (f ∷ fields)
with_field low f added fields none rest = record {
  each = λ i x e. passed f fields (low + i) x x.form (ap (λ o. option_map_or (λ
      (y : SlotNo). y.0 == low + i) o false) none) (rest.each i x e);
  within =
      All-cons
      (SlotFrom low (low + length added))
      f
      fields
      (subst (λ o. IfSome o (λ (x : SlotNo). (low ≤ x.0) × (x.0 < low + length added))) (sym none) tt)
      rest.within;
  rising =
      subst
      (λ q. Rising low (cons_option (option_map (λ (x : SlotNo). x.0) q) (property_slots fields)))
      (sym none)
      rest.rising;
}

no_slots : (low : ℕ) → InStep low [] []
no_slots low = record { each = λ i s e. cc; within = All-nil (SlotFrom low (low + 0)); rising = tt }

-- ---- all members of a class

-- names of slots are apart
abbrev pub NamesOnce : List SlotInfo → Type 0
NamesOnce all = (name : List ℕ) → count_by (λ s. bytes_eq s.name name) all ≤ 1

get_seam : {X : Type 0} (xs : List X) (y : X) (ys : List X) → slice_get (xs ++ y ∷ ys) (length xs) ≡ Some y
get_seam [] y ys = refl
get_seam (x ∷ xs) y ys = get_seam xs y ys

at_seam : (front : List SlotInfo) (s : SlotInfo) (rest : List SlotInfo) (name : List ℕ) →
    NamesOnce (front ++ s ∷ rest) → s.name ≡ name →
    named_slot (front ++ s ∷ rest) name ≡ Some (length front)
at_seam front s rest name once e =
    once_at
    (λ x. bytes_eq x.name name)
    (front ++ s ∷ rest)
    (length front)
    s
    (once name)
    (get_seam front s rest)
    (ap (λ x. bytes_eq x name) e ∙ bytes_itself name)

module _ (units : List KitUnits) (n class : ℕ) where
  abbrev added_by : List Member → List SlotInfo
  added_by ms = filter_map (slot_of units (kit_of units class)) ms

  abbrev fields_by : List Member → List Field
  fields_by ms = filter_map (field_of units n class) (filter is_instance_field ms)

  abbrev Later : List Member → Type 0
  Later ms = (f : List SlotInfo) → slots units class ≡ f ++ added_by ms → NamesOnce (slots units class) →
      InStep (length f) (added_by ms) (fields_by ms)

  pub in_step_from : (front : List SlotInfo) (ms : List Member) → ((i : ℕ) (m : Member) → slice_get ms i ≡ Some m →
      Entry units n class m) →
      slots units class ≡ front ++ added_by ms → NamesOnce (slots units class) →
      InStep (length front) (added_by ms) (fields_by ms)
  in_step_from front [] entries same once = no_slots (length front)
  in_step_from front (m ∷ ms) entries same once =
      by_entry
      (entries 0 m refl)
      (λ f. in_step_from f ms (λ i x e. entries (suc i) x e))
    where
      -- the rest behind one slot more
      behind : (s : SlotInfo) → slots units class ≡ front ++ s ∷ added_by ms → Later ms →
          InStep (suc (length front)) (added_by ms) (fields_by ms)
      behind s e rest =
          let one : length (front ++ s ∷ []) ≡ suc (length front) = omega (arith, length-append front (s ∷ [])) in
          subst
          (λ k. InStep k (added_by ms) (fields_by ms))
          one
          (rest (front ++ s ∷ []) (e ∙ sym (append_assoc front (s ∷ []) (added_by ms))) once)

      kept_fields : (b : Bool) → is_instance_field m ≡ b →
          fields_by (m ∷ ms) ≡ (if b then cons_option (field_of units n class m) (fields_by ms) else fields_by ms)
      kept_fields b e =
          ap (λ t. filter_map (field_of units n class) (if t then m ∷ filter is_instance_field ms
          else filter is_instance_field ms)) e
          ∙ by_test b
        where
          by_test : (t : Bool) → filter_map (field_of units n class) (if t then m ∷ filter is_instance_field ms
              else filter is_instance_field ms) ≡ (if t then cons_option (field_of units n class m) (fields_by ms)
              else fields_by ms)
          by_test true = refl
          by_test false = refl

      plain_fields : InStep (length front) (added_by ms) (fields_by ms) → ((f : Field) →
          field_of units n class m ≡ Some f → f.slot ≡ None) →
          (b : Bool) → InStep (length front) (added_by ms) (if b then cons_option (field_of units n class m)
          (fields_by ms) else fields_by ms)
      plain_fields rest none false = rest
      plain_fields rest none true = by_field (field_of units n class m) refl
        where
          by_field : (o : Option Field) → field_of units n class m ≡ o →
              InStep (length front) (added_by ms) (cons_option o (fields_by ms))
          by_field None e = rest
          by_field (Some f) e = with_field (length front) f (added_by ms) (fields_by ms) (none f e) rest

      by_entry : Entry units n class m → Later ms → InStep (length front) (added_by (m ∷ ms)) (fields_by (m ∷ ms))
      by_entry (property s t f slot form name field is_field place p) rest =
          let added : added_by (m ∷ ms) ≡ s ∷ added_by ms = ap (λ o. cons_option o (added_by ms)) slot in
          let whole : slots units class ≡ front ++ s ∷ added_by ms = same ∙ ap (λ r. front ++ r) added in
          let placed : f.slot ≡ Some (slot_no (length front)) =
          place
          ∙ ap (λ all. option_map slot_no (named_slot all m.name.bytes)) whole
          ∙ ap (option_map slot_no) (at_seam front s (added_by ms) m.name.bytes (subst NamesOnce whole once) name) in
          let fields : fields_by (m ∷ ms) ≡ f ∷ fields_by ms = kept_fields true field
          ∙ ap (λ o. cons_option o (fields_by ms)) is_field in
          subst
          (λ r. InStep (length front) r (fields_by (m ∷ ms)))
          (sym added)
          (subst
          (InStep (length front) (s ∷ added_by ms))
          (sym fields)
          (with_property (length front) s t f (added_by ms) (fields_by ms) form placed p (behind s whole rest)))
      by_entry (action s slot form name config no_field method is_action) rest =
          let added : added_by (m ∷ ms) ≡ s ∷ added_by ms = ap (λ o. cons_option o (added_by ms)) slot in
          let whole : slots units class ≡ front ++ s ∷ added_by ms = same ∙ ap (λ r. front ++ r) added in
          subst
          (λ r. InStep (length front) r (fields_by (m ∷ ms)))
          (sym added)
          (subst
          (InStep (length front) (s ∷ added_by ms))
          (sym (kept_fields false no_field))
          (with_action (length front) s (added_by ms) (fields_by ms) _ form (behind s whole rest)))
      by_entry (plain slot none) rest =
          let added : added_by (m ∷ ms) ≡ added_by ms = ap (λ o. cons_option o (added_by ms)) slot in
          subst
          (λ r. InStep (length front) r (fields_by (m ∷ ms)))
          (sym added)
          (subst
          (InStep (length front) (added_by ms))
          (sym (kept_fields (is_instance_field m) refl))
          (plain_fields (rest front (same ∙ ap (λ r. front ++ r) added) once) none (is_instance_field m)))
