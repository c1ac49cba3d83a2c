-- What may be kept: a new object, what a root call leaves, and what a store leaves.
use Rattle.std.proofs.Common.{◌≡◌, ◌<◌, ◌^◌, ℕ, ℤ, pos, Bool, true, false, List, [], ◌∷◌, length, Option, Some, None, refl, ap, ◌∙◌, arith}
use mir.Val.{bits}
use Rattle.std.specs.Prelude.{IfSome, IsSomeAnd, nat_lt, not, ◌&&◌, ◌||◌, slice_get}
use Rattle.std.specs.Int.{Width, w8, w16, w32, w64}
use Rattle.std.specs.Int.Signed.{mag}
use Rattle.std.specs.Option.{option_map_or}
use Rattle.std.proofs.lemmas.Bool.{lt-ltb, ltb-true}
use Rattle.std.proofs.lemmas.Option.{slice_get_within}
use Rattle.sed_value.specs.Value.{goes_to, is_of_type, is_signed, kept as keep, reads_as_int, stored, widened}
use Rattle.sed_value.specs.Wrap.{low_bits}
use Rattle.sed_value.specs.declared.slot_type.Primitive.TheVariants as prim
use Rattle.sed_value.specs.declared.slot_type.SlotType.{SlotType}
use Rattle.sed_value.specs.declared.slot_type.SlotType.TheVariants as slot
use Rattle.sed_value.specs.declared.value.Value.{Value}
use Rattle.sed_value.specs.declared.value.Value.TheVariants as kept
use Rattle.sed_typed.specs.declared.program.FieldForm.{FieldForm}
use Rattle.sed_typed.specs.declared.schema.ClassInfo.{ClassInfo}
use Rattle.sed_typed.specs.Contents.{Contents}
use Rattle.sed_engine.specs.declared.call.Root.{Root}
use Rattle.sed_engine.specs.Code.{Meaning, Object, asked_of, called, is_creatable, may_store, new_object, root_of, slot_keeps, slot_path, slot_type, with_slot}
use Rattle.sed_engine.specs.Fits.{Fits, form_at, form_below, form_of, is_kept as is_kept_at, keeps}
use Rattle.sed_engine.specs.Whole.{IsObject, IsWhole, field_form}
use Rattle.sed_engine.proofs.Below.{no}
use Rattle.sed_engine.proofs.KeepsFit.{all_kept-with_value}
use Rattle.sed_engine.proofs.MaskedCodes.{whole_leaves}
use Rattle.sed_engine.proofs.Within.{paths-changed_at}

-- ---- a new object, and what a root call leaves

is_class : (m : Meaning) (class : ℕ) → is_creatable m class ≡ true → class < length m.schema.classes
is_class m class h = go (slice_get m.schema.classes class) refl h
  where
    go : (o : Option ClassInfo) → slice_get m.schema.classes class ≡ o → option_map_or (λ c. c.is_component && not c.is_abstract) o false ≡ true → class < length m.schema.classes
    go None is h = no h
    go (Some c) is h = slice_get_within m.schema.classes class c is

pub new_is_object : (m : Meaning) → IsWhole m → (class : ℕ) → is_creatable m class ≡ true → IsObject m (new_object m class)
new_is_object m whole class h = record { creatable = h; fits = whole.tables.first class (is_class m class h) }

pub called_is_object : (m : Meaning) → IsWhole m → (o : Object) → IsObject m o → (statics : Contents) → Fits m.fields m.static_fields m.initial_statics statics → (which : Root) (argument : Value) (turns : ℕ) (moment : ℤ) →
    IsObject m (called o (root_of m o statics which argument turns moment)) × Fits m.fields m.static_fields m.initial_statics (root_of m o statics which argument turns moment).statics
called_is_object m whole o is statics fit which argument turns moment =
    let left = whole_leaves m whole (asked_of o statics which argument turns moment) is.fits fit in
    (record { creatable = is.creatable; fits = left.0 }, left.1)

-- ---- what is stored is of the type

-- the low bits of a number are within the width
abbrev pub LowBits : Type 0
LowBits = (width : Width) (number : ℤ) → low_bits width number < 2 ^ bits width

small : (n m k : ℕ) → m < k → nat_lt n m ≡ true → nat_lt n k ≡ true
small n m k less h = let below : n < m = ltb-true n m h in lt-ltb n k (omega (arith, less, below))

or_false : (b : Bool) → (b || false) ≡ true → b ≡ true
or_false true h = refl
or_false false h = h

-- an int that an expression reads
pub record ReadsInt (v : Value) : Type 0 where
  pub number : ℤ
  pub is : widened v ≡ kept.Int number
  pub fits : is_signed w32 number ≡ true

reads_int : (v : Value) → reads_as_int v ≡ true → ReadsInt v
reads_int (kept.Bool t) h = no h
reads_int (kept.Byte n) h = record { number = pos n; is = refl; fits = small n (2 ^ 8) (2 ^ 31) (omega arith) (or_false (nat_lt n (2 ^ 8)) (or_false (nat_lt n (2 ^ 8) || false) h)) }
reads_int (kept.Short n) h = record { number = pos n; is = refl; fits = small n (2 ^ 16) (2 ^ 31) (omega arith) (or_false (nat_lt n (2 ^ 16)) h) }
reads_int (kept.Int n) h = record { number = n; is = refl; fits = h }
reads_int (kept.Long n) h = no h
reads_int (kept.Buf bytes) h = no h
reads_int kept.Nothing h = no h

wider : (n : ℤ) → is_signed w32 n ≡ true → is_signed w64 n ≡ true
wider n h = small (mag n) (2 ^ 31) (2 ^ 63) (omega arith) h

long_goes : (v : Value) → (reads_as_int v || is_of_type (slot.Prim prim.Long) v) ≡ true → is_of_type (slot.Prim prim.Long) (stored (slot.Prim prim.Long) v) ≡ true
long_goes v h = go (reads_as_int v) refl h
  where
    of_long : (v : Value) → is_of_type (slot.Prim prim.Long) v ≡ true → is_of_type (slot.Prim prim.Long) (stored (slot.Prim prim.Long) v) ≡ true
    of_long (kept.Bool t) h = no h
    of_long (kept.Byte n) h = no h
    of_long (kept.Short n) h = no h
    of_long (kept.Int n) h = no h
    of_long (kept.Long n) h = h
    of_long (kept.Buf bytes) h = no h
    of_long kept.Nothing h = no h

    go : (b : Bool) → reads_as_int v ≡ b → (b || is_of_type (slot.Prim prim.Long) v) ≡ true → is_of_type (slot.Prim prim.Long) (stored (slot.Prim prim.Long) v) ≡ true
    go true e h = let r : ReadsInt v = reads_int v e in ap (λ (x : Value). is_of_type (slot.Prim prim.Long) (keep (slot.Prim prim.Long) x)) r.is ∙ wider r.number r.fits
    go false e h = of_long v h

bool_goes : (v : Value) → is_of_type (slot.Prim prim.Bool) v ≡ true → is_of_type (slot.Prim prim.Bool) (stored (slot.Prim prim.Bool) v) ≡ true
bool_goes (kept.Bool t) h = h
bool_goes (kept.Byte n) h = no h
bool_goes (kept.Short n) h = no h
bool_goes (kept.Int n) h = no h
bool_goes (kept.Long n) h = no h
bool_goes (kept.Buf bytes) h = no h
bool_goes kept.Nothing h = no h

buf_goes : (n : ℕ) (v : Value) → is_of_type (slot.Buf n) v ≡ true → is_of_type (slot.Buf n) (stored (slot.Buf n) v) ≡ true
buf_goes n (kept.Bool t) h = no h
buf_goes n (kept.Byte m) h = no h
buf_goes n (kept.Short m) h = no h
buf_goes n (kept.Int m) h = no h
buf_goes n (kept.Long m) h = no h
buf_goes n (kept.Buf bytes) h = h
buf_goes n kept.Nothing h = no h

stored_is : LowBits → (t : SlotType) (v : Value) → goes_to t v ≡ true → is_of_type t (stored t v) ≡ true
stored_is low (slot.Prim prim.Bool) v h = bool_goes v h
stored_is low (slot.Prim prim.Byte) v h =
    let r : ReadsInt v = reads_int v h in
    ap (λ (x : Value). is_of_type (slot.Prim prim.Byte) (keep (slot.Prim prim.Byte) x)) r.is ∙ lt-ltb (low_bits w8 r.number) (2 ^ 8) (low w8 r.number)
stored_is low (slot.Prim prim.Short) v h =
    let r : ReadsInt v = reads_int v h in
    ap (λ (x : Value). is_of_type (slot.Prim prim.Short) (keep (slot.Prim prim.Short) x)) r.is ∙ lt-ltb (low_bits w16 r.number) (2 ^ 16) (low w16 r.number)
stored_is low (slot.Prim prim.Int) v h =
    let r : ReadsInt v = reads_int v h in
    ap (λ (x : Value). is_of_type (slot.Prim prim.Int) (keep (slot.Prim prim.Int) x)) r.is ∙ r.fits
stored_is low (slot.Prim prim.Long) v h = long_goes v h
stored_is low (slot.Buf n) v h = buf_goes n v h

-- ---- what a store leaves

kept_form : (t : SlotType) (v : Value) → is_of_type t v ≡ true → keeps (field_form t) v ≡ true
kept_form (slot.Prim p) v h = h
kept_form (slot.Buf n) v h = h

pub stored_is_object : LowBits → (m : Meaning) → IsWhole m → (o : Object) → IsObject m o → (n : ℕ) (v : Value) → may_store m o.class n v ≡ true → IsObject m (with_slot m o n v)
stored_is_object low m whole o is n v may = of_type (slot_type m o.class n) refl (whole.tables.slot_fields o.class n) may
  where
    -- the field that is named is of the type's form
    of_field : (t : SlotType) (f : Option ℕ) → m.slot_field o.class n ≡ f → IsSomeAnd f (λ i. form_at (m.fields o.class) i ≡ Some (field_form t)) → goes_to t v ≡ true → slot_keeps m o.class n v ≡ stored t v → IsObject m (with_slot m o n v)
    of_field t None named form goes is_kept = absurd form
    of_field t (Some i) named form goes is_kept =
        let path : slot_path m o.class n ≡ i ∷ [] = ap (λ (f : Option ℕ). option_map_or (λ i. i ∷ []) f []) named in
        let new : keeps (field_form t) (slot_keeps m o.class n v) ≡ true = ap (keeps (field_form t)) is_kept ∙ kept_form t (stored t v) (stored_is low t v goes) in
        let there : is_kept_at (form_of m.fields (m.fields o.class) (slot_path m o.class n)) (slot_keeps m o.class n v) ≡ true =
        ap (λ (q : List ℕ). is_kept_at (form_of m.fields (m.fields o.class) q) (slot_keeps m o.class n v)) path ∙ ap (λ (f : Option FieldForm). is_kept_at (form_below m.fields [] f) (slot_keeps m o.class n v)) form ∙ new in
        record {
          creatable = is.creatable;
          fits = record {
            paths = paths-changed_at o.contents (slot_path m o.class n) (λ _. slot_keeps m o.class n v) ∙ is.fits.paths;
            values = all_kept-with_value (form_of m.fields (m.fields o.class)) o.contents (slot_path m o.class n) (slot_keeps m o.class n v) is.fits.values there;
          };
        }

    of_type : (t : Option SlotType) → slot_type m o.class n ≡ t → IfSome t (λ t. IsSomeAnd (m.slot_field o.class n) (λ i. form_at (m.fields o.class) i ≡ Some (field_form t))) → option_map_or (λ t. goes_to t v) t false ≡ true → IsObject m (with_slot m o n v)
    of_type None e form goes = no goes
    of_type (Some t) e form goes = of_field t (m.slot_field o.class n) refl form goes (ap (λ (t : Option SlotType). option_map_or (λ t. stored t v) t v) e)
