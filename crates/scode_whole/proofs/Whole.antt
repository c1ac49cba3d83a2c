-- A verified image means a whole code, but for its root calls.
use Rattle.std.proofs.Common.{◌≡◌, inl, inr, ℕ, zero, suc, ◌<◌, ◌≤◌, if◌then◌else◌, Bool, true, false, List, [], ◌∷◌, length, map, Option, Some, None, refl, sym, ap, subst, arith}
use Rattle.std.specs.Prelude.{IfSome, IsSome, is_some, slice_get}
use Rattle.std.specs.Option.{option_map, option_map_or}
use Rattle.std.proofs.lemmas.Bool.{cases_Bool}
use Rattle.std.proofs.lemmas.List.{length-map}
use Rattle.std.proofs.lemmas.Option.{slice_get-map, slice_get_past, slice_get_within}
use Rattle.sed_value.specs.declared.slot_type.SlotType.{SlotType}
use Rattle.sed_value.specs.declared.slot_type.SlotType.TheVariants as slot
use Rattle.sed_typed.specs.declared.program.FieldForm.{FieldForm}
use Rattle.sed_typed.specs.declared.schema.ClassInfo.{ClassInfo}
use Rattle.sed_typed.specs.Contents.{value_at}
use Rattle.sed_engine.specs.Asked.{MayAsk, masked, may_ask, unasked}
use Rattle.sed_engine.specs.Code.{Meaning, Question, slot_path, slot_type}
use Rattle.sed_engine.specs.Fits.{Fits}
use Rattle.sed_engine.specs.Root.{RootEnd}
use Rattle.sed_engine.specs.Whole.{FollowsBase, HasTables, MarksComponents, NamesTypes, SaysNothing, field_form}
use Rattle.sed_engine.proofs.FirstPaths.{IsLeaf, value_there}
use Rattle.sed_engine.proofs.MaskedCodes.{to_masked}
use Rattle.scode_image.specs.declared.image.Image.{Image}
use Rattle.scode_image.specs.declared.image.ImageClass.{ImageClass}
use Rattle.scode_image.specs.declared.image.ImageField.{ImageField}
use Rattle.scode_code.specs.Contents.{data_size, fields_held, initial, object_held}
use Rattle.scode_code.specs.Faults.{Broken, IsVerified, methods_broken}
use Rattle.scode_code.specs.Image.{code_of, meaning_of}
use Rattle.scode_code.specs.TableRules.{tables_agree}
use Rattle.scode_code.specs.Tables.{class_fields, class_of, form_of, schema_of, shape_of}
use Rattle.scode_whole.specs.Whole.{IsWholeButForRoots}
use Rattle.scode_whole.proofs.Truths.{no_value}
use Rattle.scode_whole.proofs.Rule.{Agrees, agrees}
use Rattle.scode_whole.proofs.Kits.{kit_named, kits_known, types_once}
use Rattle.scode_whole.proofs.SysTypes.{sys_of}
use Rattle.scode_whole.proofs.Limits.{limits_are}
use Rattle.scode_whole.proofs.Bases.{follows, marks}
use Rattle.scode_whole.proofs.SlotFields.{Has, Lacks, SlotAt, no_fields_of, slot_at, slot_fields_of}
use Rattle.scode_whole.proofs.FirstFits.{initial_has, initial_kept, statics_kept}
use Rattle.sed_value.proofs.Lists.{item_there as there_at}

names_are : (image : Image) → Agrees image → NamesTypes (schema_of image)
names_are image is = record {
  sys = kit_named image (sys_of image is).named;
  known = kits_known image is;
  once = types_once image is;
  types = (sys_of image is).types;
}

-- ---- what is said of each class

components_are : (image : Image) → Agrees image → (class : ℕ)
    → IfSome (slice_get (schema_of image).classes class) (MarksComponents (schema_of image) class)
components_are image is class =
    subst (λ (o : Option ClassInfo). IfSome o (MarksComponents (schema_of image) class))
    (sym (slice_get-map class_of image.classes class)) (by_class (slice_get image.classes class) refl)
  where
    by_class : (o : Option ImageClass) → slice_get image.classes class ≡ o
        → IfSome (option_map class_of o) (MarksComponents (schema_of image) class)
    by_class None e = tt
    by_class (Some c) e = marks image is class c e

sizes_are : (image : Image) (class : ℕ)
    → IfSome (slice_get (schema_of image).classes class) (λ (c : ClassInfo). data_size image class ≡ c.size)
sizes_are image class =
    subst (λ (o : Option ClassInfo). IfSome o (λ (c : ClassInfo). data_size image class ≡ c.size))
    (sym (slice_get-map class_of image.classes class)) (by_class (slice_get image.classes class) refl)
  where
    by_class : (o : Option ImageClass) → slice_get image.classes class ≡ o
        → IfSome (option_map class_of o) (λ (c : ClassInfo). data_size image class ≡ c.size)
    by_class None e = tt
    by_class (Some c) e =
        ap (λ (o : Option ImageClass). length (option_map_or (λ (d : ImageClass). d.contents) o [])) e

is_leaf : (t : SlotType) → IsLeaf (field_form t)
is_leaf (slot.Prim p) = tt
is_leaf (slot.Buf n) = tt

values_are : (image : Image) (class n : ℕ) → SlotAt image class n
    → IfSome (slot_type (code_of image) class n)
    (λ t. IsSome (value_at (initial image class) (slot_path (code_of image) class n)))
values_are image class n (Lacks none no_field) =
    subst (λ (o : Option SlotType). IfSome o (λ t. IsSome (value_at (initial image class)
    (slot_path (code_of image) class n))))
    (sym none) tt
values_are image class n (Has c t i f here of_type of_field there of) =
    let path : slot_path (code_of image) class n ≡ i ∷ [] =
    ap (λ (o : Option ℕ). option_map_or (λ (k : ℕ). k ∷ []) o []) of_field in
    let leaf : IsLeaf (form_of f) = subst (λ (g : FieldForm). IsLeaf g) (sym of) (is_leaf t) in
    let known : class < length image.classes = slice_get_within image.classes class c here in
    let stands = value_there (initial image class) (i ∷ []) (initial_has image class i c f here known there leaf) in
    subst (λ (o : Option SlotType). IfSome o (λ t. IsSome (value_at (initial image class)
    (slot_path (code_of image) class n))))
    (sym of_type)
    (subst (λ (p : List ℕ). IsSome (value_at (initial image class) p)) (sym path) (ap is_some stands.1))

first_are : (image : Image) → Agrees image → (class : ℕ) → class < length (schema_of image).classes
    → Fits (code_of image).fields ((code_of image).fields class) (initial image class) (initial image class)
first_are image is class known =
    let same : length (schema_of image).classes ≡ length image.classes = length-map image.classes class_of in
    let at = there_at image.classes class (omega (arith, known, same)) in
    record { paths = refl; values = initial_kept image is class at.0 at.1 }

-- ---- beyond the classes

begun_beyond : (image : Image) (depth class : ℕ) (bytes : List ℕ) → class_fields image class ≡ []
    → object_held image depth class [] bytes ≡ []
begun_beyond image zero class bytes e = refl
begun_beyond image (suc depth) class bytes e =
    ap (λ (all : List ImageField). fields_held (object_held image depth) [] all bytes) e

nothing_beyond : (image : Image) (class : ℕ) → length (schema_of image).classes ≤ class
    → SaysNothing (code_of image) class
nothing_beyond image class h =
    let same : length (schema_of image).classes ≡ length image.classes = length-map image.classes class_of in
    let none : slice_get image.classes class ≡ None = slice_get_past image.classes class (omega (arith, h, same)) in
    let no_fields : class_fields image class ≡ [] =
    ap (λ (o : Option ImageClass). option_map_or (λ (d : ImageClass). d.fields) o []) none in
    record {
      fields = ap (λ (all : List ImageField). map shape_of all) no_fields;
      initial =
          begun_beyond image (length image.classes) class
          (option_map_or (λ (d : ImageClass). d.contents) (slice_get image.classes class) []) no_fields;
      size = ap (λ (o : Option ImageClass). length (option_map_or (λ (d : ImageClass). d.contents) o [])) none;
    }

-- ---- the tables

pub tables_of : (image : Image) → Agrees image → HasTables (code_of image)
tables_of image is = record {
  limits = limits_are image is;
  names = names_are image is;
  components = components_are image is;
  bases = follows image is;
  sizes = sizes_are image;
  slot_fields = λ class n. slot_fields_of image class n (slot_at image is class n);
  no_fields = λ class n. no_fields_of image class n (slot_at image is class n);
  values = λ class n. values_are image class n (slot_at image is class n);
  first = first_are image is;
  first_statics = record { paths = refl; values = statics_kept image is };
  beyond = nothing_beyond image;
}

-- a verified image keeps the first rule
pub first_rule : (image : Image) → IsVerified image → tables_agree image ≡ true
first_rule image h = by_test (tables_agree image) h
  where
    by_test : (b : Bool)
        → (if b then methods_broken image 0 image.methods else Some (record { method = 65535; at = 0; rule = 1 }))
        ≡ None
        → b ≡ true
    by_test true e = refl
    by_test false e = no_value {A = Broken} (record { method = 65535; at = 0; rule = 1 }) (sym e)

-- ---- the masked code

-- nothing of the tables is changed
tables_masked : (m : Meaning) → HasTables m → HasTables (masked m)
tables_masked m t = record {
  limits = t.limits;
  names = t.names;
  components = t.components;
  bases = λ class base e.
      let f : FollowsBase m class base = t.bases class base e in
      record { before = f.before; slots = f.slots; fields = f.fields; slot_fields = f.slot_fields };
  sizes = t.sizes;
  slot_fields = t.slot_fields;
  no_fields = t.no_fields;
  values = t.values;
  first = t.first;
  first_statics = t.first_statics;
  beyond = λ class h.
      let n : SaysNothing m class = t.beyond class h in
      record { fields = n.fields; initial = n.initial; size = n.size };
}

other : (b : Bool) (x y : RootEnd) → b ≡ false → (if b then x else y) ≡ y
other b x y e = ap (λ (t : Bool). if t then x else y) e

unasked_masked : (m : Meaning) (q : Question) → (MayAsk (masked m) q → ⊥) → (masked m).root q ≡ unasked q
unasked_masked m q h = elim (cases_Bool (may_ask m q)) [
  | inl e ↦ absurd (h (to_masked m q e))
  | inr e ↦ other (may_ask m q) (m.root q) (unasked q) e
]

pub whole_but_for_roots : (image : Image) → IsVerified image → IsWholeButForRoots (meaning_of image)
whole_but_for_roots image h = record {
  tables = tables_masked (code_of image) (tables_of image (agrees image (first_rule image h)));
  unasked = unasked_masked (code_of image);
}
