-- The values of an object by path, as its leaves, each with the part whose bytes it stands for.
use Rattle.std.proofs.Common.{◌≡◌, ◌+◌, ◌*◌, nat_lt, ℕ, zero, suc, Bool, true, false, if◌then◌else◌, List, [], ◌∷◌, ◌++◌, length, map, take, drop, Option, Some, None, refl, sym, ap, subst, ◌∙◌, append_assoc, append-nil, arith}
use Rattle.std.specs.Prelude.{◌<◌, slice_get}
use Rattle.std.specs.List.{enumerate_from, flat_map, range_with_len}
use Rattle.std.specs.Option.{option_and_then, option_map}
use Rattle.std.proofs.lemmas.Bool.Decides.{nat_tests}
use Rattle.std.proofs.lemmas.List.{drop-drop, map-append}
use Rattle.sed_value.specs.declared.slot_type.Primitive.{Primitive}
use Rattle.sed_value.specs.declared.value.Value.{Value}
use Rattle.sed_value.specs.declared.value.Value.TheVariants as kept
use Rattle.sed_value.specs.SlotType.{width_of}
use Rattle.sed_typed.specs.declared.number.TypeNo.{TypeNo}
use Rattle.sed_typed.specs.declared.program.FieldForm.{FieldForm}
use Rattle.sed_typed.specs.declared.program.FieldForm.TheVariants as form
use Rattle.sed_typed.specs.Contents.{Contents, Path}
use Rattle.sed_wire.specs.Number.{number_of}
use Rattle.sed_engine.specs.Values.{Base, Component, Statics}
use Rattle.scode_image.specs.declared.image.Image.{Image}
use Rattle.scode_image.specs.declared.image.ImageField.{ImageField}
use Rattle.scode_code.specs.Contents.{buf_at, bytes_at, field_held, held, object_held, primitive_at, primitive_from, statics_held}
use Rattle.scode_code.specs.Parts.{Part, field_part, part_at, part_from, part_in, part_of, static_part_at}
use Rattle.scode_code.specs.Tables.{class_fields, form_of}
use Rattle.scode_state.specs.Values.{held_in, value_from}

-- a path and the part there
abbrev pub Leaf : Type 0
Leaf = Path × Part

abbrev pub IsLeaf : FieldForm → Type 0
IsLeaf (form.Prim p) = Unit {0}
IsLeaf (form.Str n) = Unit {0}
IsLeaf (form.Buf n) = Unit {0}
IsLeaf (form.Array p n) = ⊥
IsLeaf (form.Object t) = ⊥

-- what the bytes of a leaf stand for
abbrev pub part_value : List ℕ → Part → Value
part_value bytes (offset, form.Prim p) = primitive_at p bytes offset
part_value bytes (offset, form.Str n) = kept.Buf (bytes_at bytes offset n)
part_value bytes (offset, form.Buf n) = buf_at bytes offset
part_value bytes (offset, form.Array p n) = kept.Nothing
part_value bytes (offset, form.Object t) = kept.Nothing

pub leaf_value : (bytes : List ℕ) (part : Part) → IsLeaf part.1 → value_from bytes part ≡ Some (part_value bytes part)
leaf_value bytes (offset, form.Prim p) leaf = refl
leaf_value bytes (offset, form.Str n) leaf = refl
leaf_value bytes (offset, form.Buf n) leaf = refl
leaf_value bytes (offset, form.Array p n) leaf = absurd leaf
leaf_value bytes (offset, form.Object t) leaf = absurd leaf

abbrev pub read : List ℕ → Leaf → Path × Value
read bytes l = (l.0, part_value bytes l.1)

-- ---- the leaves of an object, in the order of its contents

abbrev pub Inside : Type 0
Inside = ℕ → Path → ℕ → List Leaf

abbrev pub leaves_in : Inside → Path → FieldForm → ℕ → List Leaf
leaves_in object path (form.Prim p) o = (path, (o, form.Prim p)) ∷ []
leaves_in object path (form.Str n) o = (path, (o, form.Str n)) ∷ []
leaves_in object path (form.Buf n) o = (path, (o, form.Buf n)) ∷ []
leaves_in object path (form.Array p n) o =
    map (λ i. (path ++ i ∷ [], (o + i * width_of p, form.Prim p))) (range_with_len 0 n)
leaves_in object path (form.Object t) o = object t.0 path o

-- of fields that are numbered from k on
abbrev pub leaves_among : Inside → Path → ℕ → ℕ → List ImageField → List Leaf
leaves_among object path o k [] = []
leaves_among object path o k (f ∷ fs) =
    leaves_in object (path ++ k ∷ []) (form_of f) (o + f.offset) ++ leaves_among object path o (k + 1) fs

abbrev pub object_leaves : Image → ℕ → Inside
object_leaves image zero class path o = []
object_leaves image (suc depth) class path o =
    leaves_among (object_leaves image depth) path o 0 (class_fields image class)

abbrev pub leaves_of : Image → ℕ → Base → List Leaf
leaves_of image class Component = object_leaves image (length image.classes) class [] 0
leaves_of image class Statics = leaves_among (object_leaves image (length image.classes)) [] 0 0 image.static_fields

-- ---- the contents are what the leaves stand for

module _ (image : Image) (bytes : List ℕ) where
  abbrev ReadInside : (ℕ → Path → List ℕ → Contents) → Inside → Type 0
  ReadInside object leaves = (t : ℕ) (path : Path) (o : ℕ)
      → object t path (drop o bytes) ≡ map (read bytes) (leaves t path o)

  further : (o x width : ℕ) → bytes_at (drop o bytes) x width ≡ bytes_at bytes (o + x) width
  further o x width = ap (take width) (drop-drop x o bytes)

  elements_read : (path : Path) (p : Primitive) (o x k n : ℕ)
      → map (λ i. (path ++ i ∷ [], primitive_at p (drop o bytes) (x + i * width_of p))) (range_with_len k n)
      ≡ map (read bytes) (map (λ i. (path ++ i ∷ [], (o + x + i * width_of p, form.Prim p))) (range_with_len k n))
  elements_read path p o x k zero = refl
  elements_read path p o x k (suc n) =
      let far : o + (x + k * width_of p) ≡ o + x + k * width_of p = omega arith in
      let one : primitive_at p (drop o bytes) (x + k * width_of p) ≡ primitive_at p bytes (o + x + k * width_of p) =
      ap (primitive_from p) (further o (x + k * width_of p) (width_of p)
      ∙ ap (λ (at : ℕ). bytes_at bytes at (width_of p)) far) in
      ap (λ (v : Value). (path ++ k ∷ [], v) ∷ map (λ i. (path ++ i ∷ [], primitive_at p (drop o bytes) (x + i * width_of p))) (range_with_len (k + 1) n)) one
      ∙ ap (λ (rest : Contents). (path ++ k ∷ [], primitive_at p bytes (o + x + k * width_of p)) ∷ rest)
      (elements_read path p o x (k + 1) n)

  field_read : (object : ℕ → Path → List ℕ → Contents) (leaves : Inside) → ReadInside object leaves → (path : Path)
      (g : FieldForm) (o x : ℕ)
      → field_held object path g (drop o bytes) x ≡ map (read bytes) (leaves_in leaves path g (o + x))
  field_read object leaves known path (form.Prim p) o x =
      ap (λ (b : List ℕ). (path, primitive_from p b) ∷ []) (further o x (width_of p))
  field_read object leaves known path (form.Str n) o x =
      ap (λ (b : List ℕ). (path, kept.Buf b) ∷ []) (further o x n)
  field_read object leaves known path (form.Buf n) o x =
      let far : o + (x + 2) ≡ o + x + 2 = omega arith in
      ap (λ (b : List ℕ). (path, kept.Buf (bytes_at (drop o bytes) (x + 2) (number_of b))) ∷ []) (further o x 2)
      ∙ ap (λ (b : List ℕ). (path, kept.Buf b) ∷ [])
      (further o (x + 2) (number_of (bytes_at bytes (o + x) 2))
      ∙ ap (λ (at : ℕ). bytes_at bytes at (number_of (bytes_at bytes (o + x) 2))) far)
  field_read object leaves known path (form.Array p n) o x = elements_read path p o x 0 n
  field_read object leaves known path (form.Object t) o x =
      ap (object t.0 path) (drop-drop x o bytes) ∙ known t.0 path (o + x)

  fields_read : (object : ℕ → Path → List ℕ → Contents) (leaves : Inside) → ReadInside object leaves → (path : Path)
      (o k : ℕ) (fields : List ImageField)
      → flat_map (λ (at : ℕ × ImageField). field_held object (path ++ at.0 ∷ []) (form_of at.1) (drop o bytes) at.1.offset)
      (enumerate_from k fields)
      ≡ map (read bytes) (leaves_among leaves path o k fields)
  fields_read object leaves known path o k [] = refl
  fields_read object leaves known path o k (f ∷ fs) =
      ap (λ (front : Contents). front ++ flat_map
      (λ (at : ℕ × ImageField). field_held object (path ++ at.0 ∷ []) (form_of at.1) (drop o bytes) at.1.offset)
      (enumerate_from (k + 1) fs))
      (field_read object leaves known (path ++ k ∷ []) (form_of f) o f.offset)
      ∙ ap (λ (rest : Contents). map (read bytes) (leaves_in leaves (path ++ k ∷ []) (form_of f) (o + f.offset)) ++ rest)
      (fields_read object leaves known path o (k + 1) fs)
      ∙ sym (map-append (read bytes) (leaves_in leaves (path ++ k ∷ []) (form_of f) (o + f.offset))
      (leaves_among leaves path o (k + 1) fs))

  objects_read : (depth : ℕ) → ReadInside (object_held image depth) (object_leaves image depth)
  objects_read zero t path o = refl
  objects_read (suc depth) t path o =
      fields_read (object_held image depth) (object_leaves image depth) (objects_read depth) path o 0
      (class_fields image t)

  pub held_read : (class : ℕ) (base : Base)
      → held_in image class base bytes ≡ map (read bytes) (leaves_of image class base)
  held_read class Component = objects_read (length image.classes) class [] 0
  held_read class Statics =
      fields_read (object_held image (length image.classes)) (object_leaves image (length image.classes))
      (objects_read (length image.classes)) [] 0 0 image.static_fields

-- ---- the path of a leaf leads to its part

abbrev pub Each : (Leaf → Type 0) → List Leaf → Type 0
Each P [] = Unit {0}
Each P (l ∷ ls) = P l × Each P ls

each_append : (P : Leaf → Type 0) (a b : List Leaf) → Each P a → Each P b → Each P (a ++ b)
each_append P [] b x y = y
each_append P (l ∷ ls) b x y = (x.0, each_append P ls b x.1 y)

each_turned : (P Q : Leaf → Type 0) → ((l : Leaf) → P l → Q l) → (ls : List Leaf) → Each P ls → Each Q ls
each_turned P Q turn [] h = tt
each_turned P Q turn (l ∷ ls) h = (turn l h.0, each_turned P Q turn ls h.1)

module _ (image : Image) where
  -- from a part at a path
  pub record Leads (path : Path) (part : Part) (l : Leaf) : Type 0 where
    pub rest : Path
    pub is : l.0 ≡ path ++ rest
    pub leads : part_from image rest part ≡ Some l.1
    pub leaf : IsLeaf l.1.1

  -- from one of some fields of what stands at a path and an offset
  pub record LeadsOn (path : Path) (o : ℕ) (fields : List ImageField) (l : Leaf) : Type 0 where
    pub first : ℕ
    pub rest : Path
    pub is : l.0 ≡ path ++ first ∷ rest
    pub leads : option_and_then (part_from image rest) (option_map (field_part o) (slice_get fields first)) ≡ Some l.1
    pub leaf : IsLeaf l.1.1

  abbrev InsideLeads : Inside → Type 0
  InsideLeads leaves = (t : TypeNo) (path : Path) (o : ℕ) → Each (Leads path (o, form.Object t)) (leaves t.0 path o)

  elements_lead : (path : Path) (p : Primitive) (m o k n : ℕ) → k + n ≡ m
      → Each (Leads path (o, form.Array p m))
      (map (λ i. (path ++ i ∷ [], (o + i * width_of p, form.Prim p))) (range_with_len k n))
  elements_lead path p m o k zero e = tt
  elements_lead path p m o k (suc n) e =
      let less : nat_lt k m ≡ true = grind (arith, nat_tests, e) in (
        record {
          rest = k ∷ [];
          is = refl;
          leads = ap (λ (b : Bool). option_and_then (part_from image [])
              (if b then Some (let q : Part = (o + k * width_of p, form.Prim p) in q) else None)) less;
          leaf = tt;
        },
        elements_lead path p m o (k + 1) n (omega (arith, e)),
      )

  field_leads : (leaves : Inside) → InsideLeads leaves → (path : Path) (g : FieldForm) (o : ℕ)
      → Each (Leads path (o, g)) (leaves_in leaves path g o)
  field_leads leaves known path (form.Prim p) o =
      (record { rest = []; is = sym (append-nil path); leads = refl; leaf = tt }, tt)
  field_leads leaves known path (form.Str n) o =
      (record { rest = []; is = sym (append-nil path); leads = refl; leaf = tt }, tt)
  field_leads leaves known path (form.Buf n) o =
      (record { rest = []; is = sym (append-nil path); leads = refl; leaf = tt }, tt)
  field_leads leaves known path (form.Array p n) o = elements_lead path p n o 0 n (omega arith)
  field_leads leaves known path (form.Object t) o = known t path o

  fields_lead : (leaves : Inside) → InsideLeads leaves → (path : Path) (o k : ℕ) (fs all : List ImageField)
      → ((j : ℕ) → slice_get fs j ≡ slice_get all (k + j))
      → Each (LeadsOn path o all) (leaves_among leaves path o k fs)
  fields_lead leaves known path o k [] all are = tt
  fields_lead leaves known path o k (f ∷ fs) all are =
      each_append (LeadsOn path o all) (leaves_in leaves (path ++ k ∷ []) (form_of f) (o + f.offset))
      (leaves_among leaves path o (k + 1) fs)
      (each_turned (Leads (path ++ k ∷ []) (o + f.offset, form_of f)) (LeadsOn path o all) turn
      (leaves_in leaves (path ++ k ∷ []) (form_of f) (o + f.offset))
      (field_leads leaves known (path ++ k ∷ []) (form_of f) (o + f.offset)))
      (fields_lead leaves known path o (k + 1) fs all
      (λ j. are (suc j) ∙ ap (slice_get all) (let one : k + suc j ≡ k + 1 + j = omega arith in one)))
    where
      here : slice_get all k ≡ Some f
      here = sym (are 0 ∙ ap (slice_get all) (let none : k + 0 ≡ k = omega arith in none))

      turn : (l : Leaf) → Leads (path ++ k ∷ []) (o + f.offset, form_of f) l → LeadsOn path o all l
      turn l h = record {
        first = k;
        rest = h.rest;
        is = h.is ∙ append_assoc path (k ∷ []) h.rest;
        leads = ap (λ (x : Option ImageField). option_and_then (part_from image h.rest) (option_map (field_part o) x)) here
            ∙ h.leads;
        leaf = h.leaf;
      }

  objects_lead : (depth : ℕ) → InsideLeads (object_leaves image depth)
  objects_lead zero t path o = tt
  objects_lead (suc depth) t path o =
      each_turned (LeadsOn path o (class_fields image t.0)) (Leads path (o, form.Object t))
      (λ l h. record { rest = h.first ∷ h.rest; is = h.is; leads = h.leads; leaf = h.leaf })
      (object_leaves image (suc depth) t.0 path o)
      (fields_lead (object_leaves image depth) (objects_lead depth) path o 0 (class_fields image t.0)
      (class_fields image t.0)
      (λ j. ap (slice_get (class_fields image t.0)) (let same : j ≡ 0 + j = omega arith in same)))

  -- from the block of a base
  pub record IsAt (class : ℕ) (base : Base) (l : Leaf) : Type 0 where
    pub leads : part_of image class base l.0 ≡ Some l.1
    pub leaf : IsLeaf l.1.1

  pub leaves_lead : (class : ℕ) (base : Base) → Each (IsAt class base) (leaves_of image class base)
  leaves_lead class Component =
      each_turned (Leads [] (0, form.Object (record { 0 = class }))) (IsAt class Component)
      (λ l h. record {
        leads = subst (λ (path : Path). part_at image class path ≡ Some l.1) (sym h.is) h.leads;
        leaf = h.leaf;
      })
      (leaves_of image class Component) (objects_lead (length image.classes) (record { 0 = class }) [] 0)
  leaves_lead class Statics =
      each_turned (LeadsOn [] 0 image.static_fields) (IsAt class Statics)
      (λ l h. record {
        leads = subst (λ (path : Path). static_part_at image path ≡ Some l.1) (sym h.is) h.leads;
        leaf = h.leaf;
      })
      (leaves_of image class Statics)
      (fields_lead (object_leaves image (length image.classes)) (objects_lead (length image.classes)) [] 0 0
      image.static_fields image.static_fields
      (λ j. ap (slice_get image.static_fields) (let same : j ≡ 0 + j = omega arith in same)))
