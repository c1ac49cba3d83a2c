-- A value stands at each path at which a leaf is, and at no other.
use Rattle.std.proofs.Common.{◌≡◌, ◌<◌, ◌≤◌, ◌+◌, ◌*◌, ◌==◌, ◌||◌, ◌⊎◌, inl, inr, nat_lt, ℕ, zero, suc, Bool, true, false, if◌then◌else◌, List, [], ◌∷◌, ◌++◌, length, map, Option, Some, None, refl, sym, ap, subst, ◌∙◌, append_assoc, append-nil, arith}
use Rattle.std.specs.Prelude.{slice_get}
use Rattle.std.specs.List.{list_any, range_with_len}
use Rattle.std.specs.Option.{option_and_then, option_map}
use Rattle.std.specs.Str.{bytes_eq}
use Rattle.std.proofs.lemmas.Option.{slice_get_within}
use Rattle.std.proofs.lemmas.Slice.Eq.{bytes_eq-Decides}
use Rattle.sed_value.specs.declared.slot_type.Primitive.{Primitive}
use Rattle.sed_value.specs.declared.value.Value.{Value}
use Rattle.sed_value.specs.SlotType.{width_of}
use Rattle.sed_typed.specs.declared.number.TypeNo.{TypeNo}
use Rattle.sed_typed.specs.declared.program.FieldForm.{FieldForm}
use Rattle.sed_typed.specs.declared.program.FieldForm.TheVariants as form
use Rattle.sed_typed.specs.Contents.{Contents, Path, value_at}
use Rattle.sed_engine.specs.Values.{Base, Component, Statics}
use Rattle.scode_image.specs.declared.image.Image.{Image}
use Rattle.scode_image.specs.declared.image.ImageClass.{ImageClass}
use Rattle.scode_image.specs.declared.image.ImageField.{ImageField}
use Rattle.scode_code.specs.Parts.{Part, field_part, part_from, part_in, part_of}
use Rattle.scode_code.specs.Tables.{class_fields, form_of}
use Rattle.scode_whole.proofs.Rule.{Agrees}
use Rattle.scode_whole.proofs.Truths.{no_truth, no_value, same_value, through}
use Rattle.scode_state.specs.Values.{held_in, value_from}
use Rattle.scode_state.proofs.Rows.{Row, static_row}
use Rattle.scode_state.proofs.Apart.{element_of, field_part_of}
use Rattle.scode_state.proofs.Leaves.{Each, Inside, IsAt, IsLeaf, Leaf, held_read, leaf_value, leaves_among, leaves_in, leaves_lead, leaves_of, object_leaves, part_value, read}
use Rattle.scode_whole.proofs.Nesting.{Holds, Nested, all_nested}
use Rattle.scode_state.proofs.Paths.{Inner, inner_of, no_fields}

-- ---- a leaf stands at a path

abbrev has : List Leaf → Path → Bool
has ls path = list_any (λ (l : Leaf). bytes_eq l.0 path) ls

has_front : (a b : List Leaf) (path : Path) → has a path ≡ true → has (a ++ b) path ≡ true
has_front [] b path h = no_truth h
has_front (e ∷ es) b path h = go (bytes_eq e.0 path) (has_front es b path) h
  where
    go : (x : Bool) → (has es path ≡ true → has (es ++ b) path ≡ true) → (x || has es path) ≡ true
        → (x || has (es ++ b) path) ≡ true
    go true later h = refl
    go false later h = later h

has_back : (a b : List Leaf) (path : Path) → has b path ≡ true → has (a ++ b) path ≡ true
has_back [] b path h = h
has_back (e ∷ es) b path h = go (bytes_eq e.0 path) (has_back es b path h)
  where
    go : (x : Bool) → has (es ++ b) path ≡ true → (x || has (es ++ b) path) ≡ true
    go true h = refl
    go false h = h

one_has : (a path : Path) (part : Part) → a ≡ path → has ((a, part) ∷ []) path ≡ true
one_has a path part e = ap (λ (b : Bool). b || false) ((bytes_eq-Decides a path).1 e)

elements_have : (path : Path) (p : Primitive) (o k n j : ℕ) → j < n
    → has (map (λ i. (path ++ i ∷ [], (o + i * width_of p, form.Prim p))) (range_with_len k n)) (path ++ (k + j) ∷ [])
    ≡ true
elements_have path p o k zero j h = absurd (omega (arith, h))
elements_have path p o k (suc n) zero h =
    has_front ((path ++ k ∷ [], (o + k * width_of p, form.Prim p)) ∷ [])
    (map (λ i. (path ++ i ∷ [], (o + i * width_of p, form.Prim p))) (range_with_len (k + 1) n))
    (path ++ (k + 0) ∷ [])
    (one_has (path ++ k ∷ []) (path ++ (k + 0) ∷ []) (o + k * width_of p, form.Prim p)
    (ap (λ (m : ℕ). path ++ m ∷ []) (let e : k ≡ k + 0 = omega arith in e)))
elements_have path p o k (suc n) (suc j) h =
    has_back ((path ++ k ∷ [], (o + k * width_of p, form.Prim p)) ∷ [])
    (map (λ i. (path ++ i ∷ [], (o + i * width_of p, form.Prim p))) (range_with_len (k + 1) n))
    (path ++ (k + suc j) ∷ [])
    (subst (λ (m : ℕ). has (map (λ i. (path ++ i ∷ [], (o + i * width_of p, form.Prim p))) (range_with_len (k + 1) n))
    (path ++ m ∷ []) ≡ true)
    (let e : k + 1 + j ≡ k + suc j = omega arith in e) (elements_have path p o (k + 1) n j (omega (arith, h))))

not_leaf : {P : Type 0} (a b : Part) → Some a ≡ Some b → IsLeaf b.1 → (IsLeaf a.1 → ⊥) → P
not_leaf a b e leaf never = absurd (never (subst (λ (x : Part). IsLeaf x.1) (sym (same_value a b e)) leaf))

module _ (image : Image) where
  abbrev ObjectsHave : ℕ → Inside → Type 0
  ObjectsHave n object =
      (t : TypeNo) → Nested image n t.0 → (path rest : Path) (o : ℕ) (b : Part) → IsLeaf b.1
      → part_from image rest (o, form.Object t) ≡ Some b → has (object t.0 path o) (path ++ rest) ≡ true

  part_has : (n : ℕ) (object : Inside) → ObjectsHave n object → (path : Path) (g : FieldForm) (o : ℕ)
      → Inner image n g → (rest : Path) (b : Part) → IsLeaf b.1 → part_from image rest (o, g) ≡ Some b
      → has (leaves_in object path g o) (path ++ rest) ≡ true
  part_has n object objects path (form.Prim p) o w [] b leaf e =
      one_has path (path ++ []) (o, form.Prim p) (sym (append-nil path))
  part_has n object objects path (form.Prim p) o w (j ∷ rest) b leaf e = no_value b e
  part_has n object objects path (form.Str m) o w [] b leaf e =
      one_has path (path ++ []) (o, form.Str m) (sym (append-nil path))
  part_has n object objects path (form.Str m) o w (j ∷ rest) b leaf e = no_value b e
  part_has n object objects path (form.Buf m) o w [] b leaf e =
      one_has path (path ++ []) (o, form.Buf m) (sym (append-nil path))
  part_has n object objects path (form.Buf m) o w (j ∷ rest) b leaf e = no_value b e
  part_has n object objects path (form.Array p m) o w [] b leaf e = not_leaf (o, form.Array p m) b e leaf (λ x. x)
  part_has n object objects path (form.Array p m) o w (j ∷ rest) b leaf e =
      let mid = through (part_from image rest) (part_in image (o, form.Array p m) j) b e in
      let at = element_of o p m j mid.0 mid.1 in
      go at.there rest (subst (λ (x : Part). part_from image rest x ≡ Some b) (sym at.is) mid.2)
    where
      go : j < m → (rest : Path) → part_from image rest (o + j * width_of p, form.Prim p) ≡ Some b
          → has (map (λ i. (path ++ i ∷ [], (o + i * width_of p, form.Prim p))) (range_with_len 0 m)) (path ++ j ∷ rest)
          ≡ true
      go less [] e =
          subst (λ (i : ℕ). has (map (λ i. (path ++ i ∷ [], (o + i * width_of p, form.Prim p))) (range_with_len 0 m))
          (path ++ i ∷ []) ≡ true)
          (let same : 0 + j ≡ j = omega arith in same) (elements_have path p o 0 m j less)
      go less (i ∷ rest) e = no_value b e
  part_has n object objects path (form.Object t) o w rest b leaf e = objects t w path rest o b leaf e

  abbrev AllInner : ℕ → List ImageField → Type 0
  AllInner n [] = Unit {0}
  AllInner n (f ∷ fs) = Inner image n (form_of f) × AllInner n fs

  all_inner : (n : ℕ) (all : List ImageField)
      → ((i : ℕ) (f : ImageField) → slice_get all i ≡ Some f → Inner image n (form_of f)) → AllInner n all
  all_inner n [] each = tt
  all_inner n (f ∷ fs) each = (each 0 f refl, all_inner n fs (λ i g e. each (suc i) g e))

  fields_have : (n : ℕ) (object : Inside) → ObjectsHave n object → (path : Path) (o k : ℕ) (all : List ImageField)
      → AllInner n all → (j : ℕ) (rest : Path) (b : Part) → IsLeaf b.1
      → option_and_then (part_from image rest) (option_map (field_part o) (slice_get all j)) ≡ Some b
      → has (leaves_among object path o k all) (path ++ (k + j) ∷ rest) ≡ true
  fields_have n object objects path o k [] w j rest b leaf e = no_value b e
  fields_have n object objects path o k (f ∷ fs) w zero rest b leaf e =
      has_front (leaves_in object (path ++ k ∷ []) (form_of f) (o + f.offset))
      (leaves_among object path o (k + 1) fs) (path ++ (k + 0) ∷ rest)
      (subst (λ (p : Path). has (leaves_in object (path ++ k ∷ []) (form_of f) (o + f.offset)) p ≡ true)
      (append_assoc path (k ∷ []) rest
      ∙ ap (λ (m : ℕ). path ++ m ∷ rest) (let one : k ≡ k + 0 = omega arith in one))
      (part_has n object objects (path ++ k ∷ []) (form_of f) (o + f.offset) w.0 rest b leaf e))
  fields_have n object objects path o k (f ∷ fs) w (suc j) rest b leaf e =
      has_back (leaves_in object (path ++ k ∷ []) (form_of f) (o + f.offset))
      (leaves_among object path o (k + 1) fs) (path ++ (k + suc j) ∷ rest)
      (subst (λ (m : ℕ). has (leaves_among object path o (k + 1) fs) (path ++ m ∷ rest) ≡ true)
      (let one : k + 1 + j ≡ k + suc j = omega arith in one)
      (fields_have n object objects path o (k + 1) fs w.1 j rest b leaf e))

  objects_have : (n : ℕ) → ObjectsHave n (object_leaves image n)
  objects_have zero t deep path rest o b leaf e = absurd deep
  objects_have (suc n) t deep path [] o b leaf e = not_leaf (o, form.Object t) b e leaf (λ x. x)
  objects_have (suc n) t deep path (j ∷ rest) o b leaf e =
      subst (λ (m : ℕ). has (object_leaves image (suc n) t.0 path o) (path ++ m ∷ rest) ≡ true)
      (let one : 0 + j ≡ j = omega arith in one)
      (fields_have n (object_leaves image n) (objects_have n) path o 0 (class_fields image t.0)
      (all_inner n (class_fields image t.0)
      (λ i f at. inner_of image n f
      (λ object. deep f.n (record { place = i; field = f; stands = at; object = object; is = refl }))))
      j rest b leaf e)

module _ (image : Image) (agree : Agrees image) where
  in_class : (class : ℕ) (path : Path) (b : Part) → IsLeaf b.1
      → part_from image path (0, form.Object (record { 0 = class })) ≡ Some b
      → (o : Option ImageClass) → slice_get image.classes class ≡ o
      → has (object_leaves image (length image.classes) class [] 0) path ≡ true
  in_class class [] b leaf e o at = not_leaf (0, form.Object (record { 0 = class })) b e leaf (λ x. x)
  in_class class (j ∷ rest) b leaf e None at =
      no_value b (sym (ap (λ (all : List ImageField). option_and_then (part_from image rest)
      (option_map (field_part 0) (slice_get all j))) (no_fields image class at)) ∙ e)
  in_class class (j ∷ rest) b leaf e (Some c) at =
      objects_have image (length image.classes) (record { 0 = class })
      (all_nested image agree class (slice_get_within image.classes class c at)) [] (j ∷ rest) 0 b leaf e

  pub leaf_there : (class : ℕ) (base : Base) (path : Path) (b : Part) → IsLeaf b.1
      → part_of image class base path ≡ Some b → has (leaves_of image class base) path ≡ true
  leaf_there class Component path b leaf e =
      in_class class path b leaf e (slice_get image.classes class) refl
  leaf_there class Statics [] b leaf e =
      not_leaf (0, form.Object (record { 0 = 0xffff })) b e leaf (λ x. x)
  leaf_there class Statics (j ∷ rest) b leaf e =
      subst (λ (m : ℕ). has (leaves_of image class Statics) (m ∷ rest) ≡ true)
      (let one : 0 + j ≡ j = omega arith in one)
      (fields_have image (length image.classes) (object_leaves image (length image.classes))
      (objects_have image (length image.classes)) [] 0 0 image.static_fields
      (all_inner image (length image.classes) image.static_fields
      (λ i f at. inner_of image (length image.classes) f
      (λ object. all_nested image agree f.n ((static_row image agree).known i f at object)))) j rest b leaf e)

-- ---- the value at a path

-- a leaf that is found
record Found (image : Image) (class : ℕ) (base : Base) (bytes : List ℕ) (path : Path) (v : Value) : Type 0 where
  part : Part
  there : part_of image class base path ≡ Some part
  leaf : IsLeaf part.1
  is : part_value bytes part ≡ v

module _ (image : Image) (class : ℕ) (base : Base) (bytes : List ℕ) (path : Path) where
  what_is_found : (ls : List Leaf) → Each (IsAt image class base) ls → (v : Value)
      → value_at (map (read bytes) ls) path ≡ Some v → Found image class base bytes path v
  what_is_found [] h v e = no_value v e
  what_is_found (l ∷ ls) h v e = by_test (bytes_eq l.0 path) refl (what_is_found ls h.1 v) e
    where
      by_test : (b : Bool) → bytes_eq l.0 path ≡ b
          → (value_at (map (read bytes) ls) path ≡ Some v → Found image class base bytes path v)
          → (if b then Some (part_value bytes l.1) else value_at (map (read bytes) ls) path) ≡ Some v
          → Found image class base bytes path v
      by_test true is later e = record {
        part = l.1;
        there = sym (ap (part_of image class base) ((bytes_eq-Decides l.0 path).0 is)) ∙ h.0.leads;
        leaf = h.0.leaf;
        is = same_value (part_value bytes l.1) v e;
      }
      by_test false is later e = later e

  some_found : (ls : List Leaf) → has ls path ≡ true → (v : Value) × (value_at (map (read bytes) ls) path ≡ Some v)
  some_found [] h = no_truth h
  some_found (l ∷ ls) h = go (bytes_eq l.0 path) (some_found ls) h
    where
      go : (b : Bool) → (has ls path ≡ true → (v : Value) × (value_at (map (read bytes) ls) path ≡ Some v))
          → (b || has ls path) ≡ true
          → (v : Value) × ((if b then Some (part_value bytes l.1) else value_at (map (read bytes) ls) path) ≡ Some v)
      go true later h = (part_value bytes l.1, refl)
      go false later h = later h

leaf_or_not : (g : FieldForm) → IsLeaf g ⊎ (IsLeaf g → ⊥)
leaf_or_not (form.Prim p) = inl tt
leaf_or_not (form.Str n) = inl tt
leaf_or_not (form.Buf n) = inl tt
leaf_or_not (form.Array p n) = inr (λ x. x)
leaf_or_not (form.Object t) = inr (λ x. x)

not_value : (bytes : List ℕ) (part : Part) → (IsLeaf part.1 → ⊥) → value_from bytes part ≡ None
not_value bytes (o, form.Prim p) never = absurd (never tt)
not_value bytes (o, form.Str n) never = absurd (never tt)
not_value bytes (o, form.Buf n) never = absurd (never tt)
not_value bytes (o, form.Array p n) never = refl
not_value bytes (o, form.Object t) never = refl

module _ (image : Image) (agree : Agrees image) (class : ℕ) (base : Base) (bytes : List ℕ) (path : Path) where
  abbrev found : Option Value
  found = value_at (map (read bytes) (leaves_of image class base)) path

  known : (v : Value) → found ≡ Some v → Found image class base bytes path v
  known v e = what_is_found image class base bytes path (leaves_of image class base) (leaves_lead image class base) v e

  nothing : ((v : Value) → found ≡ Some v → ⊥) → found ≡ None
  nothing never = by_value found refl
    where
      by_value : (o : Option Value) → found ≡ o → found ≡ None
      by_value None e = e
      by_value (Some v) e = absurd (never v e)

  by_part : (o : Option Part) → part_of image class base path ≡ o → found ≡ option_and_then (value_from bytes) o
  by_part None e = nothing (λ v is. let f = known v is in no_value f.part (sym e ∙ f.there))
  by_part (Some part) e = by_leaf (leaf_or_not part.1)
    where
      by_leaf : IsLeaf part.1 ⊎ (IsLeaf part.1 → ⊥) → found ≡ value_from bytes part
      by_leaf (inl leaf) =
          let some = some_found image class base bytes path (leaves_of image class base)
          (leaf_there image agree class base path part leaf e) in
          let f = known some.0 some.1 in
          let one : f.part ≡ part = same_value f.part part (sym f.there ∙ e) in
          some.1 ∙ ap (λ (v : Value). Some v) (sym f.is ∙ ap (part_value bytes) one) ∙ sym (leaf_value bytes part leaf)
      by_leaf (inr never) =
          nothing (λ v is.
          let f = known v is in
          never (subst (λ (p : Part). IsLeaf p.1) (same_value f.part part (sym f.there ∙ e)) f.leaf))
          ∙ sym (not_value bytes part never)

  pub parts_read : value_at (held_in image class base bytes) path
      ≡ option_and_then (value_from bytes) (part_of image class base path)
  parts_read =
      ap (λ (m : Contents). value_at m path) (held_read image bytes class base)
      ∙ by_part (part_of image class base path) refl
