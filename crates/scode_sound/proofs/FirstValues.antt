-- First contents have a value at each path at which the fields have a primitive, a Str or a Buf.
use Rattle.std.proofs.Common.{◌≡◌, ◌<◌, ◌+◌, ◌*◌, ◌-◌, ◌==◌, ◌||◌, not, nat_le, nat_lt, ℕ, zero, suc, Bool, true, false, if◌then◌else◌, List, [], ◌∷◌, ◌++◌, length, map, drop, Some, None, refl, sym, ap, subst, ◌∙◌, append_assoc, append-nil, arith}
use Rattle.std.specs.Prelude.{slice_get}
use Rattle.std.specs.List.{flat_map, enumerate_from, range_with_len}
use Rattle.std.proofs.lemmas.Bool.{ltb-true}
use Rattle.std.proofs.lemmas.Option.{slice_get_within}
use Rattle.std.proofs.lemmas.Slice.Eq.{bytes_eq-Decides}
use Rattle.sed_value.specs.declared.value.Value.{Value}
use Rattle.sed_value.specs.declared.value.Value.TheVariants as kept
use Rattle.sed_value.specs.SlotType.{width_of}
use Rattle.sed_typed.specs.declared.program.FieldForm.{FieldForm}
use Rattle.sed_typed.specs.declared.program.FieldForm.TheVariants as form
use Rattle.sed_typed.specs.Contents.{Contents, Path, Shape}
use Rattle.sed_engine.specs.Fits.{form_at, form_below, form_of as form_in}
use Rattle.sed_engine.specs.Values.{Component, Statics}
use Rattle.sed_engine.proofs.FirstPaths.{IsLeaf, has, has_back, has_front}
use Rattle.scode_image.specs.declared.image.Image.{Image}
use Rattle.scode_image.specs.declared.image.ImageField.{ImageField}
use Rattle.scode_code.specs.Contents.{buf_at, bytes_at, class_bytes, field_held, initial, initial_statics, object_held, primitive_at}
use Rattle.scode_code.specs.Fields.{Setting}
use Rattle.scode_code.specs.TableRules as rule
use Rattle.scode_code.specs.Tables.{class_fields, form_of, primitive_of, shape_of}
use Rattle.scode_whole.proofs.SlotFields.{form_prim, form_str, form_buf}
use Rattle.scode_whole.proofs.Truths.{no_value, passes, same_value}
use Rattle.scode_sound.specs.Cells.{Concrete, form_from, shapes_of}
use Rattle.scode_sound.proofs.Rules.{Tables, form_object, form_array, statics_rule}
use Rattle.scode_whole.proofs.Nesting.{Nested, all_nested}
use Rattle.scode_sound.proofs.Booleans.{second}

one_has : (a path : Path) (v : Value) → a ≡ path → has ((a, v) ∷ []) path ≡ true
one_has a path v e = ap (λ (b : Bool). b || false) ((bytes_eq-Decides a path).1 e)

-- ---- elements of an array

elements_have : (value : ℕ → Value) (path : Path) (k n j : ℕ) → j < n
    → has (map (λ i. (path ++ i ∷ [], value i)) (range_with_len k n)) (path ++ (k + j) ∷ []) ≡ true
elements_have value path k zero j h = absurd (omega (arith, h))
elements_have value path k (suc n) zero h =
    has_front ((path ++ k ∷ [], value k) ∷ []) (map (λ i. (path ++ i ∷ [], value i)) (range_with_len (k + 1) n))
    (path ++ (k + 0) ∷ [])
    (one_has (path ++ k ∷ []) (path ++ (k + 0) ∷ []) (value k)
    (ap (λ (m : ℕ). path ++ m ∷ []) (let e : k ≡ k + 0 = omega arith in e)))
elements_have value path k (suc n) (suc j) h =
    has_back ((path ++ k ∷ [], value k) ∷ []) (map (λ i. (path ++ i ∷ [], value i)) (range_with_len (k + 1) n))
    (path ++ (k + suc j) ∷ [])
    (subst (λ (m : ℕ). has (map (λ i. (path ++ i ∷ [], value i)) (range_with_len (k + 1) n)) (path ++ m ∷ []) ≡ true)
    (let e : k + 1 + j ≡ k + suc j = omega arith in e) (elements_have value path (k + 1) n j (omega (arith, h))))

-- ---- fields

-- an object in such a field has others at most so deep in it
abbrev Inner : Image → ℕ → FieldForm → Type 0
Inner image n (form.Prim p) = Unit {0}
Inner image n (form.Str m) = Unit {0}
Inner image n (form.Buf m) = Unit {0}
Inner image n (form.Array p m) = Unit {0}
Inner image n (form.Object t) = Nested image n t.0

inner_of : (image : Image) (n : ℕ) (f : ImageField) → ((f.form == 8) ≡ true → Nested image n f.n)
    → Inner image n (form_of f)
inner_of image n f object = by_number (nat_le f.form 5) (f.form == 6) (f.form == 7) (f.form == 8) refl refl refl refl
  where
    as_form : (of : FieldForm) → form_of f ≡ of → Inner image n of → Inner image n (form_of f)
    as_form of same h = subst (Inner image n) (sym same) h

    by_number : (x y z w : Bool) → nat_le f.form 5 ≡ x → (f.form == 6) ≡ y → (f.form == 7) ≡ z → (f.form == 8) ≡ w
        → Inner image n (form_of f)
    by_number true y z w ex ey ez ew = as_form (form.Prim (primitive_of f.form)) (form_prim f ex) tt
    by_number false true z w ex ey ez ew = as_form (form.Str f.n) (form_str f ex ey) tt
    by_number false false true w ex ey ez ew = as_form (form.Buf f.n) (form_buf f ex ey ez) tt
    by_number false false false true ex ey ez ew =
        as_form (form.Object (record { 0 = f.n })) (form_object f ex ey ez ew) (object ew)
    by_number false false false false ex ey ez ew =
        as_form (form.Array (primitive_of (f.form - 8)) f.n) (form_array f ex ey ez ew) tt

module _ (image : Image) where
  abbrev shapes : ℕ → List Shape
  shapes c = shapes_of image c

  -- objects with others at most so deep in them have their paths
  abbrev ObjectsHave : ℕ → (ℕ → Path → List ℕ → Contents) → Type 0
  ObjectsHave n object =
      (t : ℕ) → Nested image n t → (path rest : Path) (bytes : List ℕ) (g : FieldForm) → IsLeaf g
      → form_in shapes (shapes t) rest ≡ Some g → has (object t path bytes) (path ++ rest) ≡ true

  not_leaf : {P : Type 0} (f g : FieldForm) → Some f ≡ Some g → IsLeaf g → (IsLeaf f → ⊥) → P
  not_leaf f g e leaf never = absurd (never (subst IsLeaf (sym (same_value f g e)) leaf))

  begun_has : (n : ℕ) (object : ℕ → Path → List ℕ → Contents) → ObjectsHave n object → (path : Path) (f : FieldForm)
      (bytes : List ℕ) (offset : ℕ) → Inner image n f → (rest : Path) (g : FieldForm) → IsLeaf g
      → form_below shapes rest (Some f) ≡ Some g → has (field_held object path f bytes offset) (path ++ rest) ≡ true
  begun_has n object objects path (form.Prim p) bytes offset w [] g leaf e =
      one_has path (path ++ []) (primitive_at p bytes offset) (sym (append-nil path))
  begun_has n object objects path (form.Prim p) bytes offset w (j ∷ rest) g leaf e = no_value g e
  begun_has n object objects path (form.Str m) bytes offset w [] g leaf e =
      one_has path (path ++ []) (kept.Buf (bytes_at bytes offset m)) (sym (append-nil path))
  begun_has n object objects path (form.Str m) bytes offset w (j ∷ rest) g leaf e = no_value g e
  begun_has n object objects path (form.Buf m) bytes offset w [] g leaf e =
      one_has path (path ++ []) (buf_at bytes offset) (sym (append-nil path))
  begun_has n object objects path (form.Buf m) bytes offset w (j ∷ rest) g leaf e = no_value g e
  begun_has n object objects path (form.Array p m) bytes offset w [] g leaf e =
      not_leaf (form.Array p m) g e leaf (λ x. x)
  begun_has n object objects path (form.Array p m) bytes offset w (j ∷ rest) g leaf e = go (nat_lt j m) refl rest e
    where
      go : (b : Bool) → nat_lt j m ≡ b → (rest : Path)
          → form_below shapes rest (if b then Some (form.Prim p) else None) ≡ Some g
          → has (map (λ i. (path ++ i ∷ [], primitive_at p bytes (offset + i * width_of p))) (range_with_len 0 m))
          (path ++ j ∷ rest) ≡ true
      go true less [] e =
          subst (λ (i : ℕ). has (map (λ i. (path ++ i ∷ [], primitive_at p bytes (offset + i * width_of p)))
          (range_with_len 0 m)) (path ++ i ∷ []) ≡ true)
          (let same : 0 + j ≡ j = omega arith in same)
          (elements_have (λ i. primitive_at p bytes (offset + i * width_of p)) path 0 m j (ltb-true j m less))
      go true less (i ∷ rest) e = no_value g e
      go false less rest e = no_value g e
  begun_has n object objects path (form.Object t) bytes offset w [] g leaf e =
      not_leaf (form.Object t) g e leaf (λ x. x)
  begun_has n object objects path (form.Object t) bytes offset w (j ∷ rest) g leaf e =
      objects t.0 w path (j ∷ rest) (drop offset bytes) g leaf e

  abbrev begun_all : (ℕ → Path → List ℕ → Contents) → Path → List ℕ → ℕ → List ImageField → Contents
  begun_all object path bytes k all =
      flat_map (λ (at : ℕ × ImageField). field_held object (path ++ at.0 ∷ []) (form_of at.1) bytes at.1.offset)
      (enumerate_from k all)

  abbrev AllInner : ℕ → List ImageField → Type 0
  AllInner n [] = Unit {0}
  AllInner n (f ∷ fs) = Inner image n (form_of f) × AllInner n fs

  fields_have : (n : ℕ) (object : ℕ → Path → List ℕ → Contents) → ObjectsHave n object → (path : Path)
      (bytes : List ℕ) (k : ℕ) (all : List ImageField) → AllInner n all → (j : ℕ) (rest : Path) (g : FieldForm)
      → IsLeaf g → form_below shapes rest (form_at (map shape_of all) j) ≡ Some g
      → has (begun_all object path bytes k all) (path ++ (k + j) ∷ rest) ≡ true
  fields_have n object objects path bytes k [] w j rest g leaf e = no_value g e
  fields_have n object objects path bytes k (f ∷ fs) w zero rest g leaf e =
      has_front (field_held object (path ++ k ∷ []) (form_of f) bytes f.offset)
      (begun_all object path bytes (k + 1) fs) (path ++ (k + 0) ∷ rest)
      (subst (λ (p : Path). has (field_held object (path ++ k ∷ []) (form_of f) bytes f.offset) p ≡ true)
      (append_assoc path (k ∷ []) rest
      ∙ ap (λ (m : ℕ). path ++ m ∷ rest) (let same : k ≡ k + 0 = omega arith in same))
      (begun_has n object objects (path ++ k ∷ []) (form_of f) bytes f.offset w.0 rest g leaf e))
  fields_have n object objects path bytes k (f ∷ fs) w (suc j) rest g leaf e =
      has_back (field_held object (path ++ k ∷ []) (form_of f) bytes f.offset)
      (begun_all object path bytes (k + 1) fs) (path ++ (k + suc j) ∷ rest)
      (subst (λ (m : ℕ). has (begun_all object path bytes (k + 1) fs) (path ++ m ∷ rest) ≡ true)
      (let same : k + 1 + j ≡ k + suc j = omega arith in same)
      (fields_have n object objects path bytes (k + 1) fs w.1 j rest g leaf e))

  all_inner : (n : ℕ) (all : List ImageField)
      → ((i : ℕ) (f : ImageField) → slice_get all i ≡ Some f → Inner image n (form_of f)) → AllInner n all
  all_inner n [] each = tt
  all_inner n (f ∷ fs) each = (each 0 f refl, all_inner n fs (λ i g e. each (suc i) g e))

  objects_have : (n : ℕ) → ObjectsHave n (object_held image n)
  objects_have zero t deep path rest bytes g leaf e = absurd deep
  objects_have (suc n) t deep path [] bytes g leaf e = no_value g e
  objects_have (suc n) t deep path (j ∷ rest) bytes g leaf e =
      subst (λ (m : ℕ). has (object_held image (suc n) t path bytes) (path ++ m ∷ rest) ≡ true)
      (let same : 0 + j ≡ j = omega arith in same)
      (fields_have n (object_held image n) (objects_have n) path bytes 0 (class_fields image t)
      (all_inner n (class_fields image t)
      (λ i f at. inner_of image n f
      (λ object. deep f.n (record { place = i; field = f; stands = at; object = object; is = refl }))))
      j rest g leaf e)

pub initial_has : (w : Setting) → Tables w.image → Concrete w.image w.class → (path : Path) (g : FieldForm) → IsLeaf g
    → form_from w Component path ≡ Some g → has (initial w.image w.class) path ≡ true
initial_has w is own path g leaf e =
    objects_have w.image (length w.image.classes) w.class
    (all_nested w.image is.whole w.class (slice_get_within w.image.classes w.class own.info own.stands)) [] path
    (class_bytes w.image w.class) g leaf e

pub statics_have : (w : Setting) → Tables w.image → (path : Path) (g : FieldForm) → IsLeaf g
    → form_from w Statics path ≡ Some g → has (initial_statics w.image) path ≡ true
statics_have w is [] g leaf e = no_value g e
statics_have w is (j ∷ rest) g leaf e =
    subst (λ (m : ℕ). has (initial_statics w.image) (m ∷ rest) ≡ true)
    (let same : 0 + j ≡ j = omega arith in same)
    (fields_have w.image (length w.image.classes) (object_held w.image (length w.image.classes))
    (objects_have w.image (length w.image.classes)) [] w.image.static_bytes 0 w.image.static_fields
    (all_inner w.image (length w.image.classes) w.image.static_fields
    (λ i f at. inner_of w.image (length w.image.classes) f (static_nested w is i f at))) j rest g leaf e)
  where
    static_nested : (w : Setting) → Tables w.image → (i : ℕ) (f : ImageField)
        → slice_get w.image.static_fields i ≡ Some f → (f.form == 8) ≡ true
        → Nested w.image (length w.image.classes) f.n
    static_nested w is i f at object =
        all_nested w.image is.whole f.n
        (ltb-true f.n (length w.image.classes)
        (second (f.form == 8) (rule.has_class w.image f.n) object
        (passes (λ (g : ImageField). not (g.form == 8) || rule.has_class w.image g.n) w.image.static_fields i f
        (statics_rule w.image is).are_there at)))
