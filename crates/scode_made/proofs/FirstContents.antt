-- The first bytes of objects and of the statics are read as what they begin with.
use Rattle.std.proofs.Common.{◌≡◌, ℕ, zero, suc, ◌+◌, ◌-◌, ◌<◌, ◌≤◌, inl, inr, List, [], ◌∷◌, ◌++◌, length, map, take, drop, Some, Option, refl, ap, sym, subst, ◌∙◌, arith, append_assoc}
use Rattle.std.specs.Prelude.{All, slice_get}
use Rattle.std.specs.List.{enumerate_from, flat_map, sum_by}
use Rattle.std.proofs.Math.Seq.{drop-append-add}
use Rattle.std.specs.Option.{option_map_or}
use Rattle.std.proofs.lemmas.List.{append-nil, length-map}
use Rattle.std.proofs.lemmas.List.FromFn.{length-enumerate_from}
use Rattle.std.proofs.lemmas.List.Concat.{flat_map-cons}
use Rattle.std.proofs.lemmas.List.Sums.{sum_by-cons}
use Rattle.std.proofs.lemmas.Option.{same_Some, slice_get_cases, slice_get_past}
use Rattle.sed_typed.specs.declared.program.Field.{Field}
use Rattle.sed_typed.specs.declared.program.FieldForm.{FieldForm}
use Rattle.sed_typed.specs.declared.program.FieldForm.TheVariants as form
use Rattle.sed_typed.specs.declared.program.Program.{Program}
use Rattle.sed_typed.specs.declared.schema.ClassInfo.{ClassInfo}
use Rattle.sed_typed.specs.Classes.{fields}
use Rattle.sed_typed.specs.Contents.{Contents, Path}
use Rattle.sed_typed.specs.Initial as language
use Rattle.sed_typed.specs.Initial.{begun, fields_begun, object_begun}
use Rattle.sed_typed.specs.Sizes.{data_size, data_within, form_size}
use Rattle.sed_typed.specs.Typed.{Typed}
use Rattle.sed_typed.specs.TypedSchema.{IsField, IsForm}
use Rattle.sed_layout.specs.Offsets.{field_width, offset_of, static_offset_of}
use Rattle.sed_layout.proofs.Inherited.{fields_beyond, of_fields}
use Rattle.scode_image.specs.declared.image.ImageClass.{ImageClass}
use Rattle.scode_image.specs.declared.image.ImageField.{ImageField}
use Rattle.scode_code.specs.Contents.{field_held, fields_held, object_held}
use Rattle.scode_code.specs.Contents as machine
use Rattle.scode_code.specs.Tables.{form_of}
use Rattle.scode_gen.specs.Classes.{image_class}
use Rattle.scode_gen.specs.FirstBytes.{field_bytes, fields_bytes, first_bytes, object_bytes, static_bytes}
use Rattle.scode_gen.specs.Generated.{image_of}
use Rattle.scode_gen.specs.ImageFields.{fields_placed, image_field}
use Rattle.scode_made.proofs.FieldBytes.{IsRead, field_back}
use Rattle.scode_made.proofs.FirstBytes.{field_many, objects_many}
use Rattle.scode_made.proofs.MadeData.{made_fields}
use Rattle.scode_made.proofs.MadeFields.{offset_is}
use Rattle.scode_made.proofs.PlacedFields.{form_is}
use Rattle.scode_made.proofs.Places.{all_at}
use Rattle.scode_made.proofs.Rows.{class_at, fields_past}

-- ---- where a field's bytes stand

-- behind the bytes of the fields before it stand its own
record StandsAt (g : Field → List ℕ) (all : List Field) (behind : List ℕ) (i : ℕ) (f : Field) : Type 0 where
  rest : List ℕ
  is : drop (sum_by (λ x. length (g x)) (take i all)) (flat_map g all ++ behind) ≡ g f ++ rest

stands_at : (g : Field → List ℕ) (all : List Field) (behind : List ℕ) (i : ℕ) (f : Field) → slice_get all i ≡ Some f → StandsAt g all behind i f
stands_at g [] behind i f at = let never : ⊥ = cc in absurd never
stands_at g (x ∷ xs) behind zero f at =
    record {
      rest = flat_map g xs ++ behind;
      is = ap (λ (ys : List ℕ). ys ++ behind) (flat_map-cons g x xs)
          ∙ append_assoc (g x) (flat_map g xs) behind
          ∙ ap (λ (y : Field). g y ++ (flat_map g xs ++ behind)) (same_Some x f at);
    }
stands_at g (x ∷ xs) behind (suc i) f at =
    let later = stands_at g xs behind i f at in
    let before : ℕ = sum_by (λ y. length (g y)) (take i xs) in
    record {
      rest = later.rest;
      is = ap (λ (n : ℕ). drop n (flat_map g (x ∷ xs) ++ behind)) (sum_by-cons (λ y. length (g y)) x (take i xs))
          ∙ ap (drop (length (g x) + before)) (ap (λ (ys : List ℕ). ys ++ behind) (flat_map-cons g x xs) ∙ append_assoc (g x) (flat_map g xs) behind)
          ∙ drop-append-add (g x) (flat_map g xs ++ behind) before
          ∙ later.is;
    }

sums_before : (a b : Field → ℕ) (all : List Field) → ((i : ℕ) (f : Field) → slice_get all i ≡ Some f → a f ≡ b f) → (i : ℕ) → sum_by a (take i all) ≡ sum_by b (take i all)
sums_before a b [] h i = by_many i
  where
    by_many : (n : ℕ) → sum_by a (take n []) ≡ sum_by b (take n [])
    by_many zero = refl
    by_many (suc n) = refl
sums_before a b (x ∷ xs) h zero = refl
sums_before a b (x ∷ xs) h (suc i) =
    let rest = sums_before a b xs (λ k f at. h (suc k) f at) i in
    let here : a x ≡ b x = h 0 x refl in
    omega (arith, sum_by-cons a x (take i xs), sum_by-cons b x (take i xs), here, rest)

-- fields of which each begins where those before it end: at each stand its first bytes
pub first_bytes_stand : (program : Program) → Typed program → (depth : ℕ) (behind : List ℕ) (all : List Field)
    (offset : ℕ → ℕ) → All (IsField program) all →
    ((i : ℕ) (f : Field) → slice_get all i ≡ Some f
    → form_size (data_within program depth) f.form ≡ field_width program f) →
    ((i : ℕ) → offset i ≡ sum_by (field_width program) (take i all)) →
    (i : ℕ) (f : Field) → slice_get all i ≡ Some f →
    (rest : List ℕ) × (drop (offset i) (fields_bytes (object_bytes program depth) all ++ behind)
    ≡ field_bytes (object_bytes program depth) f.form f.initial ++ rest)
first_bytes_stand program typed depth behind all offset known same at_offset i f at =
    let stands = stands_at own all behind i f at in
    let begins : offset i ≡ sum_by (λ x. length (own x)) (take i all) =
    at_offset i ∙ sums_before (field_width program) (λ x. length (own x)) all as_many i in
    (stands.rest, ap (λ (n : ℕ). drop n (fields_bytes (object_bytes program depth) all ++ behind)) begins ∙ stands.is)
  where
    own : Field → List ℕ
    own x = field_bytes (object_bytes program depth) x.form x.initial

    as_many : (k : ℕ) (x : Field) → slice_get all k ≡ Some x → field_width program x ≡ length (own x)
    as_many k x there =
        let is : IsField program x = all_at (IsField program) all k x there known in
        sym (field_many (data_within program depth) (object_bytes program depth)
        (objects_many program typed depth) x.form x.initial is.initial ∙ same k x there)

-- ---- fields

fields_from : (held : ℕ → Path → List ℕ → Contents) (begin : ℕ → Path → Contents) (path : Path) (bytes : List ℕ) (offset : ℕ → ℕ) (n : ℕ) (all : List Field) →
    ((i : ℕ) (f : Field) → slice_get all i ≡ Some f → field_held held (path ++ (n + i) ∷ []) f.form bytes (offset (n + i)) ≡ begun begin (path ++ (n + i) ∷ []) f.form f.initial) →
    flat_map (λ (at : ℕ × ImageField). field_held held (path ++ at.0 ∷ []) (form_of at.1) bytes at.1.offset)
    (enumerate_from n (map (λ (at : ℕ × Field). image_field (offset at.0) at.1.form) (enumerate_from n all)))
    ≡ flat_map (λ (at : ℕ × Field). begun begin (path ++ at.0 ∷ []) at.1.form at.1.initial) (enumerate_from n all)
fields_from held begin path bytes offset n [] h = refl
fields_from held begin path bytes offset n (x ∷ xs) h =
    flat_map-cons read (n, image_field (offset n) x.form) (enumerate_from (n + 1) (map (λ (at : ℕ × Field). image_field (offset at.0) at.1.form) (enumerate_from (n + 1) xs)))
    ∙ ap (λ (front : Contents). front ++ flat_map read (enumerate_from (n + 1) (map (λ (at : ℕ × Field). image_field (offset at.0) at.1.form) (enumerate_from (n + 1) xs)))) here
    ∙ ap (λ (later : Contents). begins (n, x) ++ later)
    (fields_from held begin path bytes offset (n + 1) xs
    (λ i f at. subst (λ (k : ℕ). field_held held (path ++ k ∷ []) f.form bytes (offset k) ≡ begun begin (path ++ k ∷ []) f.form f.initial)
    (let e : n + suc i ≡ (n + 1) + i = omega arith in e) (h (suc i) f at)))
    ∙ sym (flat_map-cons begins (n, x) (enumerate_from (n + 1) xs))
  where
    read : ℕ × ImageField → Contents
    read at = field_held held (path ++ at.0 ∷ []) (form_of at.1) bytes at.1.offset

    begins : ℕ × Field → Contents
    begins at = begun begin (path ++ at.0 ∷ []) at.1.form at.1.initial

    here : read (n, image_field (offset n) x.form) ≡ begins (n, x)
    here =
        ap (λ (f : FieldForm). field_held held (path ++ n ∷ []) f bytes (image_field (offset n) x.form).offset) (form_is (offset n) x.form)
        ∙ ap (field_held held (path ++ n ∷ []) x.form bytes) (offset_is (offset n) x.form)
        ∙ subst (λ (k : ℕ). field_held held (path ++ k ∷ []) x.form bytes (offset k) ≡ begun begin (path ++ k ∷ []) x.form x.initial)
        (let e : n + 0 ≡ n = omega arith in e) (h 0 x refl)

-- ---- sizes

-- where objects are no larger, nothing is
form_grows : (a b : ℕ → ℕ) → ((t : ℕ) → a t ≤ b t) → (f : FieldForm) → form_size a f ≤ form_size b f
form_grows a b h (form.Prim p) = omega arith
form_grows a b h (form.Str n) = omega arith
form_grows a b h (form.Buf n) = omega arith
form_grows a b h (form.Array p n) = omega arith
form_grows a b h (form.Object class) = h class.0

abbrev sum_of : (ℕ → ℕ) → List Field → ℕ
sum_of size all = sum_by (λ f. form_size size f.form) all

sum_grows : (a b : ℕ → ℕ) → ((t : ℕ) → a t ≤ b t) → (all : List Field) → sum_of a all ≤ sum_of b all
sum_grows a b h [] = omega arith
sum_grows a b h (x ∷ xs) =
    let here = form_grows a b h x.form in
    let rest = sum_grows a b h xs in
    omega (arith, here, rest, sum_by-cons (λ (f : Field). form_size a f.form) x xs, sum_by-cons (λ (f : Field). form_size b f.form) x xs)

-- where the sums are the same all the same, each form is as large
pub each_same : (a b : ℕ → ℕ) → ((t : ℕ) → a t ≤ b t) → (all : List Field) → sum_of a all ≡ sum_of b all → (i : ℕ) (f : Field) → slice_get all i ≡ Some f →
    form_size a f.form ≡ form_size b f.form
each_same a b h [] e i f at = let never : ⊥ = cc in absurd never
each_same a b h (x ∷ xs) e zero f at =
    let here = form_grows a b h x.form in
    let rest = sum_grows a b h xs in
    let same : form_size a x.form ≡ form_size b x.form =
    omega (arith, e, here, rest, sum_by-cons (λ (f : Field). form_size a f.form) x xs, sum_by-cons (λ (f : Field). form_size b f.form) x xs) in
    subst (λ (y : Field). form_size a y.form ≡ form_size b y.form) (same_Some x f at) same
each_same a b h (x ∷ xs) e (suc i) f at =
    let here = form_grows a b h x.form in
    let rest = sum_grows a b h xs in
    let same : sum_of a xs ≡ sum_of b xs =
    omega (arith, e, here, rest, sum_by-cons (λ (f : Field). form_size a f.form) x xs, sum_by-cons (λ (f : Field). form_size b f.form) x xs) in
    each_same a b h xs same i f at

-- more levels take no fewer bytes
level_grows : (program : Program) (depth class : ℕ) → data_within program depth class ≤ data_within program (suc depth) class
level_grows program zero class = omega arith
level_grows program (suc depth) class = sum_grows (data_within program depth) (data_within program (suc depth)) (level_grows program depth) (fields program class)

pub levels_grow : (program : Program) (more depth all class : ℕ) → more + depth ≡ all → data_within program depth class ≤ data_within program all class
levels_grow program zero depth all class e =
    let same : depth ≡ all = omega (arith, e) in
    subst (λ (n : ℕ). data_within program depth class ≤ data_within program n class) same (omega arith)
levels_grow program (suc more) depth all class e =
    let below = levels_grow program more depth (more + depth) class refl in
    let last = level_grows program (more + depth) class in
    let same : suc (more + depth) ≡ all = omega (arith, e) in
    subst (λ (n : ℕ). data_within program depth class ≤ data_within program n class) same (omega (arith, below, last))

-- ---- objects

module _ (program : Program) (typed : Typed program) (sums : (class : ℕ) → data_size program class ≡ sum_by (field_width program) (fields program class)) where
  abbrev levels : ℕ
  levels = length program.schema.classes

  -- so many levels hold all objects inside one of a class
  abbrev IsFull : ℕ → ℕ → Type 0
  IsFull depth class = data_within program depth class ≡ data_size program class

  abbrev AreRead : ℕ → Type 0
  AreRead depth =
      (class : ℕ) (path : Path) (behind : List ℕ) → IsFull depth class →
      object_held (image_of program) depth class path (object_bytes program depth class ++ behind) ≡ object_begun program depth class path

  fields_read : (depth : ℕ) → AreRead depth → (path : Path) (behind : List ℕ) (all : List Field) (offset : ℕ → ℕ) → All (IsField program) all →
      ((i : ℕ) (f : Field) → slice_get all i ≡ Some f → form_size (data_within program depth) f.form ≡ field_width program f) →
      ((i : ℕ) → offset i ≡ sum_by (field_width program) (take i all)) →
      fields_held (object_held (image_of program) depth) path (fields_placed offset all) (fields_bytes (object_bytes program depth) all ++ behind)
      ≡ fields_begun (object_begun program depth) path all
  fields_read depth again path behind all offset known same at_offset =
      fields_from (object_held (image_of program) depth) (object_begun program depth) path bytes offset 0 all
      (λ i f at. subst (λ (k : ℕ). field_held (object_held (image_of program) depth) (path ++ k ∷ []) f.form bytes (offset k) ≡ begun (object_begun program depth) (path ++ k ∷ []) f.form f.initial)
      (let e : i ≡ 0 + i = omega arith in e) (one i f at))
    where
      first : ℕ → List ℕ
      first = object_bytes program depth

      bytes : List ℕ
      bytes = fields_bytes first all ++ behind

      is_read : (i : ℕ) (f : Field) (behind : List ℕ) (g : FieldForm) → IsForm program f g → form_size (data_within program depth) g ≡ form_size (data_size program) g →
          IsRead (object_held (image_of program) depth) first (object_begun program depth) (path ++ i ∷ []) behind bytes (offset i) g
      is_read i f behind (form.Prim p) is full = tt
      is_read i f behind (form.Str n) is full = tt
      is_read i f behind (form.Buf n) is full = omega (arith, is.1)
      is_read i f behind (form.Array p n) is full = tt
      is_read i f behind (form.Object class) is full = again class.0 (path ++ i ∷ []) behind full

      one : (i : ℕ) (f : Field) → slice_get all i ≡ Some f →
          field_held (object_held (image_of program) depth) (path ++ i ∷ []) f.form bytes (offset i) ≡ begun (object_begun program depth) (path ++ i ∷ []) f.form f.initial
      one i f at =
          let is : IsField program f = all_at (IsField program) all i f at known in
          let stands = first_bytes_stand program typed depth behind all offset known same at_offset i f at in
          field_back (object_held (image_of program) depth) first (object_begun program depth) (path ++ i ∷ []) stands.0 bytes (offset i) f.form f.initial is.initial
          (is_read i f stands.0 f.form is.form (same i f at)) stands.1

  objects_read : (depth : ℕ) → depth ≤ levels → AreRead depth
  objects_read zero h class path behind full = refl
  objects_read (suc depth) h class path behind full =
      let bytes : List ℕ = object_bytes program (suc depth) class ++ behind in
      let less : depth ≤ levels = omega (arith, h) in
      let grows : (t : ℕ) → data_within program depth t ≤ data_size program t = λ t. levels_grow program (levels - depth) depth levels t (omega (arith, less)) in
      ap (λ (made : List ImageField). fields_held (object_held (image_of program) depth) path made bytes) (made_fields program typed class)
      ∙ fields_read depth (objects_read depth less) path behind (fields program class) (offset_of program class)
      (of_fields (IsField program) program typed.fields class)
      (each_same (data_within program depth) (data_size program) grows (fields program class) (full ∙ sums class))
      (λ i. refl)

  -- ---- the first contents

  as_many_classes : length (image_of program).classes ≡ levels
  as_many_classes =
      length-map (enumerate_from 0 program.schema.classes) (λ (at : ℕ × ClassInfo). image_class program at.0 at.1) ∙ length-enumerate_from 0 program.schema.classes

  initial_is : (class : ℕ) → class < levels → machine.initial (image_of program) class ≡ language.initial program class
  initial_is class h =
      ap (λ (n : ℕ). object_held (image_of program) n class [] (machine.class_bytes (image_of program) class)) as_many_classes
      ∙ ap (object_held (image_of program) levels class []) (class_bytes_are ∙ sym (append-nil (first_bytes program class)))
      ∙ objects_read levels (omega arith) class [] [] refl
    where
      class_bytes_are : machine.class_bytes (image_of program) class ≡ first_bytes program class
      class_bytes_are = elim (slice_get_cases program.schema.classes class).1 [
        | inl (info, within, there, same) ↦ ap (λ (o : Option ImageClass). option_map_or (λ c. c.contents) o []) (class_at program class info there)
        | inr (past, none) ↦ absurd (omega (arith, past, h))
      ]

  pub initial_statics_are : machine.initial_statics (image_of program) ≡ language.initial_statics program
  initial_statics_are =
      ap (λ (n : ℕ). fields_held (object_held (image_of program) n) [] (image_of program).static_fields (image_of program).static_bytes) as_many_classes
      ∙ ap (fields_held (object_held (image_of program) levels) [] (image_of program).static_fields) (sym (append-nil (static_bytes program)))
      ∙ fields_read levels (objects_read levels (omega arith)) [] [] program.statics (static_offset_of program) typed.statics (λ i f at. refl) (λ i. refl)

  -- ---- beyond the classes

  held_beyond : (depth class : ℕ) (path : Path) (bytes : List ℕ) → levels ≤ class → object_held (image_of program) depth class path bytes ≡ []
  held_beyond zero class path bytes h = refl
  held_beyond (suc depth) class path bytes h =
      ap (λ (made : List ImageField). fields_held (object_held (image_of program) depth) path made bytes)
      (fields_past program class (slice_get_past program.schema.classes class h))

  begun_beyond : (depth class : ℕ) (path : Path) → levels ≤ class → object_begun program depth class path ≡ []
  begun_beyond zero class path h = refl
  begun_beyond (suc depth) class path h = ap (fields_begun (object_begun program depth) path) (fields_beyond program typed class h)

  pub initial_everywhere : (class : ℕ) → machine.initial (image_of program) class ≡ language.initial program class
  initial_everywhere class = elim (slice_get_cases program.schema.classes class).1 [
    | inl (info, within, there, same) ↦ initial_is class within
    | inr (past, none) ↦
        held_beyond (length (image_of program).classes) class [] (machine.class_bytes (image_of program) class) past ∙ sym (begun_beyond levels class [] past)
  ]
