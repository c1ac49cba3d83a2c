-- Two paths of a block at which the same part stands are one: no class holds itself, and what stands in an object has
-- bytes.
use Rattle.std.proofs.Common.{◌≡◌, ◌≢◌, ◌<◌, ◌≤◌, ◌+◌, ◌-◌, ◌*◌, ◌==◌, ◌⊎◌, inl, inr, nat_le, nat_lt, ℕ, zero, suc, Bool, true, false, if◌then◌else◌, List, [], ◌∷◌, length, Option, Some, None, refl, sym, ap, subst, ◌∙◌, arith}
use Rattle.std.specs.Prelude.{slice_get}
use Rattle.std.specs.Option.{option_and_then, option_map, option_map_or}
use Rattle.std.proofs.lemmas.Bool.{cases_eq}
use Rattle.std.proofs.lemmas.Option.{slice_get_within}
use Rattle.sed_value.specs.declared.slot_type.Primitive.{Primitive}
use Rattle.sed_value.specs.SlotType.{width_of}
use Rattle.sed_typed.specs.declared.number.TypeNo.{TypeNo}
use Rattle.sed_typed.specs.declared.program.FieldForm.{FieldForm}
use Rattle.sed_typed.specs.declared.program.FieldForm.TheVariants as form
use Rattle.sed_typed.specs.Contents.{Path}
use Rattle.scode_image.specs.declared.image.Image.{Image}
use Rattle.scode_image.specs.declared.image.ImageClass.{ImageClass}
use Rattle.scode_image.specs.declared.image.ImageField.{ImageField}
use Rattle.scode_code.specs.Contents.{data_size}
use Rattle.scode_code.specs.Parts.{Part, field_part, part_from, part_in}
use Rattle.scode_code.specs.Tables.{class_fields, form_of, primitive_of}
use Rattle.scode_whole.proofs.Rule.{Agrees}
use Rattle.scode_whole.proofs.Truths.{no_truth, no_value, same_value, through}
use Rattle.scode_state.specs.Values.{part_width}
use Rattle.scode_state.proofs.Rows.{AreApart, class_row, form_by, primitive_wide}
use Rattle.scode_state.proofs.Apart.{Stand, apart, compare, element_of, field_part_of, holds, same, stands_in}
use Rattle.scode_whole.proofs.Nesting.{Holds, Nested, all_nested}

-- ---- objects in objects

-- an object of such a form has others at most so deep in it
abbrev pub Inner : Image → ℕ → FieldForm → Type 0
Inner image n (form.Prim p) = Unit {0}
Inner image n (form.Str m) = Unit {0}
Inner image n (form.Buf m) = Unit {0}
Inner image n (form.Array p m) = Unit {0}
Inner image n (form.Object t) = Nested image n t.0

pub inner_of : (image : Image) (n : ℕ) (f : ImageField) → ((f.form == 8) ≡ true → Nested image n f.n)
    → Inner image n (form_of f)
inner_of image n f object = by_number (nat_le f.form 5) (f.form == 6) (f.form == 7) (f.form == 8) object
  where
    by_number : (a b c d : Bool) → (d ≡ true → Nested image n f.n) → Inner image n (form_by a b c d f)
    by_number true b c d object = tt
    by_number false true c d object = tt
    by_number false false true d object = tt
    by_number false false false true object = object refl
    by_number false false false false object = tt

pub no_fields : (image : Image) (class : ℕ) → slice_get image.classes class ≡ None → class_fields image class ≡ []
no_fields image class e = ap (λ (o : Option ImageClass). option_map_or (λ (c : ImageClass). c.fields) o []) e

-- of whatever class, objects stand in one another only so deep
pub some_depth : (image : Image) → Agrees image → (class : ℕ) → (n : ℕ) × Nested image n class
some_depth image agree class = by_class (slice_get image.classes class) refl
  where
    by_class : (o : Option ImageClass) → slice_get image.classes class ≡ o → (n : ℕ) × Nested image n class
    by_class None e =
        let none : Nested image 1 class =
        λ held g. no_value g.field
        (sym (ap (λ (all : List ImageField). slice_get all g.place) (no_fields image class e)) ∙ g.stands) in
        (1, none)
    by_class (Some c) e =
        (length image.classes, all_nested image agree class (slice_get_within image.classes class c e))

module _ (image : Image) where
  step_inner : (n : ℕ) (outer inner : Part) (i : ℕ) → Inner image n outer.1 → part_in image outer i ≡ Some inner
      → Inner image (n - 1) inner.1
  step_inner n (o, form.Prim p) inner i deep e = no_value inner e
  step_inner n (o, form.Str m) inner i deep e = no_value inner e
  step_inner n (o, form.Buf m) inner i deep e = no_value inner e
  step_inner n (o, form.Array p m) inner i deep e =
      subst (λ (b : Part). Inner image (n - 1) b.1) (element_of o p m i inner e).is tt
  step_inner zero (o, form.Object t) inner i deep e = absurd deep
  step_inner (suc n) (o, form.Object t) inner i deep e =
      let f = field_part_of o (class_fields image t.0) i inner e in
      let one : n ≡ suc n - 1 = omega arith in
      subst (λ (b : Part). Inner image (suc n - 1) b.1) f.is
      (subst (λ (m : ℕ). Inner image m (form_of f.field)) one
      (inner_of image n f.field
      (λ object. deep f.field.n
      (record { place = i; field = f.field; stands = f.stands; object = object; is = refl }))))

  path_inner : (path : Path) (n : ℕ) (outer inner : Part) → Inner image n outer.1 → part_from image path outer ≡ Some inner
      → Inner image (n - length path) inner.1
  path_inner [] n outer inner deep e =
      let none : n ≡ n - 0 = omega arith in
      subst (λ (m : ℕ). Inner image m inner.1) none
      (subst (λ (b : Part). Inner image n b.1) (same_value outer inner e) deep)
  path_inner (i ∷ path) n outer inner deep e =
      let mid = through (part_from image path) (part_in image outer i) inner e in
      let less : (n - 1) - length path ≡ n - suc (length path) = omega arith in
      subst (λ (m : ℕ). Inner image m inner.1) less
      (path_inner path (n - 1) mid.0 inner (step_inner n outer mid.0 i deep mid.1) mid.2)

  -- an object stands in no object of its class
  no_loop : (k n : ℕ) (o : ℕ) (t : TypeNo) (i : ℕ) (rest : Path) → n ≤ k → Nested image n t.0
      → part_from image (i ∷ rest) (o, form.Object t) ≡ Some (o, form.Object t) → ⊥
  no_loop k zero o t i rest few deep e = deep
  no_loop zero (suc n) o t i rest few deep e = omega (arith, few)
  no_loop (suc k) (suc n) o t i rest few deep e =
      no_loop k (suc n - suc (length rest)) o t i rest (omega (arith, few))
      (path_inner (i ∷ rest) (suc n) (o, form.Object t) (o, form.Object t) deep e) e

abbrev is_array : FieldForm → Bool
is_array (form.Array p n) = true
is_array (form.Prim p) = false
is_array (form.Str n) = false
is_array (form.Buf n) = false
is_array (form.Object t) = false

module _ (image : Image) (agree : Agrees image) where
  not_in_itself : (x : Part) (i : ℕ) (rest : Path) → part_from image (i ∷ rest) x ≡ Some x → ⊥
  not_in_itself (o, form.Prim p) i rest e = no_value (let x : Part = (o, form.Prim p) in x) e
  not_in_itself (o, form.Str n) i rest e = no_value (let x : Part = (o, form.Str n) in x) e
  not_in_itself (o, form.Buf n) i rest e = no_value (let x : Part = (o, form.Buf n) in x) e
  not_in_itself (o, form.Array p n) i rest e =
      let x : Part = (o, form.Array p n) in
      let mid = through (part_from image rest) (part_in image x i) x e in
      let at = element_of o p n i mid.0 mid.1 in
      element rest (subst (λ (b : Part). part_from image rest b ≡ Some (let x : Part = (o, form.Array p n) in x)) (sym at.is) mid.2)
    where
      element : (rest : Path)
          → part_from image rest (o + i * width_of p, form.Prim p) ≡ Some (let x : Part = (o, form.Array p n) in x) → ⊥
      element [] e =
          no_truth (ap (λ (b : Part). is_array b.1)
          (same_value (let x : Part = (o + i * width_of p, form.Prim p) in x) (let x : Part = (o, form.Array p n) in x) e))
      element (j ∷ rest) e = no_value (let x : Part = (o, form.Array p n) in x) e
  not_in_itself (o, form.Object t) i rest e =
      let deep = some_depth image agree t.0 in no_loop image deep.0 deep.0 o t i rest (omega arith) deep.1 e

  -- what stands in something has bytes
  step_wide : (outer inner : Part) (i : ℕ) → part_in image outer i ≡ Some inner → 1 ≤ part_width image inner.1
  step_wide (o, form.Prim p) inner i e = no_value inner e
  step_wide (o, form.Str n) inner i e = no_value inner e
  step_wide (o, form.Buf n) inner i e = no_value inner e
  step_wide (o, form.Array p n) inner i e =
      subst (λ (b : Part). 1 ≤ part_width image b.1) (element_of o p n i inner e).is (primitive_wide p)
  step_wide (o, form.Object t) inner i e =
      let f = field_part_of o (class_fields image t.0) i inner e in
      subst (λ (b : Part). 1 ≤ part_width image b.1) f.is ((class_row image agree t.0).wide i f.field f.stands)

  pub path_wide : (path : Path) (outer inner : Part) → 1 ≤ part_width image outer.1 → part_from image path outer ≡ Some inner
      → 1 ≤ part_width image inner.1
  path_wide [] outer inner wide e = subst (λ (b : Part). 1 ≤ part_width image b.1) (same_value outer inner e) wide
  path_wide (i ∷ path) outer inner wide e =
      let mid = through (part_from image path) (part_in image outer i) inner e in
      path_wide path mid.0 inner (step_wide outer mid.0 i mid.1) mid.2

  pub not_apart : {P : Type 0} (x : Part) → 1 ≤ part_width image x.1
      → AreApart x.0 (part_width image x.1) x.0 (part_width image x.1) → P
  not_apart x wide (inl h) = absurd (omega (arith, wide, h))
  not_apart x wide (inr h) = absurd (omega (arith, wide, h))

  of_stand : (p q : Path) (x : Part) → 1 ≤ part_width image x.1 → Stand image p q x x → p ≡ q
  of_stand p q x wide (same e) = e
  of_stand p q x wide (apart h) = not_apart x wide h
  of_stand p q x wide (holds i rest e) = absurd (not_in_itself x i rest e)
  of_stand p q x wide (stands_in i rest e) = absurd (not_in_itself x i rest e)

  -- from one part on
  pub one_path : (p q : Path) (outer x : Part) → part_from image p outer ≡ Some x → part_from image q outer ≡ Some x
      → p ≡ q
  one_path [] [] outer x a b = refl
  one_path [] (j ∷ q) outer x a b =
      absurd (not_in_itself x j q
      (subst (λ (o : Part). part_from image (j ∷ q) o ≡ Some x) (same_value outer x a) b))
  one_path (i ∷ p) [] outer x a b =
      absurd (not_in_itself x i p
      (subst (λ (o : Part). part_from image (i ∷ p) o ≡ Some x) (same_value outer x b) a))
  one_path (i ∷ p) (j ∷ q) outer x a b =
      let mid = through (part_from image p) (part_in image outer i) x a in
      of_stand (i ∷ p) (j ∷ q) x (path_wide p mid.0 x (step_wide outer mid.0 i mid.1) mid.2)
      (compare image agree (i ∷ p) (j ∷ q) outer x x a b)
