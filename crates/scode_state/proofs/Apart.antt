-- Parts of an object: what stands at a path lies within what it stands in, and parts at two paths lie apart, unless one
-- stands inside the other.
use Rattle.std.proofs.Common.{◌≡◌, ◌≢◌, ◌<◌, ◌≤◌, ◌+◌, ◌*◌, ◌⊎◌, inl, inr, nat_lt, ℕ, zero, suc, Bool, true, false, if◌then◌else◌, List, [], ◌∷◌, ◌++◌, length, Option, Some, None, refl, sym, ap, subst, ◌∙◌, arith}
use Rattle.std.specs.Prelude.{slice_get}
use Rattle.std.specs.Option.{option_and_then, option_map}
use Rattle.std.proofs.lemmas.Bool.{cases_eq, ltb-true}
use Rattle.sed_value.specs.declared.slot_type.Primitive.{Primitive}
use Rattle.sed_value.specs.declared.slot_type.Primitive.TheVariants as prim
use Rattle.sed_value.specs.SlotType.{width_of}
use Rattle.sed_typed.specs.declared.program.FieldForm.{FieldForm}
use Rattle.sed_typed.specs.declared.program.FieldForm.TheVariants as form
use Rattle.sed_typed.specs.Contents.{Path}
use Rattle.scode_image.specs.declared.image.Image.{Image}
use Rattle.scode_image.specs.declared.image.ImageField.{ImageField}
use Rattle.scode_code.specs.Contents.{data_size}
use Rattle.scode_code.specs.Parts.{Part, field_part, part_from, part_in}
use Rattle.scode_code.specs.Tables.{class_fields, form_of}
use Rattle.scode_whole.proofs.Rule.{Agrees}
use Rattle.scode_whole.proofs.Truths.{no_value, same_value, through}
use Rattle.scode_state.specs.Values.{part_width}
use Rattle.scode_state.proofs.Rows.{AreApart, Row, class_row}

-- ---- a field among some

-- the field behind a part's offset
pub record FieldPart (offset : ℕ) (fields : List ImageField) (i : ℕ) (part : Part) : Type 0 where
  pub field : ImageField
  pub stands : slice_get fields i ≡ Some field
  pub is : field_part offset field ≡ part

pub field_part_of : (offset : ℕ) (fields : List ImageField) (i : ℕ) (part : Part)
    → option_map (field_part offset) (slice_get fields i) ≡ Some part → FieldPart offset fields i part
field_part_of offset fields i part e = by_field (slice_get fields i) refl e
  where
    by_field : (o : Option ImageField) → slice_get fields i ≡ o → option_map (field_part offset) o ≡ Some part
        → FieldPart offset fields i part
    by_field None at e = no_value part e
    by_field (Some f) at e = record { field = f; stands = at; is = same_value (field_part offset f) part e }

-- ---- within

-- the second lies in the bytes of the first
pub record LiesIn (image : Image) (outer inner : Part) : Type 0 where
  pub begins : outer.0 ≤ inner.0
  pub ends : inner.0 + part_width image inner.1 ≤ outer.0 + part_width image outer.1

-- and in so many bytes from an offset on
pub record LiesBetween (image : Image) (offset size : ℕ) (part : Part) : Type 0 where
  pub begins : offset ≤ part.0
  pub ends : part.0 + part_width image part.1 ≤ offset + size

abbrev PartsApart : Image → Part → Part → Type 0
PartsApart image a b = AreApart a.0 (part_width image a.1) b.0 (part_width image b.1)

in_itself : (image : Image) (part : Part) → LiesIn image part part
in_itself image part = record { begins = omega arith; ends = omega arith }

in_further : (image : Image) (a b c : Part) → LiesIn image a b → LiesIn image b c → LiesIn image a c
in_further image a b c x y =
    let x0 = x.begins in
    let x1 = x.ends in
    let y0 = y.begins in
    let y1 = y.ends in
    record { begins = omega (arith, x0, y0); ends = omega (arith, x1, y1) }

-- parts inside others that are apart are apart
pub inside_apart : (image : Image) (a b c d : Part) → PartsApart image a b → LiesIn image a c → LiesIn image b d
    → PartsApart image c d
inside_apart image a b c d (inl h) x y =
    let x1 = x.ends in
    let y0 = y.begins in
    inl (omega (arith, h, x1, y0))
inside_apart image a b c d (inr h) x y =
    let x0 = x.begins in
    let y1 = y.ends in
    inr (omega (arith, h, x0, y1))

pub field_lies : (image : Image) (size : ℕ) (fields : List ImageField) → Row image size fields → (offset i : ℕ)
    (part : Part) → FieldPart offset fields i part → LiesBetween image offset size part
field_lies image size fields row offset i part f =
    subst (LiesBetween image offset size) f.is
    (let low = row.within i f.field f.stands in record { begins = omega arith; ends = omega (arith, low) })

pub fields_apart : (image : Image) (size : ℕ) (fields : List ImageField) → Row image size fields → (offset i j : ℕ)
    (a b : Part) → FieldPart offset fields i a → FieldPart offset fields j b → i ≢ j → PartsApart image a b
fields_apart image size fields row offset i j a b f g ne =
    subst (λ (x : Part). PartsApart image x b) f.is
    (subst (λ (y : Part). PartsApart image (field_part offset f.field) y) g.is
    (further (row.apart i j f.field g.field f.stands g.stands ne)))
  where
    further : AreApart f.field.offset (part_width image (form_of f.field)) g.field.offset
        (part_width image (form_of g.field))
        → PartsApart image (field_part offset f.field) (field_part offset g.field)
    further (inl h) = inl (omega (arith, h))
    further (inr h) = inr (omega (arith, h))

-- ---- elements

element_ends : (p : Primitive) (i n : ℕ) → i < n → i * width_of p + width_of p ≤ n * width_of p
element_ends prim.Bool i n h = omega (arith, h)
element_ends prim.Byte i n h = omega (arith, h)
element_ends prim.Short i n h = omega (arith, h)
element_ends prim.Int i n h = omega (arith, h)
element_ends prim.Long i n h = omega (arith, h)

elements_apart : (p : Primitive) (offset i j : ℕ) → i ≢ j
    → AreApart (offset + i * width_of p) (width_of p) (offset + j * width_of p) (width_of p)
elements_apart p offset i j ne = by_order (which i j)
  where
    which : (i j : ℕ) → (i ≡ j) ⊎ ((i < j) ⊎ (j < i))
    which zero zero = inl refl
    which zero (suc j) = inr (inl (omega arith))
    which (suc i) zero = inr (inr (omega arith))
    which (suc i) (suc j) = more (which i j)
      where
        more : (i ≡ j) ⊎ ((i < j) ⊎ (j < i)) → (suc i ≡ suc j) ⊎ ((suc i < suc j) ⊎ (suc j < suc i))
        more (inl e) = inl (ap suc e)
        more (inr (inl h)) = inr (inl (omega (arith, h)))
        more (inr (inr h)) = inr (inr (omega (arith, h)))

    by_order : (i ≡ j) ⊎ ((i < j) ⊎ (j < i))
        → AreApart (offset + i * width_of p) (width_of p) (offset + j * width_of p) (width_of p)
    by_order (inl e) = absurd (ne e)
    by_order (inr (inl h)) = let low = element_ends p i j h in inl (omega (arith, low))
    by_order (inr (inr h)) = let low = element_ends p j i h in inr (omega (arith, low))

pub record Element (offset : ℕ) (p : Primitive) (n i : ℕ) (part : Part) : Type 0 where
  pub there : i < n
  pub is : (let e : Part = (offset + i * width_of p, form.Prim p) in e) ≡ part

pub element_of : (offset : ℕ) (p : Primitive) (n i : ℕ) (part : Part)
    → (if nat_lt i n then Some (let e : Part = (offset + i * width_of p, form.Prim p) in e) else None) ≡ Some part
    → Element offset p n i part
element_of offset p n i part e = by_test (nat_lt i n) refl e
  where
    by_test : (b : Bool) → nat_lt i n ≡ b
        → (if b then Some (let e : Part = (offset + i * width_of p, form.Prim p) in e) else None) ≡ Some part
        → Element offset p n i part
    by_test true less e =
        record {
          there = ltb-true i n less;
          is = same_value (let e : Part = (offset + i * width_of p, form.Prim p) in e) part e;
        }
    by_test false less e = no_value part e

-- ---- one step down

module _ (image : Image) (agree : Agrees image) where
  pub step_lies : (outer inner : Part) (i : ℕ) → part_in image outer i ≡ Some inner → LiesIn image outer inner
  step_lies (offset, form.Prim p) inner i e = no_value inner e
  step_lies (offset, form.Str n) inner i e = no_value inner e
  step_lies (offset, form.Buf n) inner i e = no_value inner e
  step_lies (offset, form.Array p n) inner i e =
      let at = element_of offset p n i inner e in
      subst (LiesIn image (offset, form.Array p n)) at.is
      (let low = element_ends p i n at.there in record { begins = omega arith; ends = omega (arith, low) })
  step_lies (offset, form.Object t) inner i e =
      let lies = field_lies image (data_size image t.0) (class_fields image t.0) (class_row image agree t.0) offset i
      inner (field_part_of offset (class_fields image t.0) i inner e) in
      record { begins = lies.begins; ends = lies.ends }

  steps_apart : (outer a b : Part) (i j : ℕ) → part_in image outer i ≡ Some a → part_in image outer j ≡ Some b → i ≢ j
      → PartsApart image a b
  steps_apart (offset, form.Prim p) a b i j x y ne = no_value a x
  steps_apart (offset, form.Str n) a b i j x y ne = no_value a x
  steps_apart (offset, form.Buf n) a b i j x y ne = no_value a x
  steps_apart (offset, form.Array p n) a b i j x y ne =
      let one = element_of offset p n i a x in
      let other = element_of offset p n j b y in
      subst (λ (c : Part). PartsApart image c b) one.is
      (subst (λ (d : Part). PartsApart image (let e : Part = (offset + i * width_of p, form.Prim p) in e) d) other.is
      (elements_apart p offset i j ne))
  steps_apart (offset, form.Object t) a b i j x y ne =
      fields_apart image (data_size image t.0) (class_fields image t.0) (class_row image agree t.0) offset i j a b
      (field_part_of offset (class_fields image t.0) i a x) (field_part_of offset (class_fields image t.0) j b y) ne

  -- ---- along a path

  pub path_lies : (path : Path) (outer inner : Part) → part_from image path outer ≡ Some inner
      → LiesIn image outer inner
  path_lies [] outer inner e = subst (LiesIn image outer) (same_value outer inner e) (in_itself image outer)
  path_lies (i ∷ path) outer inner e =
      let mid = through (part_from image path) (part_in image outer i) inner e in
      in_further image outer mid.0 inner (step_lies outer mid.0 i mid.1) (path_lies path mid.0 inner mid.2)

-- how the parts at two paths from one part on stand to each other
pub data Stand (image : Image) (p q : Path) (a b : Part) : Type 0 where
  same : p ≡ q → Stand image p q a b
  apart : AreApart a.0 (part_width image a.1) b.0 (part_width image b.1) → Stand image p q a b
  holds : (i : ℕ) (rest : Path) → part_from image (i ∷ rest) a ≡ Some b → Stand image p q a b
  stands_in : (i : ℕ) (rest : Path) → part_from image (i ∷ rest) b ≡ Some a → Stand image p q a b

pub behind : (image : Image) (i : ℕ) (p q : Path) (a b : Part) → Stand image p q a b
    → Stand image (i ∷ p) (i ∷ q) a b
behind image i p q a b (same e) = same (ap (λ (r : Path). i ∷ r) e)
behind image i p q a b (apart h) = apart h
behind image i p q a b (holds j rest e) = holds j rest e
behind image i p q a b (stands_in j rest e) = stands_in j rest e

module _ (image : Image) (agree : Agrees image) where
  pub compare : (p q : Path) (outer a b : Part) → part_from image p outer ≡ Some a → part_from image q outer ≡ Some b
      → Stand image p q a b
  compare [] [] outer a b x y = same refl
  compare [] (j ∷ q) outer a b x y =
      holds j q (subst (λ (o : Part). part_from image (j ∷ q) o ≡ Some b) (same_value outer a x) y)
  compare (i ∷ p) [] outer a b x y =
      stands_in i p (subst (λ (o : Part). part_from image (i ∷ p) o ≡ Some a) (same_value outer b y) x)
  compare (i ∷ p) (j ∷ q) outer a b x y =
      let one = through (part_from image p) (part_in image outer i) a x in
      let other = through (part_from image q) (part_in image outer j) b y in
      by_number (λ o ao bo. compare p q o a b ao bo) one.0 one.1 one.2 other.0 other.1 other.2 (cases_eq i j)
    where
      by_number : ((o : Part) → part_from image p o ≡ Some a → part_from image q o ≡ Some b → Stand image p q a b)
          → (c : Part) → part_in image outer i ≡ Some c → part_from image p c ≡ Some a → (d : Part)
          → part_in image outer j ≡ Some d → part_from image q d ≡ Some b → (i ≡ j) ⊎ (i ≢ j)
          → Stand image (i ∷ p) (j ∷ q) a b
      by_number deeper c ci pa d dj qb (inl e) =
          let one : c ≡ d = same_value c d (sym ci ∙ ap (part_in image outer) e ∙ dj) in
          subst (λ (k : ℕ). Stand image (i ∷ p) (k ∷ q) a b) e
          (behind image i p q a b
          (deeper c pa (subst (λ (o : Part). part_from image q o ≡ Some b) (sym one) qb)))
      by_number deeper c ci pa d dj qb (inr ne) =
          apart (inside_apart image c d a b (steps_apart image agree outer c d i j ci dj ne)
          (path_lies image agree p c a pa) (path_lies image agree q d b qb))
