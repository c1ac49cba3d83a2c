-- A reference in memory is found at the path whose part it is to.
use Rattle.std.proofs.Common.{◌≡◌, ◌<◌, ◌≤◌, ◌+◌, ◌-◌, ◌*◌, ◌==◌, ◌&&◌, ◌⊎◌, inl, inr, nat_le, ℕ, zero, suc, Bool, true, false, if◌then◌else◌, List, [], ◌∷◌, length, Option, Some, None, refl, sym, ap, subst, ◌∙◌, arith}
use Rattle.std.specs.Prelude.{slice_get}
use Rattle.std.specs.Option.{option_and_then, option_map}
use Rattle.std.proofs.lemmas.Bool.{and_from, eqb-true}
use Rattle.std.proofs.lemmas.Bool.Decides.{nat_tests}
use Rattle.std.proofs.lemmas.Option.{slice_get_within}
use Rattle.sed_value.specs.SlotType.{width_of}
use Rattle.sed_typed.specs.declared.number.TypeNo.{TypeNo}
use Rattle.sed_typed.specs.declared.program.FieldForm.{FieldForm}
use Rattle.sed_typed.specs.declared.program.FieldForm.TheVariants as form
use Rattle.sed_typed.specs.Contents.{Path}
use Rattle.sed_engine.specs.Values.{Base, Component, Statics, Spot}
use Rattle.scode_image.specs.declared.image.Image.{Image}
use Rattle.scode_image.specs.declared.image.ImageClass.{ImageClass}
use Rattle.scode_image.specs.declared.image.ImageField.{ImageField}
use Rattle.scode_code.specs.Parts.{Part, Reference, field_part, or_next, part_from, part_in, part_of, path_among, path_inside, path_to, ref_of}
use Rattle.scode_code.specs.Tables.{class_fields, form_of, is_field}
use Rattle.scode_code.proofs.Parts.{ref_leads}
use Rattle.scode_whole.proofs.Rule.{Agrees}
use Rattle.scode_whole.proofs.Truths.{no_truth, no_value, same_value, through}
use Rattle.scode_state.proofs.Rows.{form_by, static_row}
use Rattle.scode_state.proofs.Apart.{element_of, field_part_of, path_lies}
use Rattle.scode_state.proofs.Blocks.{block_path}
use Rattle.scode_whole.proofs.Nesting.{Nested, all_nested, equal}
use Rattle.scode_state.proofs.Paths.{no_fields}

-- ---- forms

abbrev is_object : FieldForm → Bool
is_object (form.Object t) = true
is_object (form.Prim p) = false
is_object (form.Str n) = false
is_object (form.Buf n) = false
is_object (form.Array p n) = false

abbrev is_str : FieldForm → Bool
is_str (form.Str n) = true
is_str (form.Object t) = false
is_str (form.Prim p) = false
is_str (form.Buf n) = false
is_str (form.Array p n) = false

-- the class of an object, and the size of a Str
abbrev number_in : FieldForm → ℕ
number_in (form.Object t) = t.0
number_in (form.Str n) = n
number_in (form.Prim p) = 0
number_in (form.Buf n) = 0
number_in (form.Array p n) = 0

object_number : (f : ImageField) → is_object (form_of f) ≡ true → ((f.form == 8) ≡ true) × (number_in (form_of f) ≡ f.n)
object_number f h = by_number (nat_le f.form 5) (f.form == 6) (f.form == 7) (f.form == 8) h
  where
    by_number : (a b c d : Bool) → is_object (form_by a b c d f) ≡ true
        → (d ≡ true) × (number_in (form_by a b c d f) ≡ f.n)
    by_number true b c d h = no_truth h
    by_number false true c d h = no_truth h
    by_number false false true d h = no_truth h
    by_number false false false true h = (refl, refl)
    by_number false false false false h = no_truth h

str_number : (f : ImageField) → is_str (form_of f) ≡ true → ((f.form == 6) ≡ true) × (number_in (form_of f) ≡ f.n)
str_number f h = by_number (nat_le f.form 5) (f.form == 6) (f.form == 7) (f.form == 8) h
  where
    by_number : (a b c d : Bool) → is_str (form_by a b c d f) ≡ true
        → (b ≡ true) × (number_in (form_by a b c d f) ≡ f.n)
    by_number true b c d h = no_truth h
    by_number false true c d h = (refl, refl)
    by_number false false true d h = no_truth h
    by_number false false false true h = no_truth h
    by_number false false false false h = no_truth h

-- a reference is to an object or to a Str
abbrev pub IsTo : ImageField → Type 0
IsTo to = (to.form ≡ 8) ⊎ (to.form ≡ 6)

form_eight : (to : ImageField) → to.form ≡ 8 → form_of to ≡ form.Object (record { 0 = to.n })
form_eight to e = ap (λ (k : ℕ). let x : ImageField = record { offset = to.offset; form = k; n = to.n } in form_of x) e

form_six : (to : ImageField) → to.form ≡ 6 → form_of to ≡ form.Str to.n
form_six to e = ap (λ (k : ℕ). let x : ImageField = record { offset = to.offset; form = k; n = to.n } in form_of x) e

-- a field of the form that a reference is to is of its number and n
same_form : (to f : ImageField) → IsTo to → form_of f ≡ form_of to → (f.form ≡ to.form) × (f.n ≡ to.n)
same_form to f (inl e) same =
    let is : form_of f ≡ form.Object (record { 0 = to.n }) = same ∙ form_eight to e in
    let p = object_number f (ap is_object is) in
    (eqb-true f.form 8 p.0 ∙ sym e, sym p.1 ∙ ap number_in is)
same_form to f (inr e) same =
    let is : form_of f ≡ form.Str to.n = same ∙ form_six to e in
    let p = str_number f (ap is_str is) in
    (eqb-true f.form 6 p.0 ∙ sym e, sym p.1 ∙ ap number_in is)

field_is : (to f : ImageField) → IsTo to → form_of f ≡ form_of to → f.offset ≡ to.offset
    → is_field to.form to.offset to.n f ≡ true
field_is to f ref same at =
    let p = same_form to f ref same in
    and_from ((f.form == to.form) && (f.offset == to.offset)) (f.n == to.n)
    (and_from (f.form == to.form) (f.offset == to.offset) (equal f.form to.form p.0) (equal f.offset to.offset at))
    (equal f.n to.n p.1)

-- ---- something is found

abbrev IsFound : Option Path → Type 0
IsFound o = (p : Path) × (o ≡ Some p)

next_found : (number : ℕ) (o next : Option Path) → IsFound next → IsFound (or_next number o next)
next_found number None next h = h
next_found number (Some p) next h = (number ∷ p, refl)

inner_found : (number : ℕ) (o next : Option Path) → IsFound o → IsFound (or_next number o next)
inner_found number None next h = no_value h.0 h.1
inner_found number (Some p) next h = (number ∷ p, refl)

abbrev inside_at : (ℕ → ImageField → Option Path) → ImageField → ImageField → Option Path
inside_at inside to f =
    if (f.form == 8) && nat_le f.offset to.offset then inside f.n (record to { offset = to.offset - f.offset }) else None

-- a field is the one asked for, or it is found inside it
abbrev IsHere : (ℕ → ImageField → Option Path) → ImageField → ImageField → Type 0
IsHere inside to f = (is_field to.form to.offset to.n f ≡ true) ⊎ IsFound (inside_at inside to f)

among_found : (inside : ℕ → ImageField → Option Path) (to : ImageField) (number : ℕ) (fs : List ImageField) (i : ℕ)
    (f : ImageField) → slice_get fs i ≡ Some f → IsHere inside to f → IsFound (path_among inside to number fs)
among_found inside to number [] i f e h = no_value f e
among_found inside to number (g ∷ gs) zero f e h =
    by_test (is_field to.form to.offset to.n g) refl (subst (IsHere inside to) (sym (same_value g f e)) h)
  where
    by_test : (b : Bool) → is_field to.form to.offset to.n g ≡ b → IsHere inside to g
        → IsFound (if b then Some (number ∷ []) else or_next number (inside_at inside to g)
        (path_among inside to (suc number) gs))
    by_test true is h = (number ∷ [], refl)
    by_test false is (inl h) = no_truth (sym is ∙ h)
    by_test false is (inr h) = inner_found number (inside_at inside to g) (path_among inside to (suc number) gs) h
among_found inside to number (g ∷ gs) (suc i) f e h =
    by_test (is_field to.form to.offset to.n g) (among_found inside to (suc number) gs i f e h)
  where
    by_test : (b : Bool) → IsFound (path_among inside to (suc number) gs)
        → IsFound (if b then Some (number ∷ []) else or_next number (inside_at inside to g)
        (path_among inside to (suc number) gs))
    by_test true more = (number ∷ [], refl)
    by_test false more = next_found number (inside_at inside to g) (path_among inside to (suc number) gs) more

module _ (image : Image) (agree : Agrees image) where
  abbrev Finds : ℕ → Type 0
  Finds d = (class o : ℕ) → Nested image d class → (i : ℕ) (path : Path) (to : ImageField) → IsTo to
      → part_from image (i ∷ path) (o, form.Object (record { 0 = class })) ≡ Some (o + to.offset, form_of to)
      → IsFound (path_inside image d class to)

  -- what stands at a path from a field is found in it
  here : (d o : ℕ) → Finds d → (f : ImageField) → ((f.form == 8) ≡ true → Nested image d f.n) → (path : Path)
      (to : ImageField) → IsTo to → part_from image path (o + f.offset, form_of f) ≡ Some (o + to.offset, form_of to)
      → IsHere (path_inside image d) to f
  here d o finds f deep [] to ref e =
      let same : ◌≡◌ {A = Part} (o + f.offset, form_of f) (o + to.offset, form_of to) =
      same_value (let a : Part = (o + f.offset, form_of f) in a) (let b : Part = (o + to.offset, form_of to) in b) e in
      let at : o + f.offset ≡ o + to.offset = ap (λ (p : Part). p.0) same in
      inl (field_is to f ref (ap (λ (p : Part). p.1) same) (omega (arith, at)))
  here d o finds f deep (j ∷ path) to ref e = by_form (form_of f) refl e
    where
      by_form : (g : FieldForm) → form_of f ≡ g
          → part_from image (j ∷ path) (o + f.offset, g) ≡ Some (o + to.offset, form_of to)
          → IsHere (path_inside image d) to f
      by_form (form.Prim p) is e = no_value (let b : Part = (o + to.offset, form_of to) in b) e
      by_form (form.Str n) is e = no_value (let b : Part = (o + to.offset, form_of to) in b) e
      by_form (form.Buf n) is e = no_value (let b : Part = (o + to.offset, form_of to) in b) e
      by_form (form.Array p n) is e =
          let x : Part = (o + to.offset, form_of to) in
          let mid = through (part_from image path) (part_in image (o + f.offset, form.Array p n) j) x e in
          let at = element_of (o + f.offset) p n j mid.0 mid.1 in
          element path (subst (λ (b : Part). part_from image path b ≡ Some (let x : Part = (o + to.offset, form_of to) in x)) (sym at.is) mid.2)
        where
          never : IsTo to → (q : FieldForm) → q ≡ form_of to → is_object q ≡ false → is_str q ≡ false
              → IsHere (path_inside image d) to f
          never (inl k) q same a b = no_truth (sym a ∙ ap is_object (same ∙ form_eight to k))
          never (inr k) q same a b = no_truth (sym b ∙ ap is_str (same ∙ form_six to k))

          element : (rest : Path)
              → part_from image rest (o + f.offset + j * width_of p, form.Prim p)
              ≡ Some (let x : Part = (o + to.offset, form_of to) in x)
              → IsHere (path_inside image d) to f
          element [] e =
              never ref (form.Prim p)
              (ap (λ (b : Part). b.1) (same_value (let a : Part = (o + f.offset + j * width_of p, form.Prim p) in a)
              (let x : Part = (o + to.offset, form_of to) in x) e)) refl refl
          element (k ∷ rest) e = no_value (let x : Part = (o + to.offset, form_of to) in x) e
      by_form (form.Object t) is e =
          let p = object_number f (ap is_object is) in
          let class : f.n ≡ t.0 = sym p.1 ∙ ap number_in is in
          let lies = path_lies image agree (j ∷ path) (o + f.offset, form.Object t) (o + to.offset, form_of to) e in
          let low : o + f.offset ≤ o + to.offset = lies.begins in
          let below : f.offset ≤ to.offset = omega (arith, low) in
          let test : nat_le f.offset to.offset ≡ true = grind (arith, nat_tests, below) in
          let moved : ImageField = record to { offset = to.offset - f.offset } in
          let there : part_from image (j ∷ path) (o + f.offset, form.Object (record { 0 = f.n }))
          ≡ Some (o + f.offset + (to.offset - f.offset), form_of to) =
          ap (λ (n : ℕ). part_from image (j ∷ path) (o + f.offset, form.Object (record { 0 = n }))) class ∙ e
          ∙ ap (λ (n : ℕ). let b : Option Part = Some (n, form_of to) in b)
          (let sum : o + to.offset ≡ o + f.offset + (to.offset - f.offset) = omega (arith, below) in sum) in
          let inner = finds f.n (o + f.offset) (deep p.0) j path moved ref there in
          inr (
            inner.0,
            ap (λ (b : Bool). if b then path_inside image d f.n (let m : ImageField = record to { offset = to.offset - f.offset } in m) else None)
                (and_from (f.form == 8) (nat_le f.offset to.offset) p.0 test) ∙ inner.1,
          )

  finds : (d : ℕ) → Finds d
  finds zero class o deep i path to ref e = absurd deep
  finds (suc d) class o deep i path to ref e =
      let x : Part = (o + to.offset, form_of to) in
      let mid = through (part_from image path) (part_in image (o, form.Object (record { 0 = class })) i) x e in
      let f = field_part_of o (class_fields image class) i mid.0 mid.1 in
      among_found (path_inside image d) to 0 (class_fields image class) i f.field f.stands
      (here d o (finds d) f.field
      (λ object. deep f.field.n (record { place = i; field = f.field; stands = f.stands; object = object; is = refl }))
      path to ref
      (subst (λ (b : Part). part_from image path b ≡ Some (let x : Part = (o + to.offset, form_of to) in x)) (sym f.is) mid.2))

  -- ---- in a block

  root_is : (class : ℕ) (to : ImageField) → IsTo to
      → ◌≡◌ {A = Option Part} (Some (0, form.Object (record { 0 = class }))) (Some (to.offset, form_of to))
      → is_field 8 0 class to ≡ true
  root_is class to ref e =
      let same : ◌≡◌ {A = Part} (0, form.Object (record { 0 = class })) (to.offset, form_of to) =
      same_value (let a : Part = (0, form.Object (record { 0 = class })) in a)
      (let b : Part = (to.offset, form_of to) in b) e in
      let of : form.Object (record { 0 = class }) ≡ form_of to = ap (λ (p : Part). p.1) same in
      let p = object_number to (sym (ap is_object of)) in
      let n : to.n ≡ class = sym p.1 ∙ sym (ap number_in of) in
      and_from ((to.form == 8) && (to.offset == 0)) (to.n == class)
      (and_from (to.form == 8) (to.offset == 0) p.0 (equal to.offset 0 (sym (ap (λ (p : Part). p.0) same))))
      (equal to.n class n)

  or_root : (b : Bool) (o : Option Path) → IsFound o → IsFound (if b then Some [] else o)
  or_root true o h = ([], refl)
  or_root false o h = h

  from_root : (b : Bool) (o : Option Path) → b ≡ true → IsFound (if b then Some [] else o)
  from_root true o h = ([], refl)
  from_root false o h = no_truth h

  some_path : (class : ℕ) (base : Base) (path : Path) (to : ImageField) → IsTo to
      → part_of image class base path ≡ Some (to.offset, form_of to) → IsFound (path_to image class base to)
  some_path class Component [] to ref e =
      from_root (is_field 8 0 class to) (path_inside image (length image.classes) class to) (root_is class to ref e)
  some_path class Component (i ∷ path) to ref e =
      or_root (is_field 8 0 class to) (path_inside image (length image.classes) class to)
      (by_class (slice_get image.classes class) refl)
    where
      by_class : (c : Option ImageClass) → slice_get image.classes class ≡ c
          → IsFound (path_inside image (length image.classes) class to)
      by_class None at =
          no_value (let b : Part = (to.offset, form_of to) in b)
          (sym (ap (λ (all : List ImageField). option_and_then (part_from image path)
          (option_map (field_part 0) (slice_get all i))) (no_fields image class at)) ∙ e)
      by_class (Some c) at =
          finds (length image.classes) class 0 (all_nested image agree class (slice_get_within image.classes class c at))
          i path to ref
          (e ∙ ap (λ (n : ℕ). let b : Option Part = Some (n, form_of to) in b)
          (let none : to.offset ≡ 0 + to.offset = omega arith in none))
  some_path class Statics [] to ref e =
      from_root (is_field 8 0 0xffff to)
      (path_among (path_inside image (length image.classes)) to 0 image.static_fields) (root_is 0xffff to ref e)
  some_path class Statics (i ∷ path) to ref e =
      let x : Part = (to.offset, form_of to) in
      let mid = through (part_from image path) (option_map (field_part 0) (slice_get image.static_fields i)) x e in
      let f = field_part_of 0 image.static_fields i mid.0 mid.1 in
      or_root (is_field 8 0 0xffff to)
      (path_among (path_inside image (length image.classes)) to 0 image.static_fields)
      (among_found (path_inside image (length image.classes)) to 0 image.static_fields i f.field f.stands
      (here (length image.classes) 0 (finds (length image.classes)) f.field
      (λ object. all_nested image agree f.field.n ((static_row image agree).known i f.field f.stands object))
      path to ref
      (subst (λ (b : Part). part_from image path b ≡ Some (let x : Part = (to.offset, form_of to) in x)) (sym f.is) mid.2
      ∙ ap (λ (n : ℕ). let b : Option Part = Some (n, form_of to) in b)
      (let none : to.offset ≡ 0 + to.offset = omega arith in none))))

  -- it is this path
  pub ref_found : (class : ℕ) (base : Base) (path : Path) (to : ImageField) → IsTo to
      → part_of image class base path ≡ Some (to.offset, form_of to)
      → ref_of image class (record { base = base; to = to }) ≡ Some (record { base = base; path = path })
  ref_found class base path to ref e =
      let found = some_path class base path to ref e in
      let r : Reference = record { base = base; to = to } in
      let spot : Spot = record { base = base; path = found.0 } in
      let is : ref_of image class r ≡ Some spot =
      ap (option_map (λ (p : Path). let s : Spot = record { base = base; path = p } in s)) found.1 in
      let leads = (ref_leads image class r spot is).1 in
      let one : found.0 ≡ path =
      block_path image agree class base found.0 path (to.offset, form_of to) leads e in
      is ∙ ap (λ (p : Path). let s : Option Spot = Some (record { base = base; path = p }) in s) one

pub spot_found : (image : Image) (agree : Agrees image) (class : ℕ) (r : Reference) (spot : Spot) → IsTo r.to
    → spot.base ≡ r.base → part_of image class r.base spot.path ≡ Some (r.to.offset, form_of r.to)
    → ref_of image class r ≡ Some spot
spot_found image agree class r spot ref base e =
    ref_found image agree class r.base spot.path r.to ref e
    ∙ ap (λ (b : Base). let s : Option Spot = Some (record { base = b; path = spot.path }) in s) (sym base)
