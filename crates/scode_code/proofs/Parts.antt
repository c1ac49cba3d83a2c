-- The path of a reference in memory leads to the part that the reference is to.
use Rattle.std.proofs.Common.{◌≡◌, ℕ, zero, suc, ◌+◌, ◌-◌, ◌≤◌, Bool, true, false, List, [], ◌∷◌, length, refl, sym, ◌∙◌, ap, subst, arith, eqb-true, leb-true}
use Rattle.std.specs.Prelude.{◌==◌, ◌&&◌, cond, nat_le, slice_get, Option, Some, None}
use Rattle.std.specs.Option.{option_and_then, option_map}
use Rattle.std.proofs.lemmas.Bool.{and_parts}
use Rattle.sed_typed.specs.declared.program.FieldForm.{FieldForm}
use Rattle.sed_typed.specs.declared.program.FieldForm.TheVariants as form
use Rattle.sed_typed.specs.Contents.{Path}
use Rattle.sed_engine.specs.Values.{Base, Component, Statics, Spot}
use Rattle.scode_image.specs.declared.image.Image.{Image}
use Rattle.scode_image.specs.declared.image.ImageField.{ImageField}
use Rattle.scode_code.specs.Tables.{class_fields, form_of, is_field}
use Rattle.scode_code.specs.Parts.{Part, Reference, field_part, or_next, part_at, part_from, part_of, path_among, path_inside, path_to, ref_of, static_part_at}
use Rattle.scode_code.proofs.Places.{none_some, some_eq}

abbrev object : ℕ → FieldForm
object class = form.Object (record { 0 = class })

-- a field of the form, offset and n asked for is the one asked for
pub same_field : (to f : ImageField) → is_field to.form to.offset to.n f ≡ true → f ≡ to
same_field to f is =
    let p = and_parts ((f.form == to.form) && (f.offset == to.offset)) (f.n == to.n) is in
    let q = and_parts (f.form == to.form) (f.offset == to.offset) p.0 in
    ap (λ (n : ℕ). let x : ImageField = record { offset = n; form = f.form; n = f.n } in x)
    (eqb-true f.offset to.offset q.1)
    ∙ ap (λ (n : ℕ). let x : ImageField = record { offset = to.offset; form = n; n = f.n } in x)
    (eqb-true f.form to.form q.0)
    ∙ ap (λ (n : ℕ). let x : ImageField = record { offset = to.offset; form = to.form; n = n } in x)
    (eqb-true f.n to.n p.1)

object_form : (f : ImageField) → (f.form == 8) ≡ true → form_of f ≡ object f.n
object_form f is =
    let eight : f.form ≡ 8 = eqb-true f.form 8 is in
    ap (λ (k : ℕ). let x : ImageField = record { offset = f.offset; form = k; n = f.n } in form_of x) eight

-- a field behind an offset, and a path on from it
abbrev field_from : Image → ℕ → List ImageField → Path → Option Part
field_from image offset fields [] = None
field_from image offset fields (i ∷ path) =
    option_and_then (part_from image path) (option_map (field_part offset) (slice_get fields i))

-- what is found inside objects stands there
abbrev Leads : Image → (ℕ → ImageField → Option Path) → Type 0
Leads image inside = (class offset : ℕ) (to : ImageField) (path : Path) → inside class to ≡ Some path
    → part_from image path (offset, object class) ≡ Some (offset + to.offset, form_of to)

among_leads : (image : Image) (inside : ℕ → ImageField → Option Path) → Leads image inside → (to : ImageField)
    (number offset : ℕ) (fs all : List ImageField) (path : Path)
    → ((k : ℕ) → slice_get fs k ≡ slice_get all (number + k)) → path_among inside to number fs ≡ Some path
    → field_from image offset all path ≡ Some (offset + to.offset, form_of to)
among_leads image inside leads to number offset [] all path are found = absurd (none_some path found)
among_leads image inside leads to number offset (f ∷ fs) all path are found =
    by_field (is_field to.form to.offset to.n f) refl found
    (among_leads image inside leads to (suc number) offset fs all path (λ k.
    are (suc k) ∙ ap (slice_get all) (let one : number + suc k ≡ suc number + k = omega arith in one)))
  where
    here : slice_get all number ≡ Some f
    here = sym (are 0 ∙ ap (slice_get all) (let none : number + 0 ≡ number = omega arith in none))

    -- a path that goes on from this field
    through : (rest : Path) → number ∷ rest ≡ path
        → part_from image rest (offset + f.offset, form_of f) ≡ Some (offset + to.offset, form_of to)
        → field_from image offset all path ≡ Some (offset + to.offset, form_of to)
    through rest same leads_on =
        subst (λ (p : Path). field_from image offset all p ≡ Some (offset + to.offset, form_of to)) same
        (rw here leads_on)

    inner : (rest : Path) → (f.form == 8) ≡ true → nat_le f.offset to.offset ≡ true
        → inside f.n (record to { offset = to.offset - f.offset }) ≡ Some rest
        → part_from image rest (offset + f.offset, form_of f) ≡ Some (offset + to.offset, form_of to)
    inner rest eight low found =
        let below : f.offset ≤ to.offset = leb-true f.offset to.offset low in
        let sum : (offset + f.offset) + (to.offset - f.offset) ≡ offset + to.offset = omega (arith, below) in
        ap (λ (o : FieldForm). part_from image rest (offset + f.offset, o)) (object_form f eight)
        ∙ leads f.n (offset + f.offset) (record to { offset = to.offset - f.offset }) rest found
        ∙ ap (λ (n : ℕ). let x : Option Part = Some (n, form_of to) in x) sum

    by_found : (o : Option Path) → (f.form == 8) ≡ true → nat_le f.offset to.offset ≡ true
        → inside f.n (record to { offset = to.offset - f.offset }) ≡ o
        → or_next number o (path_among inside to (suc number) fs) ≡ Some path
        → (path_among inside to (suc number) fs ≡ Some path
        → field_from image offset all path ≡ Some (offset + to.offset, form_of to))
        → field_from image offset all path ≡ Some (offset + to.offset, form_of to)
    by_found None eight low none found further = further found
    by_found (Some rest) eight low there found further =
        through rest (some_eq (number ∷ rest) path found) (inner rest eight low there)

    by_inside : (b : Bool) → ((f.form == 8) && nat_le f.offset to.offset) ≡ b
        → or_next number (cond b (inside f.n (record to { offset = to.offset - f.offset })) None)
        (path_among inside to (suc number) fs) ≡ Some path
        → (path_among inside to (suc number) fs ≡ Some path
        → field_from image offset all path ≡ Some (offset + to.offset, form_of to))
        → field_from image offset all path ≡ Some (offset + to.offset, form_of to)
    by_inside false is found further = further found
    by_inside true is found further =
        let p = and_parts (f.form == 8) (nat_le f.offset to.offset) is in
        by_found (inside f.n (record to { offset = to.offset - f.offset })) p.0 p.1 refl found further

    by_field : (b : Bool) → is_field to.form to.offset to.n f ≡ b
        → cond b (Some (number ∷ [])) (or_next number
        (cond ((f.form == 8) && nat_le f.offset to.offset) (inside f.n (record to { offset = to.offset - f.offset }))
        None)
        (path_among inside to (suc number) fs)) ≡ Some path
        → (path_among inside to (suc number) fs ≡ Some path
        → field_from image offset all path ≡ Some (offset + to.offset, form_of to))
        → field_from image offset all path ≡ Some (offset + to.offset, form_of to)
    by_field true is found further =
        through [] (some_eq (number ∷ []) path found)
        (ap (λ (x : ImageField). let p : Option Part = Some (offset + x.offset, form_of x) in p) (same_field to f is))
    by_field false is found further =
        by_inside ((f.form == 8) && nat_le f.offset to.offset) refl found further

inside_leads : (image : Image) (depth : ℕ) → Leads image (path_inside image depth)
inside_leads image zero class offset to path found = absurd (none_some path found)
inside_leads image (suc depth) class offset to path found =
    object_path path (among_leads image (path_inside image depth) (inside_leads image depth) to 0 offset
    (class_fields image class) (class_fields image class) path
    (λ k. ap (slice_get (class_fields image class)) (let same : k ≡ 0 + k = omega arith in same)) found)
  where
    object_path : (p : Path)
        → field_from image offset (class_fields image class) p ≡ Some (offset + to.offset, form_of to)
        → part_from image p (offset, object class) ≡ Some (offset + to.offset, form_of to)
    object_path [] e = absurd (none_some _ e)
    object_path (i ∷ rest) e = e

-- the whole block, as an object of a class
whole_leads : (class : ℕ) (to : ImageField) → is_field 8 0 class to ≡ true
    → ◌≡◌ {A = Option Part} (Some (0, object class)) (Some (to.offset, form_of to))
whole_leads class to is =
    sym (ap (λ (x : ImageField). let p : Option Part = Some (x.offset, form_of x) in p)
    (same_field (record { offset = 0; form = 8; n = class }) to is))

path_leads : (image : Image) (class : ℕ) (base : Base) (to : ImageField) (path : Path)
    → path_to image class base to ≡ Some path → part_of image class base path ≡ Some (to.offset, form_of to)
path_leads image class Component to path found = by_whole (is_field 8 0 class to) refl found
  where
    by_whole : (b : Bool) → is_field 8 0 class to ≡ b
        → cond b (Some []) (path_inside image (length image.classes) class to) ≡ Some path
        → part_at image class path ≡ Some (to.offset, form_of to)
    by_whole true is found =
        subst (λ (p : Path). part_at image class p ≡ Some (to.offset, form_of to)) (some_eq [] path found)
        (whole_leads class to is)
    by_whole false is found =
        inside_leads image (length image.classes) class 0 to path found
        ∙ ap (λ (n : ℕ). let p : Option Part = Some (n, form_of to) in p)
        (let none : 0 + to.offset ≡ to.offset = omega arith in none)
path_leads image class Statics to path found = by_whole (is_field 8 0 0xffff to) refl found
  where
    static_path : (p : Path) → field_from image 0 image.static_fields p ≡ Some (0 + to.offset, form_of to)
        → static_part_at image p ≡ Some (0 + to.offset, form_of to)
    static_path [] e = absurd (none_some _ e)
    static_path (i ∷ rest) e = e

    by_whole : (b : Bool) → is_field 8 0 0xffff to ≡ b
        → cond b (Some []) (path_among (path_inside image (length image.classes)) to 0 image.static_fields) ≡ Some path
        → static_part_at image path ≡ Some (to.offset, form_of to)
    by_whole true is found =
        subst (λ (p : Path). static_part_at image p ≡ Some (to.offset, form_of to)) (some_eq [] path found)
        (whole_leads 0xffff to is)
    by_whole false is found =
        static_path path (among_leads image (path_inside image (length image.classes))
        (inside_leads image (length image.classes)) to 0 0 image.static_fields image.static_fields path
        (λ k. ap (slice_get image.static_fields) (let same : k ≡ 0 + k = omega arith in same)) found)
        ∙ ap (λ (n : ℕ). let p : Option Part = Some (n, form_of to) in p)
        (let none : 0 + to.offset ≡ to.offset = omega arith in none)

pub ref_leads : (image : Image) (class : ℕ) (r : Reference) (spot : Spot) → ref_of image class r ≡ Some spot
    → (spot.base ≡ r.base) × (part_of image class r.base spot.path ≡ Some (r.to.offset, form_of r.to))
ref_leads image class r spot found = by_path (path_to image class r.base r.to) refl found
  where
    by_path : (o : Option Path) → path_to image class r.base r.to ≡ o
        → option_map (λ path. let s : Spot = record { base = r.base; path = path } in s) o ≡ Some spot
        → (spot.base ≡ r.base) × (part_of image class r.base spot.path ≡ Some (r.to.offset, form_of r.to))
    by_path None none found = absurd (none_some spot found)
    by_path (Some path) there found =
        let same = some_eq (let s : Spot = record { base = r.base; path = path } in s) spot found in (
          sym (ap (λ (s : Spot). s.base) same),
          subst (λ (p : Path). part_of image class r.base p ≡ Some (r.to.offset, form_of r.to))
              (ap (λ (s : Spot). s.path) same) (path_leads image class r.base r.to path there),
        )
