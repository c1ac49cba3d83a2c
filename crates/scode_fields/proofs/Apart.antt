-- Fields that overlap take a byte twice.
use Rattle.std.proofs.Common.{◌≡◌, ℕ, zero, suc, ◌+◌, ◌-◌, ◌*◌, ◌<◌, ◌≤◌, ◌==◌, ◌&&◌, ◌||◌, not, nat_le, nat_lt, Bool, true, false, if◌then◌else◌, List, [], ◌∷◌, length, drop, set, refl, ap, sym, ◌∙◌, subst, arith, ◌⊎◌, inl, inr, slice_get, Option, Some}
use Rattle.std.specs.List.{list_all, range_with_len}
use Rattle.std.specs.Option.{option_and_then, option_map_or}
use Rattle.std.proofs.Math.Bool.{and-false}
use Rattle.std.proofs.Math.Nat.{mul-le-mul_left}
use Rattle.std.proofs.lemmas.Bool.{and_from, and_parts, both_ways, cases_eq, cases_lt, le-leb, le-ltb, leb-true, lt-leb, lt-ltb, ltb-true, not-true, not_from_false, or_cases, or_from, or_left, or_parts, or_right}
use Rattle.std.proofs.lemmas.List.{get_or-set_other, get_or-set_same}
use Rattle.std.proofs.lemmas.Option.{slice_get_cases}
use Rattle.std.proofs.Math.ListN.{length-set}
use Rattle.sed_value.specs.SlotType.{width_of}
use Rattle.sed_value.specs.declared.slot_type.Primitive.{Primitive}
use Rattle.sed_value.specs.declared.slot_type.Primitive.TheVariants as prim
use Rattle.scode_image.specs.declared.image.Image.{Image}
use Rattle.scode_image.specs.declared.image.ImageClass.{ImageClass}
use Rattle.scode_image.specs.declared.image.ImageField.{ImageField}
use Rattle.scode_code.specs.Tables.{primitive_of}
use Rattle.scode_code.specs.TableRules.{all_apart, are_apart, field_width, has_class, may_be_inline, n_is_of_form, none_or, object_fields_are_there, objects_may_be_inline}
use Rattle.scode_fields.specs.Words.{AreTaken, are_free, has_width, is_taken, object_is_there, object_may_be_inline}

-- ---- truths

pub same_truth : (a b : Bool) → (a ≡ true → b ≡ true) → (b ≡ true → a ≡ true) → a ≡ b
same_truth true b to from = sym (to refl)
same_truth false true to from = from refl
same_truth false false to from = refl

all_true : {A : Type 0} (p : A → Bool) (xs : List A) → ((x : A) → p x ≡ true) → list_all p xs ≡ true
all_true p [] each = refl
all_true p (x ∷ xs) each = and_from _ _ (each x) (all_true p xs each)

in_rows : (a b c d : Bool) → ((a && b) && (c && d)) ≡ ((a && c) && (b && d))
in_rows true true c d = refl
in_rows true false true d = refl
in_rows true false false d = refl
in_rows false b c d = refl

regroup : (a b c : Bool) → (a && (b && c)) ≡ ((a && b) && c)
regroup true b c = refl
regroup false b c = refl

order : (a b w : ℕ) → (a + w ≤ b) ⊎ (b < a + w)
order a b w =
    let h : ((b < a + w) ⊎ (a + w ≤ b)) = cases_lt b (a + w) in
    elim h [ inl over ↦ inr over | inr before ↦ inl before ]

outside_low : (from at to : ℕ) → to ≤ at → (nat_le from at && nat_lt at to) ≡ false
outside_low from at to past = ap (λ (b : Bool). nat_le from at && b) (le-ltb at to past) ∙ and-false (nat_le from at)

outside_high : (from at to : ℕ) → at < from → (nat_le from at && nat_lt at to) ≡ false
outside_high from at to before = ap (λ (b : Bool). b && nat_lt at to) (lt-leb from at before)

nowhere : (from at : ℕ) → (nat_le from at && nat_lt at from) ≡ false
nowhere from at =
    let h : ((at < from) ⊎ (from ≤ at)) = cases_lt at from in
    elim h [ inl before ↦ outside_high from at from before | inr past ↦ outside_low from at from past ]

one_further : (at to : ℕ) → (at ≡ to → ⊥) → nat_lt at to ≡ nat_lt at (to + 1)
one_further at to other =
    let h : ((at < to) ⊎ (to ≤ at)) = cases_lt at to in
    elim h [
      | inl before ↦ lt-ltb at to before ∙ sym (lt-ltb at (to + 1) (omega arith))
      | inr past ↦ le-ltb at to past ∙ sym (le-ltb at (to + 1) (omega arith))
    ]

-- ---- bytes that are free

pub free_at : (p : ℕ → Bool) (a n : ℕ) → list_all p (range_with_len a n) ≡ true → (i : ℕ) → a ≤ i → i < a + n
    → p i ≡ true
free_at p a zero all i low high = absurd (omega arith)
free_at p a (suc n) all i low high =
    let h : ((i ≡ a) ⊎ (i ≡ a → ⊥)) = cases_eq i a in
    let parts = and_parts (p a) (list_all p (range_with_len (a + 1) n)) all in
    elim h [
      | inl same ↦ ap p same ∙ parts.0
      | inr other ↦ free_at p (a + 1) n parts.1 i (omega arith) (omega arith)
    ]

pub free_from : (p : ℕ → Bool) (a n : ℕ) → ((i : ℕ) → a ≤ i → i < a + n → p i ≡ true)
    → list_all p (range_with_len a n) ≡ true
free_from p a zero each = refl
free_from p a (suc n) each =
    and_from (p a) (list_all p (range_with_len (a + 1) n)) (each a (omega arith) (omega arith))
    (free_from p (a + 1) n (λ i low high. each i (omega arith) (omega arith)))

-- the bytes of a field are free
abbrev pub free_of : Image → List Bool → ImageField → Bool
free_of image taken f = are_free taken f.offset (field_width image f)

-- behind a field that took its bytes
not_of : (b : Bool) → b ≡ true → not b ≡ false
not_of b is = ap (λ (c : Bool). not c) is

free_then : (image : Image) (old new : List Bool) (f g : ImageField)
    → AreTaken old new f.offset (f.offset + field_width image f)
    → 1 ≤ field_width image f → 1 ≤ field_width image g → free_of image new g ≡ true
    → (free_of image old g && are_apart image f g) ≡ true
free_then image old new f g took wide_f wide_g free =
    let wf = field_width image f in
    let wg = field_width image g in
    let each = free_at (λ at. not (is_taken new at)) g.offset wg free in
    let at_none : (i : ℕ) → g.offset ≤ i → i < g.offset + wg
    → ((nat_le f.offset i && nat_lt i (f.offset + wf)) ≡ false) × (is_taken old i ≡ false) =
    λ i low high. or_parts _ _ (sym (took.is i) ∙ not-true (is_taken new i) (each i low high)) in
    and_from _ _
    (free_from (λ at. not (is_taken old at)) g.offset wg (λ i low high. not_from_false _ (at_none i low high).1))
    (let h : ((f.offset + wf ≤ g.offset) ⊎ (g.offset < f.offset + wf)) = order f.offset g.offset wf in
    let k : ((g.offset + wg ≤ f.offset) ⊎ (f.offset < g.offset + wg)) = order g.offset f.offset wg in
    elim h [
      | inl before ↦ or_left _ _ (le-leb (f.offset + wf) g.offset before)
      | inr over ↦ elim k [
        | inl behind ↦ or_right _ _ (le-leb (g.offset + wg) f.offset behind)
        | inr also ↦ (let m : ((f.offset < g.offset) ⊎ (g.offset ≤ f.offset)) = cases_lt f.offset g.offset in
            elim m [
              | inl first ↦ absurd (both_ways (nat_le f.offset g.offset && nat_lt g.offset (f.offset + wf))
                  (at_none g.offset (omega arith) (omega arith)).0
                  (and_from _ _ (le-leb f.offset g.offset (omega arith)) (lt-ltb g.offset (f.offset + wf) over)))
              | inr second ↦ absurd (both_ways (nat_le f.offset f.offset && nat_lt f.offset (f.offset + wf))
                  (at_none f.offset second also).0
                  (and_from _ _ (le-leb f.offset f.offset (omega arith)) (lt-ltb f.offset (f.offset + wf)
                  (omega arith))))
            ])
      ]
    ])

free_before : (image : Image) (old new : List Bool) (f g : ImageField)
    → AreTaken old new f.offset (f.offset + field_width image f)
    → (free_of image old g && are_apart image f g) ≡ true → free_of image new g ≡ true
free_before image old new f g took both =
    let wf = field_width image f in
    let wg = field_width image g in
    let parts = and_parts (free_of image old g) (are_apart image f g) both in
    let each = free_at (λ at. not (is_taken old at)) g.offset wg parts.0 in
    free_from (λ at. not (is_taken new at)) g.offset wg (λ i low high. not_from_false _ (took.is i ∙ or_from _ _
    (elim (or_cases _ _ parts.1) [
      | inl before ↦ outside_low f.offset i (f.offset + wf) (let b = leb-true
          (f.offset + wf) g.offset before in omega arith)
      | inr behind ↦ outside_high f.offset i (f.offset + wf) (let b = leb-true
          (g.offset + wg) f.offset behind in omega arith)
    ])
    (not-true (is_taken old i) (each i low high))))

pub free_behind : (image : Image) (old new : List Bool) (f g : ImageField)
    → AreTaken old new f.offset (f.offset + field_width image f)
    → 1 ≤ field_width image f → 1 ≤ field_width image g
    → free_of image new g ≡ (free_of image old g && are_apart image f g)
free_behind image old new f g took wide_f wide_g =
    same_truth _ _ (free_then image old new f g took wide_f wide_g) (free_before image old new f g took)

all_behind : (image : Image) (old new : List Bool) (f : ImageField) (gs : List ImageField)
    → AreTaken old new f.offset (f.offset + field_width image f) → 1 ≤ field_width image f
    → list_all (has_width image) gs ≡ true
    → list_all (free_of image new) gs ≡ (list_all (free_of image old) gs && list_all (are_apart image f) gs)
all_behind image old new f [] took wide_f wide = refl
all_behind image old new f (g ∷ gs) took wide_f wide =
    let parts = and_parts (has_width image g) (list_all (has_width image) gs) wide in
    ap (λ (b : Bool). b && list_all (free_of image new) gs)
    (free_behind image old new f g took wide_f (leb-true 1 (field_width image g) parts.0))
    ∙ ap (λ (b : Bool). (free_of image old g && are_apart image f g) && b)
    (all_behind image old new f gs took wide_f parts.1)
    ∙ in_rows (free_of image old g) (are_apart image f g) (list_all (free_of image old) gs) (list_all
    (are_apart image f) gs)

-- ---- the fields that are left

-- they are free, and apart
abbrev pub are_left_apart : Image → List Bool → List ImageField → Bool
are_left_apart image taken fs = list_all (free_of image taken) fs && all_apart image fs

pub left_begins : (image : Image) (taken : List Bool) (fs : List ImageField) → ((at : ℕ) → is_taken taken at ≡ false)
    → are_left_apart image taken fs ≡ all_apart image fs
left_begins image taken fs none =
    ap (λ (b : Bool). b && all_apart image fs) (all_true (free_of image taken) fs
    (λ g. free_from (λ at. not (is_taken taken at)) g.offset (field_width image g) (λ i low high. not_from_false _
    (none i))))

pub left_fails : (image : Image) (taken : List Bool) (f : ImageField) (fs : List ImageField)
    → free_of image taken f ≡ false
    → are_left_apart image taken (f ∷ fs) ≡ false
left_fails image taken f fs fails =
    ap (λ (b : Bool). (b && list_all (free_of image taken) fs) && all_apart image (f ∷ fs)) fails

pub left_goes_on : (image : Image) (old new : List Bool) (f : ImageField) (fs : List ImageField)
    → AreTaken old new f.offset (f.offset + field_width image f) → list_all (has_width image) (f ∷ fs) ≡ true
    → free_of image old f ≡ true → are_left_apart image old (f ∷ fs) ≡ are_left_apart image new fs
left_goes_on image old new f fs took wide free =
    let parts = and_parts (has_width image f) (list_all (has_width image) fs) wide in
    ap (λ (b : Bool). (b && list_all (free_of image old) fs) && (list_all
    (are_apart image f) fs && all_apart image fs)) free
    ∙ regroup (list_all (free_of image old) fs) (list_all (are_apart image f) fs) (all_apart image fs)
    ∙ ap (λ (b : Bool). b && all_apart image fs)
    (sym (all_behind image old new f fs took (leb-true 1 (field_width image f) parts.0) parts.1))

-- ---- bytes that are taken one by one

pub takes_none : (row : List Bool) (from : ℕ) → AreTaken row row from from
takes_none row from = record {
  long = refl;
  is = λ at. sym (ap (λ (b : Bool). b || is_taken row at) (nowhere from at));
}

pub takes_more : (a b c : List Bool) (from to : ℕ) → from ≤ to → to < length a → AreTaken a b from to
    → c ≡ set b to true
    → AreTaken a c from (to + 1)
takes_more a b c from to low within took is = record {
  long = ap (λ (row : List Bool). length row) is ∙ length-set b to true ∙ took.long;
  is = λ at. (let h : ((at ≡ to) ⊎ (at ≡ to → ⊥)) = cases_eq at to in
      let long = took.long in
      elim h [
        | inl same ↦ ap (λ (row : List Bool). is_taken row at) is
            ∙ ap (λ (n : ℕ). is_taken (set b to true) n) same ∙ get_or-set_same b to true false (omega arith)
            ∙ sym (or_left _ _ (and_from _ _ (le-leb from at (omega arith)) (lt-ltb at (to + 1) (omega arith))))
        | inr other ↦ ap (λ (row : List Bool). is_taken row at) is ∙ get_or-set_other b to at true false other
            ∙ took.is at
            ∙ ap (λ (t : Bool). (nat_le from at && t) || is_taken a at) (one_further at to other)
      ]);
}

-- ---- widths

width_some : (p : Primitive) → 1 ≤ width_of p
width_some prim.Bool = omega arith
width_some prim.Byte = omega arith
width_some prim.Short = omega arith
width_some prim.Int = omega arith
width_some prim.Long = omega arith

array_some : (n w : ℕ) → 1 ≤ n → 1 ≤ w → 1 ≤ n * w
array_some n w some wide = omega (arith, mul-le-mul_left n wide)

object_some : (image : Image) (n : ℕ) → has_class image n ≡ true
    → none_or (option_and_then (λ (c : ImageClass). Some (may_be_inline c)) (slice_get image.classes n)) ≡ true
    → 1 ≤ option_map_or (λ (c : ImageClass). length c.contents) (slice_get image.classes n) 0
object_some image n there inline =
    elim (slice_get_cases image.classes n).1 [
      | inl found ↦ (let c = found.0 in
          let may = sym (ap (λ (o : Option ImageClass). none_or (option_and_then (λ (c : ImageClass). Some
          (may_be_inline c)) o)) found.2) ∙ inline in
          subst (λ (o : Option ImageClass). 1 ≤ option_map_or (λ (c : ImageClass). length c.contents) o 0) (sym found.2)
          (ltb-true 0 (length c.contents) (and_parts _ _ may).1))
      | inr past ↦ absurd (let w = ltb-true n (length image.classes) there in let p = past.0 in omega arith)
    ]

wide_by : (low six seven eight : Bool) (n one object wide : ℕ) → 1 ≤ one → 1 ≤ wide → (eight ≡ true → 1 ≤ object)
    → (if low then n == 0 else if six then nat_le 1 n && nat_le n 255 else if seven then nat_le 1 n && nat_le n 128
    else if eight then true else nat_le 1 n) ≡ true
    → 1 ≤ (if low then one else if six then n else if seven then n + 2 else if eight then object else n * wide)
wide_by true six seven eight n one object wide some_one some_wide some form = some_one
wide_by false true seven eight n one object wide some_one some_wide some form = leb-true 1 n (and_parts _ _ form).0
wide_by false false true eight n one object wide some_one some_wide some form = omega arith
wide_by false false false true n one object wide some_one some_wide some form = some refl
wide_by false false false false n one object wide some_one some_wide some form = array_some n wide
    (leb-true 1 n form) some_wide

where_object : (object there : Bool) → (not object || there) ≡ true → object ≡ true → there ≡ true
where_object true there so is = so
where_object false there so is = cc

-- what is of its class and count takes a byte
wide_field : (image : Image) (f : ImageField) → object_is_there image f ≡ true → object_may_be_inline image f ≡ true
    → n_is_of_form f ≡ true → 1 ≤ field_width image f
wide_field image f there inline form =
    wide_by (nat_le f.form 5) (f.form == 6) (f.form == 7) (f.form == 8) f.n (width_of (primitive_of f.form)) _
    (width_of (primitive_of (f.form - 8))) (width_some (primitive_of f.form)) (width_some (primitive_of (f.form - 8)))
    (λ is. object_some image f.n (where_object (f.form == 8) (has_class image f.n) there is)
    (where_object (f.form == 8) _ inline is)) form

pub wide_fields : (image : Image) (fs : List ImageField) → object_fields_are_there image fs ≡ true
    → objects_may_be_inline image fs ≡ true → list_all n_is_of_form fs ≡ true → list_all (has_width image) fs ≡ true
wide_fields image [] there inline form = refl
wide_fields image (f ∷ fs) there inline form =
    let t = and_parts (object_is_there image f) (object_fields_are_there image fs) there in
    let i = and_parts (object_may_be_inline image f) (objects_may_be_inline image fs) inline in
    let n = and_parts (n_is_of_form f) (list_all n_is_of_form fs) form in
    and_from _ _ (le-leb 1 (field_width image f) (wide_field image f t.0 i.0 n.0)) (wide_fields image fs t.1 i.1 n.1)

pub list_all_drop : {A : Type 0} (p : A → Bool) (i : ℕ) (xs : List A) → list_all p xs ≡ true
    → list_all p (drop i xs) ≡ true
list_all_drop p zero xs all = all
list_all_drop p (suc i) [] all = refl
list_all_drop p (suc i) (x ∷ xs) all = list_all_drop p i xs (and_parts _ _ all).1
