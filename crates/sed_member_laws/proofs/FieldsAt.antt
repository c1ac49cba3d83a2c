-- The numbers of fields and statics: where those of a class stand in a program.
use Rattle.std.proofs.Common.{◌≡◌, ◌<◌, ◌+◌, ◌&&◌, ℕ, zero, suc, Bool, true, false, not, List, [], ◌∷◌, ◌++◌, length, take, filter, reverse, slice_get, position, unwrap_or, Option, Some, None, refl, sym, ap, ◌∙◌, arith, append_assoc}
use Rattle.std.specs.List.{flat_map, filter_map, enumerate_from, sum_by}
use Rattle.std.specs.Option.{option_map}
use Rattle.std.proofs.lemmas.List.{reverse-append}
use Rattle.std.proofs.lemmas.List.Concat.{flat_map-append, length-flat_map}
use Rattle.std.proofs.lemmas.List.Sums.{sum_by-cons, sum_by-append}
use Rattle.std.proofs.lemmas.Option.{slice_get_within}
use Rattle.sed_typed.specs.declared.program.Field.{Field}
use Rattle.sed_typed.specs.declared.program.FieldForm.{FieldForm}
use Rattle.sed_typed.specs.declared.program.Program.{Program}
use Rattle.sed_typed.specs.Classes as typed
use Rattle.sed_units.specs.declared.classes.Member.{Member}
use Rattle.sed_classes.specs.declared.kit_units.KitUnits.{KitUnits}
use Rattle.sed_classes.specs.Declarations.{all_classes}
use Rattle.sed_classes.specs.Bases.{base_of, bases, lineage}
use Rattle.sed_classes.specs.Members.{has_name, is_define, is_instance_field, is_method, is_static, is_static_field, kit_of, members_of}
use Rattle.sed_classes.specs.Schema.{class_order}
use Rattle.sed_program.specs.Fields.{a_field, before_class, field_number, field_of, own_fields, own_statics, static_number, statics_of}
use Rattle.sed_program.specs.Types.{form_of, place_of}
use Rattle.sed_program.specs.Ordered.{IsOrdered, number, places}
use Rattle.sed_member_laws.specs.Faultless.{AreFree}
use Rattle.sed_member_laws.proofs.Fit.{form_some}
use Rattle.sed_member_laws.proofs.Flat.{behind, filtered_in, flat_at, given_at, given_length, in_front, lengths, numbered_at, numbers_taken, some_is, sum_same}
use Rattle.sed_member_laws.proofs.Own.{declared, member_kept}
use Rattle.sed_member_laws.proofs.Climbing.{bases_cons, bases_one, climb}

-- ---- members that are fields

pub no_method : (a b c : Bool) → (not a && not b && c) ≡ true → a ≡ false
no_method true b c e = cc
no_method false b c e = refl

pub instance_no_method : (m : Member) → is_instance_field m ≡ true → is_method m ≡ false
instance_no_method m e = no_method (is_method m) (is_define m) (not (is_static m)) e

pub static_no_method : (m : Member) → is_static_field m ≡ true → is_method m ≡ false
static_no_method m e = no_method (is_method m) (is_define m) (is_static m) e

pub there_in : (units : List KitUnits) (c i : ℕ) (m : Member) → slice_get (members_of units c) i ≡ Some m →
    c < places units
there_in units c i m e = let d = declared units c i m e in slice_get_within (all_classes units) c d.0 d.1

pub member_form : (units : List KitUnits) (program : Program) → AreFree units → IsOrdered units program →
    (c i : ℕ) (m : Member) →
    slice_get (members_of units c) i ≡ Some m → is_method m ≡ false →
    (x : FieldForm) × (form_of units (kit_of units c) m ≡ Some x)
member_form units program f o c i m e n =
    let k = member_kept units f c i m e in
    let found = form_some units program o c k.0 i m k.3 n in
    (found.0, ap (λ kit. form_of units kit m) k.2 ∙ found.1)

-- each is a field of the program
pub total : (units : List KitUnits) (program : Program) → AreFree units → IsOrdered units program → (q : Member →
    Bool) →
    ((m : Member) → q m ≡ true → is_method m ≡ false) → (n c i : ℕ) (m : Member) →
    slice_get (filter q (members_of units c)) i ≡ Some m →
    (x : Field) × (field_of units n c m ≡ Some x)
total units program f o q field n c i m e =
    let there = filtered_in q (members_of units c) i m e in
    let found = member_form units program f o c there.0 m there.1 (field m there.2) in
    (a_field units n c m found.0, ap (option_map (a_field units n c m)) found.1)

-- ---- the lineage of a class that stands above

pub behind_it : (units : List KitUnits) (program : Program) → IsOrdered units program → (c i a : ℕ) →
    slice_get (lineage units c) i ≡ Some a →
    (rest : List ℕ) × (lineage units c ≡ rest ++ lineage units a)
behind_it units program o c =
    climb
    units
    program
    o
    (λ c. (i a : ℕ) → slice_get (lineage units c) i ≡ Some a →
    (rest : List ℕ) × (lineage units c ≡ rest ++ lineage units a))
    (λ c e i a h. alone c e i a (sym (ap (λ cs. slice_get cs i) (o.lineage_one c e)) ∙ h))
    (λ c b e later i a h. after c b e later i a (sym (ap (λ cs. slice_get cs i) (o.lineage_cons c b e)) ∙ h))
    c
  where
    alone : (c : ℕ) → base_of units c ≡ None → (i a : ℕ) → slice_get (c ∷ []) i ≡ Some a →
        (rest : List ℕ) × (lineage units c ≡ rest ++ lineage units a)
    alone c e zero a h = let same : c ≡ a = some_is c a h in ([], ap (lineage units) same)
    alone c e (suc i) a h = cc

    after : (c b : ℕ) → base_of units c ≡ Some b →
        ((i a : ℕ) → slice_get (lineage units b) i ≡ Some a →
        (rest : List ℕ) × (lineage units b ≡ rest ++ lineage units a)) →
        (i a : ℕ) → slice_get (c ∷ lineage units b) i ≡ Some a →
        (rest : List ℕ) × (lineage units c ≡ rest ++ lineage units a)
    after c b e later zero a h = let same : c ≡ a = some_is c a h in ([], ap (lineage units) same)
    after c b e later (suc i) a h =
        let r = later i a h in
        (c ∷ r.0, o.lineage_cons c b e ∙ ap (λ cs. c ∷ cs) r.1)

pub lineage_parts : (units : List KitUnits) (program : Program) → IsOrdered units program → (c : ℕ) →
    lineage units c ≡ c ∷ bases units c
lineage_parts units program o c = by_base (base_of units c) refl
  where
    by_base : (b : Option ℕ) → base_of units c ≡ b → lineage units c ≡ c ∷ bases units c
    by_base None e = o.lineage_one c e ∙ ap (λ cs. c ∷ cs) (sym (bases_one units program o c e))
    by_base (Some b) e = o.lineage_cons c b e ∙ ap (λ cs. c ∷ cs) (sym (bases_cons units program o c b e))

pub reverse_cons : (x : ℕ) (xs : List ℕ) → reverse (x ∷ xs) ≡ reverse xs ++ x ∷ []
reverse_cons x xs = reverse-append (x ∷ []) xs

sum_reverse : (f : ℕ → ℕ) (xs : List ℕ) → sum_by f (reverse xs) ≡ sum_by f xs
sum_reverse f [] = refl
sum_reverse f (x ∷ xs) =
    omega (
      arith,
      ap (sum_by f) (reverse_cons x xs),
      sum_by-append f (reverse xs)
          (x ∷ []),
      sum_by-cons f x xs,
      sum_by-cons f x [],
      sum_reverse f xs,
    )

-- ---- where a field stands

-- in a flat list of what is behind others
block_at : {Y : Type 0} (F : ℕ → List Y) (front back : List ℕ) (a j : ℕ) (y : Y) → slice_get (F a) j ≡ Some y →
    slice_get (flat_map F ((front ++ a ∷ []) ++ back)) (sum_by (λ b. length (F b)) front + j) ≡ Some y
block_at F front back a j y e =
    ap (λ l. slice_get l (sum_by (λ b. length (F b)) front + j))
    (ap (flat_map F) (append_assoc front (a ∷ []) back) ∙ flat_map-append F front (a ∷ back))
    ∙ ap (λ n. slice_get (flat_map F front ++ (F a ++ flat_map F back)) (n + j)) (sym (length-flat_map F front))
    ∙ behind (flat_map F front) (F a ++ flat_map F back) j
    ∙ in_front (F a) (flat_map F back) j y e

abbrev block : List KitUnits → ℕ → List Field
block units b = filter_map (field_of units (number units b) b) (own_fields units b)

block_length : (units : List KitUnits) (program : Program) → AreFree units → IsOrdered units program → (b : ℕ) →
    length (block units b) ≡ length (own_fields units b)
block_length units program f o b =
    given_length
    (field_of units (number units b) b)
    (own_fields units b)
    (λ i m e. total units program f o is_instance_field instance_no_method (number units b) b i m e)

pub field_at : (units : List KitUnits) (program : Program) → AreFree units → IsOrdered units program →
    (k c i a j : ℕ) (m : Member) (x : FieldForm) →
    place_of units k ≡ Some c → slice_get (lineage units c) i ≡ Some a → slice_get (own_fields units a) j ≡ Some m →
    position (has_name m.name.bytes) (own_fields units a) ≡ Some j → form_of units (kit_of units a) m ≡ Some x →
    slice_get (typed.fields program k) (field_number units a m.name.bytes) ≡ Some (a_field units (number units a) a m x)
field_at units program f o k c i a j m x at in_lineage own first is =
    let r = behind_it units program o c i a in_lineage in
    let row : reverse (lineage units c) ≡ (reverse (bases units a) ++ a ∷ []) ++ reverse r.0 =
    ap reverse r.1
    ∙ reverse-append r.0 (lineage units a)
    ∙ ap (λ l. reverse l ++ reverse r.0) (lineage_parts units program o a)
    ∙ ap (λ l. l ++ reverse r.0) (reverse_cons a (bases units a)) in
    let index : field_number units a m.name.bytes ≡ sum_by (λ b. length (block units b)) (reverse (bases units a)) + j =
    ap (λ n. sum_by (λ base. length (own_fields units base)) (bases units a) + unwrap_or n 0) first
    ∙ ap (λ n. n + j)
    (sym (sum_reverse (λ base. length (own_fields units base)) (bases units a))
    ∙ sym (sum_same (λ b. length (block units b)) (λ b. length (own_fields units b)) (reverse (bases units a))
    (block_length units program f o))) in
    let here : slice_get (block units a) j ≡ Some (a_field units (number units a) a m x) =
    given_at
    (field_of units (number units a) a)
    (own_fields units a)
    (λ n w e. total units program f o is_instance_field instance_no_method (number units a) a n w e)
    j
    m
    (a_field units (number units a) a m x)
    own
    (ap (option_map (a_field units (number units a) a m)) is) in
    ap (λ l. slice_get l (field_number units a m.name.bytes)) (o.fields_at k c at ∙ ap (flat_map (block units)) row)
    ∙ ap (slice_get (flat_map (block units) ((reverse (bases units a) ++ a ∷ []) ++ reverse r.0))) index
    ∙ block_at (block units) (reverse (bases units a)) (reverse r.0) a j (a_field units (number units a) a m x) here

-- ---- where a static stands

abbrev statics_in : List KitUnits → ℕ × ℕ → List Field
statics_in units e = filter_map (field_of units e.0 e.1) (own_statics units e.1)

statics_before : (units : List KitUnits) (program : Program) → AreFree units → IsOrdered units program →
    (xs : List ℕ) (n : ℕ) →
    sum_by (lengths (statics_in units)) (take n (enumerate_from 0 xs))
    ≡ sum_by (λ c. length (own_statics units c)) (take n xs)
statics_before units program f o xs n =
    sum_same
    (lengths (statics_in units))
    (λ (e : ℕ × ℕ). length (own_statics units e.1))
    (take n (enumerate_from 0 xs))
    (λ e.
    given_length
    (field_of units e.0 e.1)
    (own_statics units e.1)
    (λ i m h. total units program f o is_static_field static_no_method e.0 e.1 i m h))
    ∙ numbers_taken (λ c. length (own_statics units c)) 0 xs n

pub static_at : (units : List KitUnits) (program : Program) → AreFree units → IsOrdered units program →
    (a j : ℕ) (m : Member) (x : FieldForm) →
    a < places units → slice_get (own_statics units a) j ≡ Some m →
    position (has_name m.name.bytes) (own_statics units a) ≡ Some j →
    form_of units (kit_of units a) m ≡ Some x →
    slice_get (statics_of units) (static_number units a m.name.bytes) ≡ Some (a_field units (number units a) a m x)
static_at units program f o a j m x h own first is =
    let at : 0 + number units a ≡ number units a = omega arith in
    let in_order : slice_get (enumerate_from 0 (class_order units)) (number units a) ≡ Some (number units a, a) =
    numbered_at 0 (class_order units) (number units a) a (o.place_is a h) ∙ ap (λ n. Some (n, a)) at in
    let here : slice_get (statics_in units (number units a, a)) j ≡ Some (a_field units (number units a) a m x) =
    given_at
    (field_of units (number units a) a)
    (own_statics units a)
    (λ n w e. total units program f o is_static_field static_no_method (number units a) a n w e)
    j
    m
    (a_field units (number units a) a m x)
    own
    (ap (option_map (a_field units (number units a) a m)) is) in
    let index : static_number units a m.name.bytes ≡ sum_by (lengths (statics_in units)) (take (number units a)
    (enumerate_from 0 (class_order units))) + j =
    ap (λ n. before_class (λ b. length (own_statics units b)) units a + unwrap_or n 0) first
    ∙ sym (ap (λ n. n + j) (statics_before units program f o (class_order units) (number units a))) in
    ap (slice_get (statics_of units)) index
    ∙ flat_at
    (statics_in units)
    (enumerate_from 0 (class_order units))
    (number units a)
    j
    (number units a, a)
    (a_field units (number units a) a m x)
    in_order
    here
