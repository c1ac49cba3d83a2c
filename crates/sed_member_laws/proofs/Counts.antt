-- How often a name stands among the members of a class of a program.
use Rattle.std.proofs.Common.{◌≡◌, ◌<◌, ◌≤◌, ◌+◌, ◌==◌, ◌&&◌, ℕ, zero, suc, Bool, true, false, not, if◌then◌else◌, List, [], ◌∷◌, length, take, map, filter, slice_get, get_or, Option, Some, None, refl, sym, ap, ◌∙◌, subst, arith}
use Rattle.std.specs.List.{count_by, filter_map, list_any, sum_by}
use Rattle.std.specs.Option.{option_map}
use Rattle.std.specs.Str.{bytes_eq}
use Rattle.std.proofs.lemmas.List.Sums.{sum_by-cons, sum_by_more}
use Rattle.std.proofs.lemmas.Option.{slice_get-get_or}
use Rattle.std.proofs.lemmas.Bool.Decides.{nat_tests}
use Rattle.sed_typed.specs.declared.program.Field.{Field}
use Rattle.sed_typed.specs.declared.program.FieldForm.{FieldForm}
use Rattle.sed_typed.specs.declared.program.Method.{Method}
use Rattle.sed_typed.specs.declared.program.Program.{Program}
use Rattle.sed_typed.specs.TypedSchema.{fields_named, members_named}
use Rattle.sed_units.specs.declared.classes.Member.{Member}
use Rattle.sed_classes.specs.declared.kit_units.KitUnits.{KitUnits}
use Rattle.sed_classes.specs.Bases.{lineage}
use Rattle.sed_classes.specs.LimitRules.{passes}
use Rattle.sed_classes.specs.Members.{declares, has_name, is_define, is_instance_field, is_method, is_static, is_static_field, kit_of, members_of}
use Rattle.sed_classes.specs.Schema.{class_order}
use Rattle.sed_program.specs.Fields.{a_field, all_fields, field_of, own_fields, own_statics}
use Rattle.sed_program.specs.Methods.{own_methods}
use Rattle.sed_program.specs.Outlined.{IsOutlined}
use Rattle.sed_program.specs.Types.{form_of}
use Rattle.sed_program.specs.Ordered.{IsOrdered, number, places}
use Rattle.sed_member_laws.specs.Faultless.{AreFree}
use Rattle.sed_member_laws.proofs.Flat.{any_counted, count_block, count_given, given_in, none_passes, some_is}
use Rattle.sed_member_laws.proofs.Own.{names_once}
use Rattle.sed_member_laws.proofs.Rows.{any_false}
use Rattle.sed_program.proofs.OrderLists.{count_cons, is_itself}
use Rattle.sed_member_laws.proofs.Climbing.{climb}
use Rattle.sed_member_laws.proofs.FieldsAt.{instance_no_method, static_no_method, total}
use Rattle.sed_member_laws.proofs.Numbers.{methods_named}

-- ---- fields

abbrev pub field_named : ℕ → List ℕ → Field → Bool
field_named class name f = (f.class.0 == class) && bytes_eq f.name name

field_is : (units : List KitUnits) (n c : ℕ) (m : Member) (x : Field) → field_of units n c m ≡ Some x →
    (x.class.0 ≡ n) × (x.name ≡ m.name.bytes)
field_is units n c m x e = by_form (form_of units (kit_of units c) m) e
  where
    by_form : (o : Option FieldForm) → option_map (a_field units n c m) o ≡ Some x →
        (x.class.0 ≡ n) × (x.name ≡ m.name.bytes)
    by_form None g = cc
    by_form (Some f) g =
        let same : a_field units n c m f ≡ x = some_is (a_field units n c m f) x g in
        (ap (λ (y : Field). y.class.0) (sym same), ap (λ (y : Field). y.name) (sym same))

abbrev own_block : List KitUnits → (ℕ → List Member) → ℕ × ℕ → List Field
own_block units own e = filter_map (field_of units e.0 e.1) (own e.1)

fields_of_others : (units : List KitUnits) (own : ℕ → List Member) (name : List ℕ) (k : ℕ) (e : ℕ × ℕ) →
    (e.0 == k) ≡ false →
    count_by (field_named k name) (own_block units own e) ≡ 0
fields_of_others units own name k e h =
    none_passes
    (field_named k name)
    (own_block units own e)
    (λ i x g.
    let from = given_in (field_of units e.0 e.1) (own e.1) i x g in
    ap (λ n. (n == k) && bytes_eq x.name name) (field_is units e.0 e.1 from.1 x from.3).0
    ∙ ap (λ b. b && bytes_eq x.name name) h)

pub all_named : (units : List KitUnits) (program : Program) → AreFree units → IsOrdered units program → (q : Member →
    Bool) →
    ((m : Member) → q m ≡ true → is_method m ≡ false) → (c : ℕ) (name : List ℕ) → c < places units →
    count_by (field_named (number units c) name) (all_fields units (λ b. filter q (members_of units b)))
    ≡ count_by (has_name name) (filter q (members_of units c))
all_named units program f o q field c name h =
    count_block
    (own_block units (λ b. filter q (members_of units b)))
    (field_named (number units c) name)
    (number units c)
    (fields_of_others units (λ b. filter q (members_of units b)) name (number units c))
    0
    (class_order units)
    (number units c)
    c
    (o.place_is c h)
    (omega arith)
    ∙ count_given
    (field_of units (number units c) c)
    (has_name name)
    (field_named (number units c) name)
    (filter q (members_of units c))
    (λ m x e.
    let is = field_is units (number units c) c m x e in
    ap (λ n. (n == number units c) && bytes_eq x.name name) is.0
    ∙ ap (λ b. b && bytes_eq x.name name) (is_itself (number units c))
    ∙ ap (λ y. bytes_eq y name) is.1)
    (λ i m e. total units program f o q field (number units c) c i m e)

-- ---- members

-- of three kinds of members no more than of all
pub three_parts : (p : Member → Bool) (xs : List Member) →
    count_by p (filter is_instance_field xs) + count_by p (filter is_static_field xs) + count_by p
    (filter is_method xs) ≤ count_by p xs
three_parts p [] = omega arith
three_parts p (x ∷ xs) =
    by_tests
    (is_method x)
    (is_define x)
    (is_static x)
    (filter is_instance_field xs)
    (filter is_static_field xs)
    (filter is_method xs)
    (three_parts p xs)
  where
    by_tests : (a b s : Bool) (i t m : List Member) → count_by p i + count_by p t + count_by p m ≤ count_by p xs →
        count_by p (if not a && not b && not s then x ∷ i else i) + count_by p (if not a && not b && s then x ∷ t
        else t)
        + count_by p (if a then x ∷ m else m)
        ≤ count_by p (x ∷ xs)
    by_tests true b s i t m h = omega (arith, h, count_cons p x m, count_cons p x xs)
    by_tests false true s i t m h = omega (arith, h, count_cons p x xs)
    by_tests false false true i t m h = omega (arith, h, count_cons p x t, count_cons p x xs)
    by_tests false false false i t m h = omega (arith, h, count_cons p x i, count_cons p x xs)

pub fields_count : (units : List KitUnits) (program : Program) → AreFree units → IsOrdered units program →
    IsOutlined units program → (c : ℕ) (name : List ℕ) → c < places units →
    fields_named program (number units c) name ≡ count_by (has_name name) (own_fields units c) + count_by
    (has_name name) (own_statics units c)
fields_count units program f o p c name h =
    let fields : count_by (field_named (number units c) name) program.fields
    ≡ count_by (has_name name) (own_fields units c) =
    ap (count_by (field_named (number units c) name)) p.fields
    ∙ all_named units program f o is_instance_field instance_no_method c name h in
    let statics : count_by (field_named (number units c) name) program.statics
    ≡ count_by (has_name name) (own_statics units c) =
    ap (count_by (field_named (number units c) name)) p.statics
    ∙ all_named units program f o is_static_field static_no_method c name h in
    ap (λ n. n + count_by (field_named (number units c) name) program.statics) fields
    ∙ ap (λ n. count_by (has_name name) (own_fields units c) + n) statics

pub members_count : (units : List KitUnits) (program : Program) → AreFree units → IsOrdered units program →
    IsOutlined units program → (c : ℕ) (name : List ℕ) → c < places units →
    members_named program (number units c) name
    ≡ count_by (has_name name) (own_fields units c) + count_by (has_name name) (own_statics units c) + count_by
    (has_name name) (own_methods units c)
members_count units program f o p c name h =
    ap (λ n. n + count_by (λ (m : Method). (m.class.0 == number units c) && bytes_eq m.name name) program.methods)
    (fields_count units program f o p c name h)
    ∙ ap (λ n. count_by (has_name name) (own_fields units c) + count_by (has_name name) (own_statics units c) + n)
    (methods_named units program o p c name h)

pub members_few : (units : List KitUnits) (program : Program) → AreFree units → IsOrdered units program →
    IsOutlined units program → (c : ℕ) (name : List ℕ) → c < places units →
    members_named program (number units c) name ≤ count_by (has_name name) (members_of units c)
members_few units program f o p c name h =
    omega (arith, members_count units program f o p c name h, three_parts (has_name name) (members_of units c))

pub members_once : (units : List KitUnits) (program : Program) → AreFree units → IsOrdered units program →
    IsOutlined units program → (c : ℕ) (name : List ℕ) → c < places units →
    members_named program (number units c) name ≤ 1
members_once units program f o p c name h =
    omega (arith, members_few units program f o p c name h, names_once units f c name)

-- ---- over classes

abbrev pub AreIn : List KitUnits → List ℕ → Type 0
AreIn units cs = (i c : ℕ) → slice_get cs i ≡ Some c → c < places units

pub lineage_in : (units : List KitUnits) (program : Program) → IsOrdered units program → (c : ℕ) → c < places units →
    AreIn units (lineage units c)
lineage_in units program o c =
    climb
    units
    program
    o
    (λ b. b < places units → AreIn units (lineage units b))
    (λ b e h i a g. alone b h i a (sym (ap (λ cs. slice_get cs i) (o.lineage_one b e)) ∙ g))
    (λ b a e later h i z g. more b h a (later (o.base_in b a e)) i z (sym (ap (λ cs. slice_get cs i)
    (o.lineage_cons b a e)) ∙ g))
    c
  where
    alone : (b : ℕ) → b < places units → (i a : ℕ) → slice_get (b ∷ []) i ≡ Some a → a < places units
    alone b h zero a g = let same : b ≡ a = some_is b a g in omega arith
    alone b h (suc i) a g = cc

    more : (b : ℕ) → b < places units → (a : ℕ) → AreIn units (lineage units a) → (i z : ℕ) →
        slice_get (b ∷ lineage units a) i ≡ Some z → z < places units
    more b h a later zero z g = let same : b ≡ z = some_is b z g in omega arith
    more b h a later (suc i) z g = later i z g

pub sum_mapped : {X Y : Type 0} (g : X → Y) (f : Y → ℕ) (xs : List X) → sum_by f (map g xs) ≡ sum_by (λ x. f (g x)) xs
sum_mapped g f [] = refl
sum_mapped g f (x ∷ xs) = sum_by-cons f (g x) (map g xs) ∙ ap (λ n. f (g x) + n) (sum_mapped g f xs)
    ∙ sym (sum_by-cons (λ z. f (g z)) x xs)

pub sum_none : {X : Type 0} (f : X → ℕ) (xs : List X) → ((i : ℕ) (x : X) → slice_get xs i ≡ Some x → f x ≡ 0) →
    sum_by f xs ≡ 0
sum_none f [] h = refl
sum_none f (x ∷ xs) h = omega (arith, sum_by-cons f x xs, h 0 x refl, sum_none f xs (λ i y e. h (suc i) y e))

-- where no class declares a name, no member has it
pub none_named : (units : List KitUnits) (program : Program) → AreFree units → IsOrdered units program →
    IsOutlined units program → (name : List ℕ) (cs : List ℕ) → AreIn units cs →
    list_any (declares units name) cs ≡ false → sum_by (λ c. members_named program (number units c) name) cs ≡ 0
none_named units program f o p name cs there e =
    sum_none
    (λ c. members_named program (number units c) name)
    cs
    (λ i c g.
    omega (
      arith,
      members_few units program f o p c name (there i c g),
      any_counted (has_name name) (members_of units c) (any_false (declares units name) cs e i c g),
    ))

-- ---- sums that pass their bound with no member

stays_within : (most before more : ℕ) → passes most before more ≡ false → before ≤ most → before + more ≤ most
stays_within most before more e le = grind (arith, nat_tests)

grows : (most before : ℕ) (w : Member → ℕ) (ms : List Member) →
    ((i : ℕ) (m : Member) → slice_get ms i ≡ Some m → passes most (before + sum_by w (take i ms)) (w m) ≡ false) →
    before ≤ most → (i : ℕ) → i ≤ length ms → before + sum_by w (take i ms) ≤ most
grows most before w ms none le zero h = first ms
  where
    first : (xs : List Member) → before + sum_by w (take 0 xs) ≤ most
    first [] = omega arith
    first (x ∷ xs) = omega arith
grows most before w [] none le (suc i) h = absurd (omega (arith, h))
grows most before w (x ∷ xs) none le (suc i) h =
    let within : i < length (x ∷ xs) = omega (arith, h) in
    let item : slice_get (x ∷ xs) i ≡ Some (get_or (x ∷ xs) i x) = slice_get-get_or (x ∷ xs) i x within in
    let far : before + sum_by w (take i (x ∷ xs)) ≤ most = grows most before w (x ∷ xs) none le i (omega (arith, h)) in
    let next : before + sum_by w (take i (x ∷ xs)) + w (get_or (x ∷ xs) i x) ≤ most =
    stays_within most (before + sum_by w (take i (x ∷ xs))) (w (get_or (x ∷ xs) i x)) (none i (get_or
    (x ∷ xs) i x) item) far in
    let same : i + 1 ≡ suc i = omega arith in
    let more : sum_by w (take (suc i) (x ∷ xs)) ≡ sum_by w (take i (x ∷ xs)) + w (get_or (x ∷ xs) i x) =
    ap (λ k. sum_by w (take k (x ∷ xs))) (sym same) ∙ sum_by_more w (x ∷ xs) i x within in
    omega (arith, next, more)

all_of : {X : Type 0} (xs : List X) → take (length xs) xs ≡ xs
all_of [] = refl
all_of (x ∷ xs) = ap (λ r. x ∷ r) (all_of xs)

pub grown : (most before : ℕ) (w : Member → ℕ) (ms : List Member) →
    ((i : ℕ) (m : Member) → slice_get ms i ≡ Some m → passes most (before + sum_by w (take i ms)) (w m) ≡ false) →
    before ≤ most → before + sum_by w ms ≤ most
grown most before w ms none le =
    subst (λ xs. before + sum_by w xs ≤ most) (all_of ms) (grows most before w ms none le (length ms) (omega arith))
