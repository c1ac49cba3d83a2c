-- A round over the sizes of objects goes one object deeper.
use mathlib.Core.Path.{fun_ext}
use Rattle.std.proofs.Common.{◌≡◌, ◌<◌, ◌≤◌, ℕ, zero, suc, ◌+◌, Bool, true, false, if◌then◌else◌, List, [], ◌∷◌, length, take, get_or, replicate, refl, sym, ap, ◌∙◌, arith}
use Rattle.std.specs.List.{sum_by}
use Rattle.std.proofs.lemmas.List.Sums.{sum_by_more, sum_by-cons}
use Rattle.sed_units.specs.declared.classes.Member.{Member}
use Rattle.sed_classes.specs.declared.kit_units.KitUnits.{KitUnits}
use Rattle.sed_classes.specs.declared.source_type.SourceType.{SourceType}
use Rattle.sed_classes.specs.declared.source_type.SourceType.TheVariants as type
use Rattle.sed_classes.specs.Declarations.{all_classes}
use Rattle.sed_classes.specs.Bases.{lineage}
use Rattle.sed_classes.specs.Types.{type_of}
use Rattle.sed_classes.specs.Members.{kit_of, members_of, is_instance_field}
use Rattle.sed_classes.specs.Objects.{type_size, has_form, field_size, data_of, data_size, own_size, size_within, holds_itself}
use Rattle.sed_outline.specs.Rounds.{capped, item, next_sizes, row_of, rounds}
use Rattle.sed_outline.proofs.Rounds.{constant_row, item_is, lineage_behind, members_behind, rounds_reach}
use Rattle.sed_outline.proofs.Inside.{itself_is}

-- ---- sums that stand still

both : (a b c d : ℕ) → capped a ≡ capped c → capped b ≡ capped d → capped (a + b) ≡ capped (c + d)
both a b c d p q = omega arith

pub sums_alike : {X : Type 0} (f g : X → ℕ) → ((x : X) → capped (f x) ≡ capped (g x)) → (xs : List X) →
    capped (sum_by f xs) ≡ capped (sum_by g xs)
sums_alike f g h [] = refl
sums_alike f g h (x ∷ xs) =
    ap capped (sum_by-cons f x xs)
    ∙ both (f x) (sum_by f xs) (g x) (sum_by g xs) (h x) (sums_alike f g h xs)
    ∙ sym (ap capped (sum_by-cons g x xs))

capped_sum : (a b : ℕ) → capped (capped a + capped b) ≡ capped (a + b)
capped_sum a b = omega arith

capped_twice : (n : ℕ) → capped (capped n) ≡ capped n
capped_twice n = omega arith

-- one more item of a row
pub sum_step : {X : Type 0} (count : X → ℕ) (i : ℕ) (xs : List X) (x : X) (far new one : ℕ) →
    i < length xs → get_or xs i x ≡ x → one ≡ capped (count x) → new ≡ capped (far + one) →
    far ≡ capped (sum_by count (take i xs)) → new ≡ capped (sum_by count (take (i + 1) xs))
sum_step count i xs x far new one h at o n f =
    n
    ∙ ap (λ k. capped (k + one)) f
    ∙ ap (λ k. capped (capped (sum_by count (take i xs)) + k)) o
    ∙ capped_sum (sum_by count (take i xs)) (count x)
    ∙ ap capped (ap (λ y. sum_by count (take i xs) + count y) (sym at) ∙ sym (sum_by_more count xs i x h))

-- ---- what a field takes, where sizes of objects stand still

type_alike : (f : ℕ → ℕ) (t : SourceType) → capped (type_size (λ h. capped (f h)) t) ≡ capped (type_size f t)
type_alike f type.Void = refl
type_alike f (type.Prim p) = refl
type_alike f type.Text = refl
type_alike f (type.SizedText n) = refl
type_alike f (type.Buf n) = refl
type_alike f (type.Array p n) = refl
type_alike f (type.Object c) = capped_twice (f c)
type_alike f type.Unknown = refl
type_alike f type.Outside = refl

if_alike : (b : Bool) (m n : ℕ) → capped m ≡ capped n → capped (if b then m else 0) ≡ capped (if b then n else 0)
if_alike true m n e = e
if_alike false m n e = refl

pub field_alike : (units : List KitUnits) (f : ℕ → ℕ) (kit : ℕ) (m : Member) →
    capped (field_size units (λ h. capped (f h)) kit m) ≡ capped (field_size units f kit m)
field_alike units f kit m =
    if_alike
    (has_form units kit m)
    (type_size (λ h. capped (f h)) (type_of units kit m.kind))
    (type_size f (type_of units kit m.kind))
    (type_alike f (type_of units kit m.kind))

pub data_alike : (units : List KitUnits) (f : ℕ → ℕ) (kit : ℕ) (m : Member) →
    capped (data_of units (λ h. capped (f h)) kit m) ≡ capped (data_of units f kit m)
data_alike units f kit m =
    if_alike
    (is_instance_field m)
    (field_size units (λ h. capped (f h)) kit m)
    (field_size units f kit m)
    (field_alike units f kit m)

own_alike : (units : List KitUnits) (f : ℕ → ℕ) (class : ℕ) →
    capped (own_size units (λ h. capped (f h)) class) ≡ capped (own_size units f class)
own_alike units f class =
    sums_alike
    (data_of units (λ h. capped (f h)) (kit_of units class))
    (data_of units f (kit_of units class))
    (data_alike units f (kit_of units class))
    (members_of units class)

-- ---- places behind all classes

pub own_behind : (units : List KitUnits) (f : ℕ → ℕ) (h : ℕ) → length (all_classes units) ≤ h → own_size units f h ≡ 0
own_behind units f h le = ap (sum_by (data_of units f (kit_of units h))) (members_behind units h le)

none_if : (b : Bool) (n : ℕ) → n ≡ 0 → (if b then 0 else n) ≡ 0
none_if true n e = refl
none_if false n e = e

size_behind : (units : List KitUnits) (k h : ℕ) → length (all_classes units) ≤ h → size_within units k h ≡ 0
size_behind units zero h le = refl
size_behind units (suc k) h le =
    none_if
    (holds_itself units h)
    (sum_by (own_size units (size_within units k)) (lineage units h))
    (ap (sum_by (own_size units (size_within units k))) (lineage_behind units h le)
    ∙ omega (arith, own_behind units (size_within units k) h le))

-- ---- one class in a round

pub class_sized : (units : List KitUnits) (sizes own : List ℕ) (holding : List Bool) (class size : ℕ) →
    own ≡ row_of units (λ c. capped (own_size units (item 0 sizes) c)) →
    holding ≡ row_of units (holds_itself units) →
    size ≡ (if item false holding class then 0 else capped (sum_by (item 0 own) (lineage units class))) →
    size ≡ (if holds_itself units class then 0 else capped (sum_by (own_size units (item 0 sizes))
    (lineage units class)))
class_sized units sizes own holding class size o h s =
    s
    ∙ ap
    (λ b. if b then 0 else capped (sum_by (item 0 own) (lineage units class)))
    (ap (λ r. item false r class) h ∙ itself_is units class)
    ∙ ap
    (λ n. if holds_itself units class then 0 else n)
    (ap (λ r. capped (sum_by (item 0 r) (lineage units class))) o
    ∙ sums_alike
    (item 0 (row_of units (λ c. capped (own_size units (item 0 sizes) c))))
    (own_size units (item 0 sizes))
    (λ c.
    ap
    capped
    (item_is units (λ d. capped (own_size units (item 0 sizes) d)) 0 (λ d le. ap capped (own_behind units
    (item 0 sizes) d le)) c)
    ∙ capped_twice (own_size units (item 0 sizes) c))
    (lineage units class))

-- ---- rounds

abbrev capped_within : List KitUnits → ℕ → ℕ → ℕ
capped_within units k class = capped (size_within units k class)

within_behind : (units : List KitUnits) (k h : ℕ) → length (all_classes units) ≤ h → capped_within units k h ≡ 0
within_behind units k h le = ap capped (size_behind units k h le)

sized : (b : Bool) (m n : ℕ) → capped m ≡ capped n → (if b then 0 else capped m) ≡ capped (if b then 0 else n)
sized true m n e = refl
sized false m n e = e

one_deeper : (units : List KitUnits) (k : ℕ) →
    next_sizes units (row_of units (capped_within units k)) ≡ row_of units (capped_within units (suc k))
one_deeper units k =
    ap
    (λ (f : ℕ → ℕ). row_of units (λ class. if holds_itself units class then 0
    else capped (sum_by (own_size units f) (lineage units class))))
    (fun_ext (item_is units (capped_within units k) 0 (within_behind units k)))
    ∙ ap
    (row_of units)
    (fun_ext (λ class.
    sized
    (holds_itself units class)
    (sum_by (own_size units (capped_within units k)) (lineage units class))
    (sum_by (own_size units (size_within units k)) (lineage units class))
    (sums_alike
    (own_size units (capped_within units k))
    (own_size units (size_within units k))
    (own_alike units (size_within units k))
    (lineage units class))))

pub sizes_reached : (units : List KitUnits) →
    rounds (next_sizes units) (length (all_classes units)) (replicate (length (all_classes units)) 0)
    ≡ row_of units (λ class. capped (data_size units class))
sizes_reached units =
    let e : 0 + length (all_classes units) ≡ length (all_classes units) = omega arith in
    ap (rounds (next_sizes units) (length (all_classes units))) (constant_row units 0)
    ∙ rounds_reach units (next_sizes units) (capped_within units) (one_deeper units) (length (all_classes units)) 0
    ∙ ap (λ k. row_of units (capped_within units k)) e

-- ---- what the row of all sizes says of a class, and of a field

size_there : (units : List KitUnits) (class : ℕ) →
    item 0 (row_of units (λ c. capped (data_size units c))) class ≡ capped (data_size units class)
size_there units class =
    item_is
    units
    (λ c. capped (data_size units c))
    0
    (λ h le. ap capped (size_behind units (length (all_classes units)) h le))
    class

pub size_is : (units : List KitUnits) (sizes : List ℕ) (class size : ℕ) →
    sizes ≡ row_of units (λ c. capped (data_size units c)) → size ≡ item 0 sizes class →
    size ≡ capped (data_size units class)
size_is units sizes class size s e = e ∙ ap (λ r. item 0 r class) s ∙ size_there units class

pub field_is : (units : List KitUnits) (sizes : List ℕ) (kit : ℕ) (m : Member) (size : ℕ) →
    sizes ≡ row_of units (λ c. capped (data_size units c)) → size ≡ capped (field_size units (item 0 sizes) kit m) →
    size ≡ capped (field_size units (data_size units) kit m)
field_is units sizes kit m size s e =
    e
    ∙ ap (λ r. capped (field_size units (item 0 r) kit m)) s
    ∙ ap (λ (f : ℕ → ℕ). capped (field_size units f kit m)) (fun_ext (size_there units))
    ∙ field_alike units (data_size units) kit m

pub data_is : (units : List KitUnits) (sizes : List ℕ) (kit : ℕ) (m : Member) (size : ℕ) →
    sizes ≡ row_of units (λ c. capped (data_size units c)) → size ≡ capped (data_of units (item 0 sizes) kit m) →
    size ≡ capped (data_of units (data_size units) kit m)
data_is units sizes kit m size s e =
    e
    ∙ ap (λ r. capped (data_of units (item 0 r) kit m)) s
    ∙ ap (λ (f : ℕ → ℕ). capped (data_of units f kit m)) (fun_ext (size_there units))
    ∙ data_alike units (data_size units) kit m
