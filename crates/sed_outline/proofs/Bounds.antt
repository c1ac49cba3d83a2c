-- Units that break no rule: their objects take no more than 65,535 bytes.
use Rattle.std.proofs.Common.{◌≡◌, ◌<◌, ◌≤◌, ◌+◌, ℕ, zero, suc, Bool, true, false, nat_lt, if◌then◌else◌, List, [], ◌∷◌, ◌++◌, drop, take, length, get_or, codes, Option, Some, None, refl, subst, sym, ap, ◌∙◌, arith}
use Rattle.std.specs.List.{flat_map, position_or_len, sum_by}
use Rattle.std.specs.Option.{option_map_or, option_or}
use Rattle.std.proofs.lemmas.List.Sums.{sum_by-cons, sum_by_more}
use Rattle.std.proofs.lemmas.Bool.Decides.{nat_tests}
use Rattle.sed_units.specs.declared.classes.Member.{Member}
use Rattle.sed_faults.specs.Faults.{said_from}
use Rattle.sed_classes.specs.declared.kit_units.KitUnits.{KitUnits}
use Rattle.sed_classes.specs.declared.source_type.SourceType.{SourceType}
use Rattle.sed_classes.specs.declared.source_type.SourceType.TheVariants as type
use Rattle.sed_classes.specs.Declarations.{Declaration, all_classes, class_at}
use Rattle.sed_classes.specs.Names.{class_among, class_in, is_named}
use Rattle.sed_classes.specs.Bases.{base_of, bases, gone_on, lineage}
use Rattle.sed_classes.specs.Types.{type_of}
use Rattle.sed_classes.specs.Members.{is_instance_field, kit_of, members_of}
use Rattle.sed_classes.specs.Objects.{data_of, data_size, field_size, has_form, holds_itself, own_size, size_within, type_size}
use Rattle.sed_classes.specs.FieldRules.{object_not_fit, value_not_fit}
use Rattle.sed_classes.specs.LimitRules.{own_sum, passes, too_many_statics, too_much_data}
use Rattle.sed_classes.specs.Faults.{count_faults, declaration_faults, form_faults, value_faults}
use Rattle.sed_outline.proofs.Rounds.{gone_none}
use Rattle.sed_outline.proofs.Climbs.{bases_most, parted, total}
use Rattle.sed_outline.proofs.Orders.{others}
use Rattle.sed_outline.proofs.Unbroken.{none_left, none_right, none_said, not_broken}

-- ---- sizes one deeper are no less

sum_most : {X : Type 0} (f g : X → ℕ) → ((x : X) → f x ≤ g x) → (xs : List X) → sum_by f xs ≤ sum_by g xs
sum_most f g h [] = omega arith
sum_most f g h (x ∷ xs) = omega (arith, sum_by-cons f x xs, sum_by-cons g x xs, h x, sum_most f g h xs)

type_more : (f g : ℕ → ℕ) → ((h : ℕ) → f h ≤ g h) → (t : SourceType) → type_size f t ≤ type_size g t
type_more f g h type.Void = omega arith
type_more f g h (type.Prim p) = omega arith
type_more f g h type.Text = omega arith
type_more f g h (type.SizedText n) = omega arith
type_more f g h (type.Buf n) = omega arith
type_more f g h (type.Array p n) = omega arith
type_more f g h (type.Object c) = h c
type_more f g h type.Unknown = omega arith
type_more f g h type.Outside = omega arith

if_more : (b : Bool) (m n : ℕ) → m ≤ n → (if b then m else 0) ≤ (if b then n else 0)
if_more true m n e = e
if_more false m n e = omega arith

unless_more : (b : Bool) (m n : ℕ) → m ≤ n → (if b then 0 else m) ≤ (if b then 0 else n)
unless_more true m n e = omega arith
unless_more false m n e = e

data_more : (units : List KitUnits) (f g : ℕ → ℕ) → ((h : ℕ) → f h ≤ g h) → (kit : ℕ) (m : Member) → data_of units f kit m ≤ data_of units g kit m
data_more units f g h kit m =
    if_more
    (is_instance_field m)
    (field_size units f kit m)
    (field_size units g kit m)
    (if_more
    (has_form units kit m)
    (type_size f (type_of units kit m.kind))
    (type_size g (type_of units kit m.kind))
    (type_more f g h (type_of units kit m.kind)))

own_more : (units : List KitUnits) (f g : ℕ → ℕ) → ((h : ℕ) → f h ≤ g h) → (class : ℕ) → own_size units f class ≤ own_size units g class
own_more units f g h class =
    sum_most
    (data_of units f (kit_of units class))
    (data_of units g (kit_of units class))
    (data_more units f g h (kit_of units class))
    (members_of units class)

deeper : (units : List KitUnits) (k class : ℕ) → size_within units k class ≤ size_within units (suc k) class
deeper units zero class = omega arith
deeper units (suc k) class =
    unless_more
    (holds_itself units class)
    (sum_by (own_size units (size_within units k)) (lineage units class))
    (sum_by (own_size units (size_within units (suc k))) (lineage units class))
    (sum_most
    (own_size units (size_within units k))
    (own_size units (size_within units (suc k)))
    (own_more units (size_within units k) (size_within units (suc k)) (deeper units k))
    (lineage units class))

-- what an object takes with all that it inherits
abbrev pub own : List KitUnits → ℕ → ℕ
own units class = own_size units (data_size units) class

abbrev pub whole : List KitUnits → ℕ → ℕ
whole units class = total (own units) (lineage units class)

unless_most : (b : Bool) (n : ℕ) → (if b then 0 else n) ≤ n
unless_most true n = omega arith
unless_most false n = omega arith

pub size_most : (units : List KitUnits) (class : ℕ) → data_size units class ≤ whole units class
size_most units class =
    omega (arith, deeper units (length (all_classes units)) class, unless_most (holds_itself units class) (whole units class))

-- ---- a sum that passes its bound with no member stays within it

stays_within : (most before more : ℕ) → passes most before more ≡ false → before ≤ most → before + more ≤ most
stays_within most before more e le = grind (arith, nat_tests)

grows : (most before : ℕ) (f : Member → ℕ) (ms : List Member) (m : Member) →
    ((i : ℕ) → i < length ms → passes most (before + sum_by f (take i ms)) (f (get_or ms i m)) ≡ false) →
    before ≤ most → (i : ℕ) → i ≤ length ms → before + sum_by f (take i ms) ≤ most
grows most before f ms m none le zero h = omega arith
grows most before f ms m none le (suc i) h =
    let far : before + sum_by f (take i ms) ≤ most = grows most before f ms m none le i (omega (arith, h)) in
    let next : before + sum_by f (take i ms) + f (get_or ms i m) ≤ most =
    stays_within most (before + sum_by f (take i ms)) (f (get_or ms i m)) (none i (omega (arith, h))) far in
    let same : i + 1 ≡ suc i = omega arith in
    let more : sum_by f (take (suc i) ms) ≡ sum_by f (take i ms) + f (get_or ms i m) =
    ap (λ k. sum_by f (take k ms)) (sym same) ∙ sum_by_more f ms i m (omega (arith, h)) in
    omega (arith, next, more)

all_of : {X : Type 0} (xs : List X) → take (length xs) xs ≡ xs
all_of [] = refl
all_of (x ∷ xs) = ap (λ r. x ∷ r) (all_of xs)

pub grown : (most before : ℕ) (f : Member → ℕ) (ms : List Member) →
    ((i : ℕ) (m : Member) → i < length ms → passes most (before + sum_by f (take i ms)) (f (get_or ms i m)) ≡ false) →
    before ≤ most → before + sum_by f ms ≤ most
grown most before f [] none le = omega arith
grown most before f (m ∷ ms) none le =
    subst
    (λ xs. before + sum_by f xs ≤ most)
    (all_of (m ∷ ms))
    (grows most before f (m ∷ ms) m (λ i h. none i m h) le (length (m ∷ ms)) (omega arith))

-- ---- the limit on data, at one class

data_none : (units : List KitUnits) (class : ℕ) (d : Declaration) → declaration_faults units class d ≡ [] →
    said_from (too_much_data units class d) 0 d.class.members ≡ []
data_none units class d e =
    none_right
    (flat_map (object_not_fit units d.kit) d.class.members ++ flat_map (value_not_fit units class d.kit) d.class.members)
    (said_from (too_much_data units class d) 0 d.class.members)
    (none_left
    (flat_map (object_not_fit units d.kit) d.class.members ++ flat_map (value_not_fit units class d.kit) d.class.members
    ++ said_from (too_much_data units class d) 0 d.class.members)
    (said_from (too_many_statics units class d) 0 d.class.members)
    (none_right (form_faults units class d ++ count_faults units class d) (value_faults units class d) e))

no_member_passes : (units : List KitUnits) (class : ℕ) (d : Declaration) → declaration_faults units class d ≡ [] →
    (i : ℕ) (m : Member) → i < length d.class.members →
    passes
    65535
    (sum_by (own_sum (data_of units (data_size units)) units) (bases units class)
    + sum_by (data_of units (data_size units) d.kit) (take i d.class.members))
    (data_of units (data_size units) d.kit (get_or d.class.members i m))
    ≡ false
no_member_passes units class d e i m h =
    let at : 0 + i ≡ i = omega arith in
    let found : Member = get_or d.class.members i m in
    not_broken
    (passes
    65535
    (sum_by (own_sum (data_of units (data_size units)) units) (bases units class)
    + sum_by (data_of units (data_size units) d.kit) (take i d.class.members))
    (data_of units (data_size units) d.kit found))
    22
    found.at
    (sym (ap (λ n. too_much_data units class d n found) at)
    ∙ none_said (too_much_data units class d) 0 d.class.members i m (data_none units class d e) h)

own_is : (units : List KitUnits) (class : ℕ) (d : Declaration) → class_at units class ≡ Some d →
    own units class ≡ sum_by (data_of units (data_size units) d.kit) d.class.members
own_is units class d e =
    ap
    (λ (o : Option Declaration). sum_by (data_of units (data_size units) (option_map_or (λ (x : Declaration). x.kit) o 0)) (option_map_or (λ (x : Declaration). x.class.members) o []))
    e

-- the class with its bases takes no more, if these alone do not
pub declared_most : (units : List KitUnits) (class : ℕ) (d : Declaration) → class_at units class ≡ Some d →
    declaration_faults units class d ≡ [] → total (own units) (bases units class) ≤ 65535 → whole units class ≤ 65535
declared_most units class d at e le =
    omega (
      arith,
      parted (own units) (base_of units) (length (all_classes units)) class (base_of units class),
      own_is units class d at,
      grown
          65535
          (total (own units) (bases units class))
          (data_of units (data_size units) d.kit)
          d.class.members
          (no_member_passes units class d e)
          le,
    )

-- ---- the types of `sys`

pub named : (units : List KitUnits) (name : List ℕ) (i : ℕ) → position_or_len (is_named name 0) (all_classes units) ≡ i → i < 5 →
    class_in units name 0 ≡ Some i
named units name i e h =
    ap (λ n. if nat_lt n (length (all_classes units)) then Some n else None) e
    ∙ ap (λ b. if b then Some i else None) (within (length (all_classes units)) (omega (arith, others units)))
  where
    within : (n : ℕ) → i < n → nat_lt i n ≡ true
    within n h = grind (arith, nat_tests)

-- the base of a type of `sys` stands in `sys`
based : (units : List KitUnits) (class : ℕ) (name : List ℕ) (i : ℕ) →
    base_of units class ≡ option_or (class_in units name 0) (class_among units name []) →
    position_or_len (is_named name 0) (all_classes units) ≡ i → i < 5 → base_of units class ≡ Some i
based units class name i e p h = e ∙ ap (λ o. option_or o (class_among units name [])) (named units name i p h)

pub base_obj : (units : List KitUnits) → base_of units 0 ≡ None
unfolding all_classes
base_obj units = refl

pub base_virtual : (units : List KitUnits) → base_of units 1 ≡ Some 0
unfolding all_classes
base_virtual units = based units 1 (codes "Obj") 0 refl refl (omega arith)

pub base_component : (units : List KitUnits) → base_of units 2 ≡ Some 1
unfolding all_classes
base_component units = based units 2 (codes "Virtual") 1 refl refl (omega arith)

pub base_app : (units : List KitUnits) → base_of units 3 ≡ Some 2
unfolding all_classes
base_app units = based units 3 (codes "Component") 2 refl refl (omega arith)

pub base_folder : (units : List KitUnits) → base_of units 4 ≡ Some 2
unfolding all_classes
base_folder units = based units 4 (codes "Component") 2 refl refl (omega arith)

sys_owns : (units : List KitUnits) →
    (own units 0 ≡ 0) × (own units 1 ≡ 0) × (own units 2 ≡ 4) × (own units 3 ≡ 0) × (own units 4 ≡ 0)
unfolding all_classes
sys_owns units = (refl, refl, refl, refl, refl)

-- a class with its base takes what it takes itself and what the base comes to
pub step_most : (units : List KitUnits) (class base : ℕ) → base_of units class ≡ Some base →
    whole units class ≤ own units class + whole units base
step_most units class base e =
    omega (
      arith,
      parted (own units) (base_of units) (length (all_classes units)) class (base_of units class),
      subst
          (λ o. total (own units) (drop 1 (gone_on (base_of units) (length (all_classes units)) (class ∷ []) o)) ≤ whole units base)
          (sym e)
          (bases_most (own units) (base_of units) (length (all_classes units)) class base),
    )

pub alone_most : (units : List KitUnits) (class : ℕ) → base_of units class ≡ None → whole units class ≤ own units class
alone_most units class e =
    omega (
      arith,
      ap
          (total (own units))
          (ap (gone_on (base_of units) (length (all_classes units)) (class ∷ [])) e
          ∙ gone_none (base_of units) (length (all_classes units)) (class ∷ [])),
      sum_by-cons (own units) class [],
    )

pub obj_most : (units : List KitUnits) → whole units 0 ≤ 0
obj_most units = omega (arith, alone_most units 0 (base_obj units), (sys_owns units).0)

pub virtual_most : (units : List KitUnits) → whole units 1 ≤ 0
virtual_most units = omega (arith, step_most units 1 0 (base_virtual units), (sys_owns units).1, obj_most units)

pub component_most : (units : List KitUnits) → whole units 2 ≤ 4
component_most units = omega (arith, step_most units 2 1 (base_component units), (sys_owns units).2, virtual_most units)

pub app_most : (units : List KitUnits) → whole units 3 ≤ 4
app_most units = omega (arith, step_most units 3 2 (base_app units), (sys_owns units).3, component_most units)

pub folder_most : (units : List KitUnits) → whole units 4 ≤ 4
folder_most units = omega (arith, step_most units 4 2 (base_folder units), (sys_owns units).4, component_most units)
