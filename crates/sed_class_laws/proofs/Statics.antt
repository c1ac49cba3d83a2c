-- The statics of a program take less than 65,536 bytes.
use Rattle.std.proofs.Common.{◌≡◌, ◌<◌, ◌≤◌, ◌+◌, ◌==◌, ◌&&◌, ℕ, zero, suc, Bool, true, false, not, if◌then◌else◌, List, [], ◌∷◌, ◌++◌, drop, filter, length, get_or, slice_get, take, Option, Some, None, All, refl, sym, ap, ◌∙◌, subst, arith}
use Rattle.std.specs.List.{enumerate_from, filter_map, flat_map, sum_by, range_with_len}
use Rattle.std.specs.Option.{option_map_or}
use Rattle.std.proofs.lemmas.List.Sums.{sum_by-append, sum_by-cons, sum_by_more}
use Rattle.std.proofs.lemmas.Option.{slice_get-get_or}
use Rattle.sed_units.specs.declared.classes.Member.{Member}
use Rattle.sed_typed.specs.declared.program.Field.{Field}
use Rattle.sed_typed.specs.declared.program.Program.{Program}
use Rattle.sed_typed.specs.Typed.{statics_size}
use Rattle.sed_typed.specs.Sizes as sizes
use Rattle.sed_faults.specs.Faults.{broken_if}
use Rattle.sed_classes.specs.declared.kit_units.KitUnits.{KitUnits}
use Rattle.sed_classes.specs.Declarations.{Declaration, all_classes, class_at, declared_in, sys_declares}
use Rattle.sed_classes.specs.Members.{is_static_field, kit_of, members_of}
use Rattle.sed_classes.specs.Objects.{data_size, field_size}
use Rattle.sed_classes.specs.LimitRules.{passes, static_of, statics_before, statics_of}
use Rattle.sed_classes.specs.Schema.{class_order, schema_of}
use Rattle.sed_classes.specs.Faults.{declaration_faults}
use Rattle.sed_program.specs.Fields.{field_of, fields_of, own_statics}
use Rattle.sed_outline.specs.Fits.{Unbroken}
use Rattle.sed_outline.proofs.Bounds.{grown}
use Rattle.sed_outline.proofs.Fitting.{declared_free}
use Rattle.sed_outline.proofs.Orders.{others}
use Rattle.sed_outline.proofs.Unbroken.{not_broken}
use Rattle.sed_program.proofs.Infos.{places_sum, sum_same}
use Rattle.sed_program.proofs.Lineages.{places}
use Rattle.sed_program.proofs.Order.{order_sum}
use Rattle.sed_class_laws.proofs.Rules.{none_numbered, statics_small}
use Rattle.sed_class_laws.proofs.Sizes.{data_same, fields_sized, sized, sum_filter}
use Rattle.sed_program.specs.Fields as spelled

-- ---- one class

-- what the statics of the class at a place take
abbrev taken : List KitUnits → ℕ → ℕ
taken units class = option_map_or (statics_of units) (class_at units class) 0

taken_is : (units : List KitUnits) (class : ℕ) →
    sum_by (λ m. if is_static_field m then field_size units (data_size units) (kit_of units class) m
    else 0) (members_of units class) ≡ taken units class
taken_is units class = by_class (class_at units class)
  where
    by_class : (o : Option Declaration) →
        sum_by (λ m. if is_static_field m then field_size units (data_size units) (option_map_or (λ
        (d : Declaration). d.kit) o 0) m else 0)
        (option_map_or (λ (d : Declaration). d.class.members) o [])
        ≡ option_map_or (statics_of units) o 0
    by_class None = refl
    by_class (Some d) = refl

-- ---- all classes, by their places

no_member_passes : (units : List KitUnits) (class : ℕ) (d : Declaration) → declaration_faults units class d ≡ [] →
    (i : ℕ) (m : Member) → i < length d.class.members →
    passes
    65535
    (statics_before units class + sum_by (static_of units d.kit) (take i d.class.members))
    (static_of units d.kit (get_or d.class.members i m))
    ≡ false
no_member_passes units class d free i m h =
    let found : Member = get_or d.class.members i m in
    not_broken
    (passes
    65535
    (statics_before units class + sum_by (static_of units d.kit) (take i d.class.members))
    (static_of units d.kit found))
    22
    found.at
    (none_numbered
    (λ j (n : Member). broken_if (passes 65535 (statics_before units class + sum_by (static_of units d.kit)
    (take j d.class.members)) (static_of units d.kit n)) 22 n.at)
    d.class.members
    i
    found
    (statics_small units class d free)
    (slice_get-get_or d.class.members i m h))

sys_take : (units : List KitUnits) → statics_before units 5 ≡ 0
unfolding all_classes
sys_take units = refl

get_behind : {X : Type 0} (xs ys : List X) (i : ℕ) (d : X) → get_or (xs ++ ys) (length xs + i) d ≡ get_or ys i d
get_behind [] ys i d = let e : 0 + i ≡ i = omega arith in ap (λ n. get_or ys n d) e
get_behind (x ∷ xs) ys i d =
    let e : suc (length xs) + i ≡ suc (length xs + i) = omega arith in
    ap (λ n. get_or (x ∷ (xs ++ ys)) n d) e ∙ get_behind xs ys i d

all_at : (units : List KitUnits) (i : ℕ) (d : Declaration) →
    get_or (all_classes units) (5 + i) d ≡ get_or (declared_in units) i d
unfolding all_classes
all_at units i d = get_behind sys_declares (declared_in units) i d

one_more : (units : List KitUnits) → Unbroken units → (i : ℕ) (d : Declaration) → i < length (declared_in units) →
    statics_before units (5 + i) ≤ 65535 →
    statics_before units (5 + i + 1) ≤ 65535
one_more units u i d h le =
    let found : Declaration = get_or (declared_in units) i d in
    omega (
      arith,
      sum_by_more (statics_of units) (all_classes units) (5 + i) d (omega (arith, h, others units)),
      ap (statics_of units) (all_at units i d),
      grown
          65535
          (statics_before units (5 + i))
          (static_of units found.kit)
          found.class.members
          (no_member_passes units (5 + i) found (declared_free units i d u.faultless h))
          le,
    )

before_most : (units : List KitUnits) → Unbroken units → (d : Declaration) (i : ℕ) → i ≤ length (declared_in units) →
    statics_before units (5 + i) ≤ 65535
before_most units u d zero h =
    let e : 5 + 0 ≡ 5 = omega arith in
    omega (arith, ap (statics_before units) e, sys_take units)
before_most units u d (suc i) h =
    let e : 5 + suc i ≡ 5 + i + 1 = omega arith in
    omega (
      arith,
      ap (statics_before units) e,
      one_more units u i d (omega (arith, h)) (before_most units u d i (omega (arith, h))),
    )

all_of : {X : Type 0} (xs : List X) → take (length xs) xs ≡ xs
all_of [] = refl
all_of (x ∷ xs) = ap (λ r. x ∷ r) (all_of xs)

pub some_declaration : (units : List KitUnits) → Declaration
unfolding all_classes
some_declaration units = first (all_classes units) (omega (arith, others units))
  where
    first : (ds : List Declaration) → 0 < length ds → Declaration
    first [] h = absurd (omega (arith, h))
    first (d ∷ ds) h = d

all_most : (units : List KitUnits) → Unbroken units → sum_by (statics_of units) (all_classes units) ≤ 65535
all_most units u =
    omega (
      arith,
      before_most units u (some_declaration units) (length (declared_in units)) (omega arith),
      ap (statics_before units) (others units),
      ap (sum_by (statics_of units)) (all_of (all_classes units)),
    )

-- ---- the program's

numbered_sum : (units : List KitUnits) (f : ℕ → ℕ) (w : Field → ℕ) (g : ℕ × ℕ → List Field) → ((c : ℕ × ℕ) →
    sum_by w (g c) ≡ f c.1) →
    (a : ℕ) (xs : List ℕ) → sum_by w (flat_map g (enumerate_from a xs)) ≡ sum_by f xs
numbered_sum units f w g h a [] = refl
numbered_sum units f w g h a (x ∷ xs) =
    sum_by-append w (g (a, x)) (flat_map g (enumerate_from (a + 1) xs))
    ∙ omega (arith, h (a, x), numbered_sum units f w g h (a + 1) xs, sum_by-cons f x xs)

pub statics_most : (units : List KitUnits) → Unbroken units → (program : Program) → program.schema ≡ schema_of units →
    program.fields ≡ fields_of units →
    program.statics ≡ spelled.statics_of units → statics_size program < 65536
statics_most units u program s f t =
    omega (
      arith,
      ap (sum_by (sized (sizes.data_size program))) t,
      numbered_sum
          units
          (taken units)
          (sized (sizes.data_size program))
          (λ (c : ℕ × ℕ). filter_map (field_of units c.0 c.1) (own_statics units c.1))
          (λ c.
          fields_sized units u (sizes.data_size program) (data_size units) (data_same units u program s f) c.0 c.1
          (own_statics units c.1)
          ∙ sum_filter is_static_field (field_size units (data_size units) (kit_of units c.1)) (members_of units c.1)
          ∙ taken_is units c.1)
          0
          (class_order units),
      order_sum units u (taken units),
      places_sum (statics_of units) (all_classes units),
      all_most units u,
    )
