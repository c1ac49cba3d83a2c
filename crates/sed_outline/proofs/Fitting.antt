-- Units that break no rule have a schema that can be written down.
use Rattle.std.proofs.Common.{◌≡◌, ◌<◌, ◌≤◌, ◌+◌, ◌==◌, ◌||◌, ℕ, zero, suc, Bool, true, false, nat_lt, if◌then◌else◌, List, [], ◌∷◌, ◌++◌, drop, length, get_or, slice_get, codes, Option, Some, None, All, refl, subst, sym, ap, ◌∙◌, arith}
use Rattle.std.specs.Option.{option_and_then, option_map_or}
use Rattle.std.proofs.lemmas.List.Elements.{All-append}
use Rattle.std.proofs.lemmas.List.Sums.{AllPass-from_list_all, sum_by-cons}
use Rattle.std.proofs.lemmas.Option.{slice_get-get_or, slice_get_within}
use Rattle.std.proofs.lemmas.Bool.Decides.{nat_tests}
use Rattle.sed_value.specs.Names.{is_word}
use Rattle.sed_units.specs.declared.leaves.ModifierWord.TheVariants as word
use Rattle.sed_units.specs.declared.leaves.TypeName.{TypeName}
use Rattle.sed_units.specs.declared.classes.Member.{Member}
use Rattle.sed_classes.specs.declared.kit_units.KitUnits.{KitUnits}
use Rattle.sed_classes.specs.Declarations.{Declaration, all_classes, class_at, declared_in, sys_declares}
use Rattle.sed_classes.specs.SysSource.{component_members, empty_method}
use Rattle.sed_classes.specs.Names.{is_text_name, is_buffer_name}
use Rattle.sed_classes.specs.Bases.{base_named, base_of, base_written, bases, comes_to, gone_on, leads_back}
use Rattle.sed_classes.specs.Members.{members_of}
use Rattle.sed_classes.specs.Objects.{data_size}
use Rattle.sed_classes.specs.NameRules.{base_unfit, is_app, is_no_base}
use Rattle.sed_classes.specs.Faults.{declaration_faults, faults_of}
use Rattle.sed_outline.proofs.Measures.{own_behind}
use Rattle.sed_outline.proofs.Rounds.{base_behind, gone_none, lineage_behind}
use Rattle.sed_outline.specs.Fits.{Fits, IsNamed, Unbroken, Written}
use Rattle.sed_outline.proofs.Infos.{all_at}
use Rattle.sed_outline.proofs.Orders.{others}
use Rattle.sed_outline.proofs.Bounds.{app_most, base_app, base_component, base_folder, base_obj, base_virtual, component_most, declared_most, folder_most, obj_most, own, size_most, virtual_most, whole}
use Rattle.sed_outline.proofs.Climbs.{bases_most, total}
use Rattle.sed_outline.proofs.Ends.{climbed, ends}
use Rattle.sed_outline.proofs.Numbers.{Free, fews, kits_kit, lows}
use Rattle.sed_outline.proofs.Unbroken.{base_free, class_word, member_word, none_from, not_broken, number_free}
use Rattle.sed_value.proofs.Truths.{or_right as or_last}

get_behind : {X : Type 0} (xs ys : List X) (i : ℕ) (d : X) → get_or (xs ++ ys) (length xs + i) d ≡ get_or ys i d
get_behind [] ys i d = let e : 0 + i ≡ i = omega arith in ap (λ n. get_or ys n d) e
get_behind (x ∷ xs) ys i d =
    let e : suc (length xs) + i ≡ suc (length xs + i) = omega arith in
    ap (λ n. get_or (x ∷ (xs ++ ys)) n d) e ∙ get_behind xs ys i d

-- a class that the units declare, by its place among all
declared_at : (units : List KitUnits) (i : ℕ) (d : Declaration) → i < length (declared_in units) →
    class_at units (5 + i) ≡ Some (get_or (declared_in units) i d)
unfolding all_classes
declared_at units i d h =
    slice_get-get_or (all_classes units) (5 + i) d (omega (arith, others units))
    ∙ ap Some (get_behind sys_declares (declared_in units) i d)

-- it breaks no rule
pub declared_free : (units : List KitUnits) (i : ℕ) (d : Declaration) → faults_of units ≡ [] → i < length (declared_in units) →
    declaration_faults units (5 + i) (get_or (declared_in units) i d) ≡ []
unfolding all_classes
declared_free units i d e h = none_from units 5 (declared_in units) i d e h

pub frees : (units : List KitUnits) → faults_of units ≡ [] → All Free (declared_in units)
frees units e i d h = number_free units (5 + i) (get_or (declared_in units) i d) (declared_free units i d e h)

-- ---- what is written

sys_written : (units : List KitUnits) → All (Written (length units)) sys_declares
sys_written units zero d h = record { kit = omega arith; number = omega arith; name = refl }
sys_written units (suc zero) d h = record { kit = omega arith; number = omega arith; name = refl }
sys_written units (suc (suc zero)) d h = record { kit = omega arith; number = omega arith; name = refl }
sys_written units (suc (suc (suc zero))) d h = record { kit = omega arith; number = omega arith; name = refl }
sys_written units (suc (suc (suc (suc zero)))) d h = record { kit = omega arith; number = omega arith; name = refl }
sys_written units (suc (suc (suc (suc (suc i))))) d h = absurd (omega (arith, h))

declared_written : (units : List KitUnits) → Unbroken units → All (Written (length units)) (declared_in units)
declared_written units u i d h = record {
  kit = kits_kit (length units) 1 units (omega arith) i d h;
  number = lows 1 units (frees units u.faultless) i d h;
  name = class_word
      units
      (5 + i)
      (get_or (declared_in units) i d)
      (declared_free units i d u.faultless h)
      (u.spelled i d h).class;
}

written : (units : List KitUnits) → Unbroken units → All (Written (length units)) (all_classes units)
unfolding all_classes
written units u =
    All-append (Written (length units)) sys_declares (declared_in units) (sys_written units) (declared_written units u)

-- ---- names of members

abbrev AreNamed : Declaration → Type 0
AreNamed d = All IsNamed d.class.members

is_named : Member → Bool
is_named m = is_word m.name.bytes

sys_named : All AreNamed sys_declares
unfolding is_named
sys_named zero d h i m k = absurd (omega (arith, k))
sys_named (suc zero) d h i m k = absurd (omega (arith, k))
sys_named (suc (suc zero)) d h i m k = AllPass-from_list_all is_named component_members refl i m k
sys_named (suc (suc (suc zero))) d h i m k =
    AllPass-from_list_all is_named (empty_method word.Action (codes "save") [] ∷ []) refl i m k
sys_named (suc (suc (suc (suc zero)))) d h i m k = absurd (omega (arith, k))
sys_named (suc (suc (suc (suc (suc j))))) d h i m k = absurd (omega (arith, h))

all_named : (units : List KitUnits) → Unbroken units → All AreNamed (all_classes units)
unfolding all_classes
all_named units u =
    All-append
    AreNamed
    sys_declares
    (declared_in units)
    sys_named
    (λ i d h.
    member_word
    units
    (5 + i)
    (get_or (declared_in units) i d)
    (declared_free units i d u.faultless h)
    (u.spelled i d h).members)

named : (units : List KitUnits) → Unbroken units → (class : ℕ) → All IsNamed (members_of units class)
named units u class = by_found (class_at units class) refl
  where
    by_found : (o : Option Declaration) → class_at units class ≡ o → All IsNamed (option_map_or (λ (d : Declaration). d.class.members) o [])
    by_found None e i m h = absurd (omega (arith, h))
    by_found (Some d) e i m h = all_at AreNamed (all_classes units) class d e (all_named units u) i m h

-- ---- nothing leads back

comes_one : (next : ℕ → Option ℕ) (to n at : ℕ) → (at == to) ≡ false → ((m : ℕ) → comes_to next to m (next at) ≡ false) →
    comes_to next to n (Some at) ≡ false
comes_one next to zero at e f = refl
comes_one next to (suc n) at e f = ap (λ b. b || comes_to next to n (next at)) e ∙ f n

comes_none : (next : ℕ → Option ℕ) (to n : ℕ) → comes_to next to n None ≡ false
comes_none next to zero = refl
comes_none next to (suc n) = refl

no_obj : (units : List KitUnits) (to n : ℕ) → comes_to (base_of units) to n (base_of units 0) ≡ false
no_obj units to n = ap (comes_to (base_of units) to n) (base_obj units) ∙ comes_none (base_of units) to n

no_virtual : (units : List KitUnits) (to n : ℕ) → (0 == to) ≡ false → comes_to (base_of units) to n (base_of units 1) ≡ false
no_virtual units to n e =
    ap (comes_to (base_of units) to n) (base_virtual units) ∙ comes_one (base_of units) to n 0 e (no_obj units to)

no_component : (units : List KitUnits) (to n : ℕ) → (0 == to) ≡ false → (1 == to) ≡ false →
    comes_to (base_of units) to n (base_of units 2) ≡ false
no_component units to n e f =
    ap (comes_to (base_of units) to n) (base_component units)
    ∙ comes_one (base_of units) to n 1 f (λ m. no_virtual units to m e)

no_above : (units : List KitUnits) (to n class : ℕ) → base_of units class ≡ Some 2 → (0 == to) ≡ false → (1 == to) ≡ false →
    (2 == to) ≡ false → comes_to (base_of units) to n (base_of units class) ≡ false
no_above units to n class b e f g =
    ap (comes_to (base_of units) to n) b ∙ comes_one (base_of units) to n 2 g (λ m. no_component units to m e f)

-- what a class without `extends` is based on
unnamed_free : (units : List KitUnits) (class n : ℕ) (d : Declaration) → class_at units class ≡ Some d → d.class.base ≡ None →
    5 ≤ class → comes_to (base_of units) class n (base_of units class) ≡ false
unnamed_free units class n d at e h =
    let other : (class == 0) ≡ false = grind (arith, nat_tests) in
    let first : (0 == class) ≡ false = grind (arith, nat_tests) in
    let base : base_of units class ≡ Some 0 =
    ap (λ o. option_and_then (λ (x : Declaration). base_written units class x.kit x.class.base) o) at
    ∙ ap (base_written units class d.kit) e
    ∙ ap (λ b. if b then None else Some 0) other in
    ap (comes_to (base_of units) class n) base ∙ comes_one (base_of units) class n 0 first (no_obj units class)

declared_back : (units : List KitUnits) (class : ℕ) (d : Declaration) → class_at units class ≡ Some d →
    declaration_faults units class d ≡ [] → 5 ≤ class → leads_back units class ≡ false
declared_back units class d at e h = by_base d.class.base refl (base_free units class d e)
  where
    by_base : (b : Option TypeName) → d.class.base ≡ b → base_unfit units class d.kit b ≡ [] → leads_back units class ≡ false
    by_base None same f = unnamed_free units class (length (all_classes units)) d at same h
    by_base (Some name) same f =
        or_last
        (is_text_name name || is_buffer_name name || is_app (base_named units d.kit name))
        (leads_back units class)
        (not_broken (is_no_base units class d.kit name) 3 name.at f)

outside : (units : List KitUnits) (class : ℕ) → class_at units class ≡ None → length (all_classes units) ≤ class
outside units class e = by_test (nat_lt class (length (all_classes units))) refl
  where
    there : (xs : List Declaration) → class < length xs → slice_get xs class ≡ None → ⊥
    there [] h f = absurd (omega (arith, h))
    there (d ∷ ds) h f = let some : slice_get (d ∷ ds) class ≡ Some (get_or (d ∷ ds) class d) = slice_get-get_or (d ∷ ds) class d h in cc

    by_test : (b : Bool) → nat_lt class (length (all_classes units)) ≡ b → length (all_classes units) ≤ class
    by_test true h = absurd (there (all_classes units) (grind (arith, nat_tests)) e)
    by_test false h = grind (arith, nat_tests)

pub found_declared : (units : List KitUnits) (i : ℕ) (d : Declaration) → class_at units (5 + i) ≡ Some d →
    (i < length (declared_in units)) × (get_or (declared_in units) i d ≡ d)
found_declared units i d e =
    let within : 5 + i < length (all_classes units) = slice_get_within (all_classes units) (5 + i) d e in
    let h : i < length (declared_in units) = omega (arith, within, others units) in
    let same : Some (get_or (declared_in units) i d) ≡ Some d = sym (declared_at units i d h) ∙ e in
    (h, cc)

-- what holds of the types of `sys`, of each class that the units declare, and where there is none, holds everywhere
pub everywhere : (P : ℕ → Type 0) (units : List KitUnits) → P 0 → P 1 → P 2 → P 3 → P 4 →
    ((class : ℕ) (d : Declaration) → 5 ≤ class → class_at units class ≡ Some d → declaration_faults units class d ≡ [] → P class) →
    ((class : ℕ) → length (all_classes units) ≤ class → P class) → faults_of units ≡ [] → (class : ℕ) → P class
everywhere P units p0 p1 p2 p3 p4 inner behind none zero = p0
everywhere P units p0 p1 p2 p3 p4 inner behind none (suc zero) = p1
everywhere P units p0 p1 p2 p3 p4 inner behind none (suc (suc zero)) = p2
everywhere P units p0 p1 p2 p3 p4 inner behind none (suc (suc (suc zero))) = p3
everywhere P units p0 p1 p2 p3 p4 inner behind none (suc (suc (suc (suc zero)))) = p4
everywhere P units p0 p1 p2 p3 p4 inner behind none (suc (suc (suc (suc (suc i))))) =
    let same : 5 + i ≡ suc (suc (suc (suc (suc i)))) = omega arith in
    subst P same (by_found (class_at units (5 + i)) refl)
  where
    by_found : (o : Option Declaration) → class_at units (5 + i) ≡ o → P (5 + i)
    by_found None e = behind (5 + i) (outside units (5 + i) e)
    by_found (Some d) e =
        let known = found_declared units i d e in
        inner
        (5 + i)
        d
        (omega arith)
        e
        (sym (ap (declaration_faults units (5 + i)) known.1) ∙ declared_free units i d none known.0)

pub no_back : (units : List KitUnits) → faults_of units ≡ [] → (class : ℕ) →
    comes_to (base_of units) class (length (all_classes units)) (base_of units class) ≡ false
no_back units none class =
    everywhere
    (λ c. comes_to (base_of units) c (length (all_classes units)) (base_of units c) ≡ false)
    units
    (no_obj units 0 (length (all_classes units)))
    (no_virtual units 1 (length (all_classes units)) refl)
    (no_component units 2 (length (all_classes units)) refl refl)
    (no_above units 3 (length (all_classes units)) 3 (base_app units) refl refl refl)
    (no_above units 4 (length (all_classes units)) 4 (base_folder units) refl refl refl)
    (λ c d h at e. declared_back units c d at e h)
    (λ c le.
    ap (comes_to (base_of units) c (length (all_classes units))) (base_behind units c le)
    ∙ comes_none (base_of units) c (length (all_classes units)))
    none
    class

pub inside : (units : List KitUnits) (class base : ℕ) → base_of units class ≡ Some base → class < length (all_classes units)
inside units class base e = by_test (nat_lt class (length (all_classes units))) refl
  where
    by_test : (b : Bool) → nat_lt class (length (all_classes units)) ≡ b → class < length (all_classes units)
    by_test true h = grind (arith, nat_tests)
    by_test false h =
        let none : base_of units class ≡ None = base_behind units class (grind (arith, nat_tests)) in
        cc

-- ---- sizes

behind_most : (units : List KitUnits) (class : ℕ) → length (all_classes units) ≤ class → whole units class ≤ 65535
behind_most units class le =
    omega (
      arith,
      ap (total (own units)) (lineage_behind units class le),
      sum_by-cons (own units) class [],
      own_behind units (data_size units) class le,
    )

-- where the bases of a class take no more, neither does it with them
bounded : (units : List KitUnits) → faults_of units ≡ [] → (class : ℕ) →
    total (own units) (bases units class) ≤ 65535 → whole units class ≤ 65535
bounded units none class =
    everywhere
    (λ c. total (own units) (bases units c) ≤ 65535 → whole units c ≤ 65535)
    units
    (λ h. omega (arith, obj_most units))
    (λ h. omega (arith, virtual_most units))
    (λ h. omega (arith, component_most units))
    (λ h. omega (arith, app_most units))
    (λ h. omega (arith, folder_most units))
    (λ c d h at e. declared_most units c d at e)
    (λ c le h. behind_most units c le)
    none
    class

no_bases : (units : List KitUnits) (class : ℕ) → base_of units class ≡ None → total (own units) (bases units class) ≡ 0
no_bases units class e =
    ap
    (λ (cs : List ℕ). total (own units) (drop 1 cs))
    (ap (gone_on (base_of units) (length (all_classes units)) (class ∷ [])) e
    ∙ gone_none (base_of units) (length (all_classes units)) (class ∷ []))

base_bases : (units : List KitUnits) (class base : ℕ) → base_of units class ≡ Some base →
    total (own units) (bases units class) ≤ whole units base
base_bases units class base e =
    subst
    (λ o. total (own units) (drop 1 (gone_on (base_of units) (length (all_classes units)) (class ∷ []) o)) ≤ whole units base)
    (sym e)
    (bases_most (own units) (base_of units) (length (all_classes units)) class base)

whole_most : (units : List KitUnits) → faults_of units ≡ [] → (class : ℕ) → whole units class ≤ 65535
whole_most units none class =
    climbed
    (λ c. whole units c ≤ 65535)
    (base_of units)
    (λ c e. bounded units none c (omega (arith, no_bases units c e)))
    (λ c base e most. bounded units none c (omega (arith, base_bases units c base e, most)))
    (suc (length (all_classes units)))
    class
    (ends (base_of units) (length (all_classes units)) (no_back units none) (inside units) class)

-- ---- all together

pub fits : (units : List KitUnits) → Unbroken units → Fits units
fits units u = record {
  kits = u.kits;
  count = omega (arith, others units, fews 1 units (frees units u.faultless), u.kits);
  written = written units u;
  named = named units u;
  sizes = λ class. omega (arith, size_most units class, whole_most units u.faultless class);
}
