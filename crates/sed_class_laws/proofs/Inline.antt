-- Objects in objects, where units break no rule: none stands in itself.
use Rattle.std.proofs.Common.{◌≡◌, ◌+◌, ◌==◌, ◌||◌, ℕ, zero, suc, Bool, true, false, not, if◌then◌else◌, List, [], slice_get, Option, Some, None, refl, sym, ap, ◌∙◌, arith}
use Rattle.std.specs.List.{filter_map, list_any}
use Rattle.std.specs.Option.{option_map_or}
use Rattle.sed_units.specs.declared.classes.Member.{Member}
use Rattle.sed_classes.specs.declared.kit_units.KitUnits.{KitUnits}
use Rattle.sed_classes.specs.Declarations.{Declaration, all_classes, class_at}
use Rattle.sed_classes.specs.Bases.{is_below, lineage}
use Rattle.sed_classes.specs.SysSource.{component_class}
use Rattle.sed_classes.specs.Members.{is_instance_field, kit_of, members_of}
use Rattle.sed_classes.specs.Objects.{has_field, holds_itself, holds_within, inline_class}
use Rattle.sed_classes.specs.FieldRules.{is_abstract_at, is_no_object_class}
use Rattle.sed_classes.specs.Faults.{declaration_faults}
use Rattle.sed_outline.specs.Rounds.{inline_in, inline_of, inline_own}
use Rattle.sed_outline.proofs.Inside.{held_classes}
use Rattle.sed_outline.proofs.Rounds.{members_behind}
use Rattle.sed_outline.specs.Fits.{Unbroken}
use Rattle.sed_outline.proofs.Fitting.{everywhere}
use Rattle.sed_program.proofs.OrderLists.{is_itself, is_same}
use Rattle.sed_program.proofs.Lineages.{places}
use Rattle.sed_class_laws.proofs.Has.{Has, any_from, any_is, either, has_flat, has_map, or_left, or_right}
use Rattle.sed_class_laws.proofs.Rules.{object_fit}
use Rattle.sed_value.proofs.Truths.{or_right as or_last}

-- ---- one step inside

holds_step : (units : List KitUnits) (k inner class : ℕ) →
    holds_within units (suc k) inner class ≡ list_any (λ h. (h == inner) || holds_within units k inner h)
    (inline_in units class)
holds_step units k inner class = held_classes (λ h. (h == inner) || holds_within units k inner h) units
    (lineage units class)

pub holds_first : (units : List KitUnits) (k inner class h : ℕ) → Has (inline_in units class) h →
    ((h == inner) || holds_within units k inner h) ≡ true → holds_within units (suc k) inner class ≡ true
holds_first units k inner class h i t =
    holds_step units k inner class ∙ any_from (λ x. (x == inner) || holds_within units k inner x)
    (inline_in units class) h i t

pub holds_inside : (units : List KitUnits) (k inner class : ℕ) → holds_within units (suc k) inner class ≡ true →
    (h : ℕ) × Has (inline_in units class) h × (((h == inner) || holds_within units k inner h) ≡ true)
holds_inside units k inner class e =
    any_is (λ x. (x == inner) || holds_within units k inner x) (inline_in units class) (sym
    (holds_step units k inner class) ∙ e)

-- ---- one deeper, and further on

pub holds_more : (units : List KitUnits) (k inner class : ℕ) → holds_within units k inner class ≡ true →
    holds_within units (suc k) inner class ≡ true
holds_more units zero inner class e = cc
holds_more units (suc k) inner class e =
    let first = holds_inside units k inner class e in
    holds_first
    units
    (suc k)
    inner
    class
    first.0
    first.1
    (either
    (first.0 == inner)
    (holds_within units k inner first.0)
    first.2
    (((first.0 == inner) || holds_within units (suc k) inner first.0) ≡ true)
    (λ s. or_left (first.0 == inner) (holds_within units (suc k) inner first.0) s)
    (λ s. or_right (first.0 == inner) (holds_within units (suc k) inner first.0) (holds_more units k inner first.0 s)))

pub holds_most : (units : List KitUnits) (k j inner class : ℕ) → holds_within units k inner class ≡ true →
    holds_within units (j + k) inner class ≡ true
holds_most units k zero inner class e =
    let same : 0 + k ≡ k = omega arith in
    ap (λ n. holds_within units n inner class) same ∙ e
holds_most units k (suc j) inner class e =
    let same : suc j + k ≡ suc (j + k) = omega arith in
    ap (λ n. holds_within units n inner class) same ∙ holds_more units (j + k) inner class
    (holds_most units k j inner class e)

pub holds_on : (units : List KitUnits) (k inner class z : ℕ) → holds_within units k inner class ≡ true →
    Has (inline_in units inner) z →
    holds_within units (suc k) z class ≡ true
holds_on units zero inner class z e i = cc
holds_on units (suc k) inner class z e i =
    let first = holds_inside units k inner class e in
    holds_first
    units
    (suc k)
    z
    class
    first.0
    first.1
    (or_right
    (first.0 == z)
    (holds_within units (suc k) z first.0)
    (either
    (first.0 == inner)
    (holds_within units k inner first.0)
    first.2
    (holds_within units (suc k) z first.0 ≡ true)
    (λ s.
    ap (holds_within units (suc k) z) (is_same first.0 inner s)
    ∙ holds_first units k z inner z i (or_left (z == z) (holds_within units k z z) (is_itself z)))
    (λ s. holds_on units k inner first.0 z s i)))

-- ---- the rule on objects

-- the class of an inline object is one that may be
abbrev pub Fit : List KitUnits → ℕ → Type 0
Fit units h = is_no_object_class units h ≡ false

abbrev OwnFit : List KitUnits → ℕ → Type 0
OwnFit units class = (h : ℕ) → Has (inline_own units class) h → Fit units h

nothing_fit : (units : List KitUnits) (class : ℕ) → inline_own units class ≡ [] → OwnFit units class
nothing_fit units class e h i = let none : false ≡ true = sym (ap (list_any (λ x. x == h)) e) ∙ i in cc

sys_inline : (units : List KitUnits) →
    (inline_own units 0 ≡ []) × (inline_own units 1 ≡ []) × (inline_own units 2 ≡ []) × (inline_own units 3
    ≡ []) × (inline_own units 4 ≡ [])
unfolding all_classes
sys_inline units = (refl, refl, refl, refl, refl)

inline_found : (units : List KitUnits) (kit h : ℕ) (m : Member) → inline_of units kit m ≡ Some h →
    inline_class units kit m ≡ Some h
inline_found units kit h m e = by_test (is_instance_field m) e
  where
    by_test : (b : Bool) → (if b then inline_class units kit m else None) ≡ Some h → inline_class units kit m ≡ Some h
    by_test true f = f
    by_test false f = cc

declared_fit : (units : List KitUnits) (class : ℕ) (d : Declaration) → class_at units class ≡ Some d →
    declaration_faults units class d ≡ [] → OwnFit units class
declared_fit units class d at free h i =
    let members : members_of units class ≡ d.class.members = ap (λ (o : Option Declaration). option_map_or (λ
    (x : Declaration). x.class.members) o []) at in
    let kit : kit_of units class ≡ d.kit = ap (λ (o : Option Declaration). option_map_or (λ
    (x : Declaration). x.kit) o 0) at in
    let found = has_map (inline_of units (kit_of units class)) (members_of units class) h i in
    let m : Member = found.1 in
    let stands : slice_get d.class.members found.0 ≡ Some m = sym (ap (λ ms. slice_get ms found.0) members) ∙ found.2 in
    let is : inline_class units d.kit m ≡ Some h = sym (ap (λ k. inline_class units k m) kit)
    ∙ inline_found units (kit_of units class) h m found.3 in
    sym (ap (λ o. option_map_or (is_no_object_class units) o false) is) ∙ object_fit units class d free found.0 m stands

own_fit : (units : List KitUnits) → Unbroken units → (class : ℕ) → OwnFit units class
own_fit units u class =
    everywhere
    (OwnFit units)
    units
    (nothing_fit units 0 (sys_inline units).0)
    (nothing_fit units 1 (sys_inline units).1)
    (nothing_fit units 2 (sys_inline units).2)
    (nothing_fit units 3 (sys_inline units).3)
    (nothing_fit units 4 (sys_inline units).4)
    (λ c d l at free. declared_fit units c d at free)
    (λ c le. nothing_fit units c (ap (filter_map (inline_of units (kit_of units c))) (members_behind units c le)))
    u.faultless
    class

pub inline_fit : (units : List KitUnits) → Unbroken units → (class h : ℕ) → Has (inline_in units class) h → Fit units h
inline_fit units u class h i =
    let found = has_flat (inline_own units) (lineage units class) h i in
    own_fit units u found.0 h found.2

-- ---- none stands in itself

pub fit_apart : (units : List KitUnits) (h : ℕ) → Fit units h → holds_itself units h ≡ false
fit_apart units h f =
    or_last (is_abstract_at units h || is_below units component_class h || not (has_field units h))
    (holds_itself units h) f

pub none_in_itself : (units : List KitUnits) → Unbroken units → (class : ℕ) → holds_itself units class ≡ false
none_in_itself units u class = by_test (holds_itself units class) refl
  where
    deep : (n : ℕ) → places units ≡ n → holds_within units n class class ≡ true → ⊥
    deep zero s e = cc
    deep (suc n) s e =
        let first = holds_inside units n class class e in
        let fit : holds_itself units first.0 ≡ false = fit_apart units first.0
        (inline_fit units u class first.0 first.1) in
        either
        (first.0 == class)
        (holds_within units n class first.0)
        first.2
        ⊥
        (λ t.
        let itself : holds_itself units class ≡ true = ap (λ k. holds_within units k class class) s ∙ e in
        let same : holds_itself units first.0 ≡ holds_itself units class = ap (holds_itself units)
        (is_same first.0 class t) in
        cc)
        (λ t.
        let again : holds_itself units first.0 ≡ true =
        ap (λ k. holds_within units k first.0 first.0) s ∙ holds_on units n class first.0 first.0 t first.1 in
        cc)

    by_test : (b : Bool) → holds_itself units class ≡ b → holds_itself units class ≡ false
    by_test false e = e
    by_test true e = absurd (deep (places units) refl e)
