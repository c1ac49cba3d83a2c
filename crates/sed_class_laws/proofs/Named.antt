-- Each class has a name of its own in its kit.
use Rattle.std.proofs.Common.{◌≡◌, ◌<◌, ◌≤◌, ◌+◌, ◌==◌, ◌&&◌, ◌||◌, ℕ, zero, suc, Bool, true, false, eqb, nat_lt, if◌then◌else◌, List, [], ◌∷◌, length, get_or, slice_get, take, Option, Some, None, refl, sym, ap, ◌∙◌, subst, arith}
use Rattle.std.specs.List.{count_by, list_any}
use Rattle.std.specs.Str.{bytes_eq}
use Rattle.std.proofs.lemmas.Option.{slice_get_within}
use Rattle.std.proofs.lemmas.Bool.Decides.{nat_tests}
use Rattle.sed_typed.specs.TypedSchema.{classes_named, is_reserved}
use Rattle.sed_typed.specs.declared.schema.ClassInfo.{ClassInfo}
use Rattle.sed_classes.specs.declared.kit_units.KitUnits.{KitUnits}
use Rattle.sed_classes.specs.Declarations.{Declaration, all_classes, class_at, sys_declares}
use Rattle.sed_classes.specs.Names.{is_named}
use Rattle.sed_classes.specs.NameRules.{is_named_before}
use Rattle.sed_classes.specs.Schema.{class_infos}
use Rattle.sed_classes.specs.Faults.{declaration_faults}
use Rattle.sed_outline.specs.Fits.{Unbroken}
use Rattle.sed_outline.proofs.Fitting.{everywhere}
use Rattle.sed_outline.proofs.Unbroken.{not_broken}
use Rattle.sed_program.proofs.OrderLists.{count_cons, count_there, counted, is_itself, is_same, weight}
use Rattle.sed_program.proofs.Infos.{infos_sum}
use Rattle.sed_program.proofs.Lineages.{places}
use Rattle.sed_class_laws.proofs.Has.{or_left, or_right}
use Rattle.sed_class_laws.proofs.Rules.{name_free}
pub use Rattle.sed_value.proofs.Lists.{same_bytes as bytes_same}
use Rattle.std.proofs.lemmas.Bool.{or_parts as both_false}

-- ---- texts

pub bytes_itself : (xs : List ℕ) → bytes_eq xs xs ≡ true
bytes_itself [] = refl
bytes_itself (x ∷ xs) = by_test (eqb x x) (itself x) (bytes_itself xs)
  where
    itself : (n : ℕ) → eqb n n ≡ true
    itself n = grind (arith, nat_tests)

    by_test : (b : Bool) → b ≡ true → bytes_eq xs xs ≡ true → (b && bytes_eq xs xs) ≡ true
    by_test true e f = f
    by_test false e f = cc

-- ---- two of one name

pub any_front : {X : Type 0} (p : X → Bool) (xs : List X) (i j : ℕ) (x : X) → i < j → slice_get xs i ≡ Some x →
    p x ≡ true → list_any p (take j xs) ≡ true
any_front p [] i j x l e t = cc
any_front p (y ∷ ys) i zero x l e t = absurd (omega (arith, l))
any_front p (y ∷ ys) zero (suc j) x l e t = let same : y
    ≡ x = cc in or_left (p y) (list_any p (take j ys)) (ap p same ∙ t)
any_front p (y ∷ ys) (suc i) (suc j) x l e t = or_right (p y) (list_any p (take j ys)) (any_front p ys i j x (omega
    (arith, l)) e t)

-- where no two pass, at most one does
unfoldable pub NoTwo : {X : Type 0} → (X → Bool) → List X → Type 0
NoTwo {X} p xs = (i j : ℕ) (x y : X) → i < j → slice_get xs i ≡ Some x → slice_get xs j ≡ Some y → p x ≡ true →
    p y ≡ true → ⊥

pub at_most_one : {X : Type 0} (p : X → Bool) (xs : List X) → NoTwo p xs → count_by p xs ≤ 1
unfolding NoTwo
at_most_one p [] h = omega arith
at_most_one p (x ∷ xs) h = by_test (p x) refl (at_most_one p xs (λ i j y z l e f s t. h (suc i) (suc j) y z (omega
    (arith, l)) e f s t))
  where
    by_test : (b : Bool) → p x ≡ b → count_by p xs ≤ 1 → count_by p (x ∷ xs) ≤ 1
    by_test false t rest = omega (arith, count_cons p x xs, ap weight t, rest)
    by_test true t rest = by_count (nat_lt 0 (count_by p xs)) refl
      where
        by_count : (b : Bool) → nat_lt 0 (count_by p xs) ≡ b → count_by p (x ∷ xs) ≤ 1
        by_count false f =
            let none : count_by p xs ≤ 0 = grind (arith, nat_tests) in
            omega (arith, count_cons p x xs, ap weight t, none)
        by_count true f =
            let found = counted p xs (grind (arith, nat_tests)) in
            absurd (h 0 (suc found.0) x found.1 (omega arith) refl found.2 t found.3)

pub just_one : {X : Type 0} (p : X → Bool) (xs : List X) (i : ℕ) (x : X) → NoTwo p xs → slice_get xs i ≡ Some x →
    p x ≡ true → count_by p xs ≡ 1
just_one p xs i x h e t = omega (arith, at_most_one p xs h, count_there p xs i x e t)

-- ---- the names of classes

abbrev pub Fresh : List KitUnits → ℕ → Declaration → Type 0
Fresh units class d = (is_reserved d.class.name.bytes ≡ false) × (is_named_before units class d ≡ false)

abbrev AllFresh : List KitUnits → ℕ → Type 0
AllFresh units class = (d : Declaration) → class_at units class ≡ Some d → Fresh units class d

module _ (units : List KitUnits) (d : Declaration) where
  fresh_0 : class_at units 0 ≡ Some d → Fresh units 0 d
  unfolding all_classes
  fresh_0 e = let same : get_or sys_declares 0 d ≡ d = cc in subst (Fresh units 0) same (refl, refl)

  fresh_1 : class_at units 1 ≡ Some d → Fresh units 1 d
  unfolding all_classes
  fresh_1 e = let same : get_or sys_declares 1 d ≡ d = cc in subst (Fresh units 1) same (refl, refl)

  fresh_2 : class_at units 2 ≡ Some d → Fresh units 2 d
  unfolding all_classes
  fresh_2 e = let same : get_or sys_declares 2 d ≡ d = cc in subst (Fresh units 2) same (refl, refl)

  fresh_3 : class_at units 3 ≡ Some d → Fresh units 3 d
  unfolding all_classes
  fresh_3 e = let same : get_or sys_declares 3 d ≡ d = cc in subst (Fresh units 3) same (refl, refl)

  fresh_4 : class_at units 4 ≡ Some d → Fresh units 4 d
  unfolding all_classes
  fresh_4 e = let same : get_or sys_declares 4 d ≡ d = cc in subst (Fresh units 4) same (refl, refl)

declared_fresh : (units : List KitUnits) (class : ℕ) (d : Declaration) → declaration_faults units class d ≡ [] →
    Fresh units class d
declared_fresh units class d free =
    both_false
    (is_reserved d.class.name.bytes)
    (is_named_before units class d)
    (not_broken (is_reserved d.class.name.bytes || is_named_before units class d) 2 d.class.at
    (name_free units class d free))

pub fresh : (units : List KitUnits) → Unbroken units → (class : ℕ) → AllFresh units class
fresh units u class =
    everywhere
    (AllFresh units)
    units
    (fresh_0 units)
    (fresh_1 units)
    (fresh_2 units)
    (fresh_3 units)
    (fresh_4 units)
    (λ c d l at free e f. let same : d ≡ e = cc in subst (Fresh units c) same (declared_fresh units c d free))
    (λ c le d e. absurd (omega (arith, le, slice_get_within (all_classes units) c d e)))
    u.faultless
    class

-- ---- once

kit_named : (name : List ℕ) (kit : ℕ) (d : Declaration) → is_named name kit d ≡ true →
    (d.kit ≡ kit) × (d.class.name.bytes ≡ name)
kit_named name kit d e = by_test (d.kit == kit) refl e
  where
    by_test : (b : Bool) → (d.kit == kit) ≡ b → (b && bytes_eq d.class.name.bytes name) ≡ true →
        (d.kit ≡ kit) × (d.class.name.bytes ≡ name)
    by_test true t f = (is_same d.kit kit t, bytes_same d.class.name.bytes name f)
    by_test false t f = cc

is_named_so : (d : Declaration) → is_named d.class.name.bytes d.kit d ≡ true
is_named_so d = by_test (d.kit == d.kit) (is_itself d.kit)
  where
    by_test : (b : Bool) → b ≡ true → (b && bytes_eq d.class.name.bytes d.class.name.bytes) ≡ true
    by_test true e = bytes_itself d.class.name.bytes
    by_test false e = cc

no_two_named : (units : List KitUnits) → Unbroken units → (name : List ℕ) (kit : ℕ) →
    NoTwo (is_named name kit) (all_classes units)
unfolding NoTwo
no_two_named units u name kit i j x y l e f s t =
    let a = kit_named name kit x s in
    let b = kit_named name kit y t in
    let so : is_named y.class.name.bytes y.kit x ≡ true =
    ap (λ n. is_named n y.kit x) b.1 ∙ ap (λ k. is_named name k x) b.0 ∙ s in
    let before : is_named_before units j y ≡ true = any_front (is_named y.class.name.bytes y.kit)
    (all_classes units) i j x l e so in
    let none : is_named_before units j y ≡ false = (fresh units u j y f).1 in
    cc

pub named_once : (units : List KitUnits) → Unbroken units → (class : ℕ) (d : Declaration) →
    class_at units class ≡ Some d →
    classes_named (class_infos units) d.kit d.class.name.bytes ≡ 1
named_once units u class d e =
    infos_sum
    units
    u
    (λ (c : ClassInfo). weight ((c.kit == d.kit) && bytes_eq c.name d.class.name.bytes))
    (λ x. weight (is_named d.class.name.bytes d.kit x))
    (λ c x. refl)
    ∙ just_one (is_named d.class.name.bytes d.kit) (all_classes units) class d
    (no_two_named units u d.class.name.bytes d.kit) e (is_named_so d)
