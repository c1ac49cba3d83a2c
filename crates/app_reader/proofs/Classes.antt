-- Classes of a schema by kit and number: there are few, and each is the first with its kit and number.
use Rattle.std.proofs.Common.{◌≡◌, ℕ, zero, suc, ◌+◌, ◌*◌, ◌<◌, ◌≤◌, Bool, true, false, cond, IsTrue, List, [], ◌∷◌, length, refl, sym, subst, ◌∙◌, ap, arith}
use Rattle.std.specs.Prelude.{Option, Some, None, All, ◌==◌, ◌&&◌, nat_lt, slice_get, position}
use Rattle.std.specs.Option.{option_and_then}
use Rattle.std.specs.List.{AllByRecursion, position_or_len}
use Rattle.std.proofs.lemmas.Bool.Decides.{nat_tests}
use Rattle.std.proofs.lemmas.List.Recursion.{is_position_or_len}
use Rattle.std.proofs.lemmas.List.Elements.{recursion_from_All}
use Rattle.std.proofs.lemmas.Option.{slice_get_within}
use Rattle.sed_typed.specs.Schemas.{numbered}
use Rattle.sed_typed.specs.declared.schema.ClassInfo.{ClassInfo}
use Rattle.sed_engine.specs.Code.{Meaning}
use Rattle.sed_engine.specs.Whole.{HasTables}
use Rattle.app_file.proofs.RowsOneWay.{counted, times, times_counts}
use Rattle.app_front.specs.Rows.{IsToldClass}
use Rattle.sed_value.proofs.Lists.{at_place as at_each}

-- ---- classes are few

without : ℕ → List ClassInfo → List ClassInfo
without k [] = []
without k (x ∷ xs) = cond (x.kit == k) (without k xs) (x ∷ without k xs)

of_kit : ℕ → ClassInfo → Bool
of_kit k c = c.kit == k

split : (k : ℕ) (xs : List ClassInfo) → length xs ≡ times (λ c. c.kit == k) xs + length (without k xs)
unfolding times without
split k [] = refl
split k (x ∷ xs) = by_test (x.kit == k) (split k xs)
  where
    by_test : (b : Bool) → length xs ≡ times (λ c. c.kit == k) xs + length (without k xs)
        → length (x ∷ xs) ≡ cond b (1 + times (λ c. c.kit == k) xs) (times (λ c. c.kit == k) xs) + length (cond b (without k xs) (x ∷ without k xs))
    by_test true e = omega (arith, e)
    by_test false e = omega (arith, e)

fewer : (j k : ℕ) (xs : List ClassInfo) → times (λ c. c.kit == j) (without k xs) ≤ times (λ c. c.kit == j) xs
unfolding times without
fewer j k [] = omega arith
fewer j k (x ∷ xs) = by_test (x.kit == k) (x.kit == j) refl (fewer j k xs)
  where
    by_test : (b d : Bool) → (x.kit == j) ≡ d → times (λ c. c.kit == j) (without k xs) ≤ times (λ c. c.kit == j) xs
        → times (λ c. c.kit == j) (cond b (without k xs) (x ∷ without k xs)) ≤ cond d (1 + times (λ c. c.kit == j) xs) (times (λ c. c.kit == j) xs)
    by_test true true is h = omega (arith, h)
    by_test true false is h = h
    by_test false true is h = rw is (omega (arith, h))
    by_test false false is h = rw is h

left_below : (k : ℕ) (xs : List ClassInfo) → AllByRecursion (λ (c : ClassInfo). c.kit < suc k) xs → AllByRecursion (λ (c : ClassInfo). c.kit < k) (without k xs)
unfolding without
left_below k [] all = tt
left_below k (x ∷ xs) all = by_test (x.kit == k) refl all.0 (left_below k xs all.1)
  where
    by_test : (b : Bool) → (x.kit == k) ≡ b → x.kit < suc k → AllByRecursion (λ (c : ClassInfo). c.kit < k) (without k xs)
        → AllByRecursion (λ (c : ClassInfo). c.kit < k) (cond b (without k xs) (x ∷ without k xs))
    by_test true is lt rest = rest
    by_test false is lt rest = (grind (arith, nat_tests), rest)

all_few : (k : ℕ) (xs : List ClassInfo) → ((kit : ℕ) → times (λ c. c.kit == kit) xs ≤ 64) → AllByRecursion (λ (c : ClassInfo). c.kit < k) xs → length xs ≤ k * 64
all_few zero [] most all = omega arith
all_few zero (x ∷ xs) most all = absurd (let lt = all.0 in omega arith)
all_few (suc k) xs most all =
    let rest = all_few k (without k xs) (λ kit. let less = fewer kit k xs in let few = most kit in omega (arith, less, few)) (left_below k xs all) in
    let here = most k in
    let both = split k xs in
    omega (arith, rest, here, both)

classes_few : (m : Meaning) → HasTables m → length m.schema.classes ≤ 1024
classes_few m tables =
    let all = all_few (length m.schema.kits) m.schema.classes
    (λ kit. let few = tables.limits.types kit in subst (λ (n : ℕ). n ≤ 64) (sym (times_counts (λ c. c.kit == kit) m.schema.classes)) few)
    (recursion_from_All _ m.schema.classes tables.names.known) in
    let kits = tables.limits.kits in
    omega (arith, all, kits)

-- ---- the first place

first_place : (ClassInfo → Bool) → List ClassInfo → ℕ
first_place p [] = 0
first_place p (x ∷ xs) = cond (p x) 0 (1 + first_place p xs)

first_is : (p : ClassInfo → Bool) (xs : List ClassInfo) → first_place p xs ≡ position_or_len p xs
unfolding first_place
first_is p xs = is_position_or_len (first_place p) p refl (λ x xs. refl) xs

only_place : (p : ClassInfo → Bool) (xs : List ClassInfo) (k : ℕ) (a : ClassInfo) → times p xs ≤ 1 → slice_get xs k ≡ Some a → IsTrue (p a) → first_place p xs ≡ k
unfolding times first_place
only_place p [] k a few at is = absurd (let no : ◌≡◌ {A = Option ClassInfo} None (Some a) = at in cc)
only_place p (x ∷ xs) zero a few at is =
    let same : x ≡ a = cc in
    let passes : p x ≡ true = ap p same ∙ is in
    rw passes refl
only_place p (x ∷ xs) (suc k) a few at is = by_test (p x) few (only_place p xs k a)
  where
    there : 1 ≤ times p xs
    there = counted p xs k a at is

    by_test : (b : Bool) → cond b (1 + times p xs) (times p xs) ≤ 1 → (times p xs ≤ 1 → slice_get xs k ≡ Some a → IsTrue (p a) → first_place p xs ≡ k)
        → cond b 0 (1 + first_place p xs) ≡ suc k
    by_test true few later = absurd (let two : 1 + times p xs ≤ 1 = few in omega (arith, two, there))
    by_test false few later = let rest = later few at is in omega (arith, rest)

-- a class that is there is told by its kit and number
pub class_is_told : (m : Meaning) (class : ℕ) (info : ClassInfo) → HasTables m → All (λ (c : ClassInfo). c.number < 256) m.schema.classes
    → slice_get m.schema.classes class ≡ Some info → IsToldClass m class
class_is_told m class info tables numbers there = record {
  info = info;
  there = there;
  first = ap (λ (o : Option ℕ). option_and_then numbered o) placed ∙ small;
  kit = let known = at_each (λ (c : ClassInfo). c.kit < length m.schema.kits) m.schema.classes class info tables.names.known there in let kits = tables.limits.kits in omega (arith, known, kits);
  number = at_each (λ (c : ClassInfo). c.number < 256) m.schema.classes class info numbers there;
}
  where
    test : ClassInfo → Bool
    test c = (c.kit == info.kit) && (c.number == info.number)

    within : class < length m.schema.classes
    within = slice_get_within m.schema.classes class info there

    once : times test m.schema.classes ≤ 1
    once = subst (λ (n : ℕ). n ≤ 1) (sym (times_counts test m.schema.classes)) (tables.names.once info.kit info.number)

    passes : IsTrue ((info.kit == info.kit) && (info.number == info.number))
    passes = grind (arith, nat_tests)

    at : position_or_len test m.schema.classes ≡ class
    at = sym (first_is test m.schema.classes) ∙ only_place test m.schema.classes class info once there passes

    placed : position test m.schema.classes ≡ Some class
    placed =
        ap (λ (n : ℕ). cond (nat_lt n (length m.schema.classes)) (Some n) None) at
        ∙ ap (λ (b : Bool). cond b (Some class) None) (let lt = within in let test : nat_lt class (length m.schema.classes) ≡ true = grind (arith, nat_tests) in test)

    small : numbered class ≡ Some class
    small =
        let few = classes_few m tables in
        let lt = within in
        let bound : class < 65536 = omega (arith, few, lt) in
        ap (λ (b : Bool). cond b (Some class) None) (let test : nat_lt class 65536 ≡ true = grind (arith, nat_tests) in test)
