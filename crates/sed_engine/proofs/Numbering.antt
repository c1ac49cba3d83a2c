-- The types of a kit that are numbered from 0, each once: no number stands twice.
use Rattle.std.proofs.Common.{◌≡◌, ◌⊎◌, inl, inr, ℕ, zero, suc, ◌+◌, ◌<◌, ◌≤◌, ◌==◌, ◌&&◌, Bool, true, false, cond, List, [], ◌∷◌, refl, ap, arith}
use Rattle.std.specs.Prelude.{count_by, nat_lt}
use Rattle.std.proofs.lemmas.Bool.{cases_lt}
use Rattle.std.proofs.lemmas.Bool.Decides.{nat_tests}
use Rattle.std.proofs.lemmas.List.Sums.{sum_by-cons}
use Rattle.sed_typed.specs.declared.schema.ClassInfo.{ClassInfo}
use Rattle.sed_typed.specs.TypedSchema.{types_at, types_of}

-- so many types of a kit have a number below this one
types_below : List ClassInfo → ℕ → ℕ → ℕ
types_below classes kit k = count_by (λ c. (c.kit == kit) && nat_lt c.number k) classes

abbrev bit : Bool → ℕ
bit b = cond b 1 0

at_of : ℕ → ℕ → ClassInfo → ℕ
at_of kit k c = bit ((c.kit == kit) && (c.number == k))

below_of : ℕ → ℕ → ClassInfo → ℕ
below_of kit k c = bit ((c.kit == kit) && nat_lt c.number k)

of_kit : ℕ → ClassInfo → ℕ
of_kit kit c = bit (c.kit == kit)

-- ---- one class

is_one : (b : Bool) → b ≡ true → bit b ≡ 1
is_one b e = ap bit e

is_none : (b : Bool) → b ≡ false → bit b ≡ 0
is_none b e = ap bit e

next_number : (a : Bool) (n k : ℕ) → bit (a && (n == k)) + bit (a && nat_lt n k) ≡ bit (a && nat_lt n (suc k))
next_number false n k = refl
next_number true n k = elim (cases_lt n k) [
  | inl less ↦
      let other : bit (n == k) ≡ 0 = is_none (n == k) (grind (arith, nat_tests, less)) in
      let below : bit (nat_lt n k) ≡ 1 = is_one (nat_lt n k) (grind (arith, nat_tests, less)) in
      let still : bit (nat_lt n (suc k)) ≡ 1 = is_one (nat_lt n (suc k)) (grind (arith, nat_tests, less)) in
      omega (arith, other, below, still)
  | inr h ↦ here (cases_lt k n) h
]
  where
    here : (k < n) ⊎ (n ≤ k) → k ≤ n → bit (n == k) + bit (nat_lt n k) ≡ bit (nat_lt n (suc k))
    here (inl more) h =
        let other : bit (n == k) ≡ 0 = is_none (n == k) (grind (arith, nat_tests, more)) in
        let past : bit (nat_lt n k) ≡ 0 = is_none (nat_lt n k) (grind (arith, nat_tests, more)) in
        let still : bit (nat_lt n (suc k)) ≡ 0 = is_none (nat_lt n (suc k)) (grind (arith, nat_tests, more)) in
        omega (arith, other, past, still)
    here (inr less) h =
        let same : bit (n == k) ≡ 1 = is_one (n == k) (grind (arith, nat_tests, less, h)) in
        let past : bit (nat_lt n k) ≡ 0 = is_none (nat_lt n k) (grind (arith, nat_tests, less, h)) in
        let below : bit (nat_lt n (suc k)) ≡ 1 = is_one (nat_lt n (suc k)) (grind (arith, nat_tests, less, h)) in
        omega (arith, same, past, below)

none_first : (a : Bool) (n : ℕ) → bit (a && nat_lt n 0) ≡ 0
none_first false n = refl
none_first true n = is_none (nat_lt n 0) (grind (arith, nat_tests))

at_most : (b : Bool) → bit b ≤ 1
at_most true = omega arith
at_most false = omega arith

not_both : (a : Bool) (n k m : ℕ) → k ≤ m → bit (a && (n == m)) + bit (a && nat_lt n k) ≤ bit a
not_both false n k m h = omega arith
not_both true n k m h = elim (cases_lt n k) [
  | inl less ↦
      let other : bit (n == m) ≡ 0 = is_none (n == m) (grind (arith, nat_tests, less, h)) in
      let most : bit (nat_lt n k) ≤ 1 = at_most (nat_lt n k) in
      omega (arith, other, most)
  | inr past ↦
      let none : bit (nat_lt n k) ≡ 0 = is_none (nat_lt n k) (grind (arith, nat_tests, past)) in
      let most : bit (n == m) ≤ 1 = at_most (n == m) in
      omega (arith, none, most)
]

-- ---- all classes

below_next : (classes : List ClassInfo) (kit k : ℕ) → types_at classes kit k + types_below classes kit k ≡ types_below classes kit (suc k)
unfolding types_below at_of below_of
below_next [] kit k = refl
below_next (c ∷ cs) kit k =
    let rest : types_at cs kit k + types_below cs kit k ≡ types_below cs kit (suc k) = below_next cs kit k in
    let one : at_of kit k c + below_of kit k c ≡ below_of kit (suc k) c = next_number (c.kit == kit) c.number k in
    let a : types_at (c ∷ cs) kit k ≡ at_of kit k c + types_at cs kit k = sum_by-cons (at_of kit k) c cs in
    let b : types_below (c ∷ cs) kit k ≡ below_of kit k c + types_below cs kit k = sum_by-cons (below_of kit k) c cs in
    let d : types_below (c ∷ cs) kit (suc k) ≡ below_of kit (suc k) c + types_below cs kit (suc k) = sum_by-cons (below_of kit (suc k)) c cs in
    omega (arith, rest, one, a, b, d)

none_below : (classes : List ClassInfo) (kit : ℕ) → types_below classes kit 0 ≡ 0
unfolding types_below below_of
none_below [] kit = refl
none_below (c ∷ cs) kit =
    let rest : types_below cs kit 0 ≡ 0 = none_below cs kit in
    let one : below_of kit 0 c ≡ 0 = none_first (c.kit == kit) c.number in
    let a : types_below (c ∷ cs) kit 0 ≡ below_of kit 0 c + types_below cs kit 0 = sum_by-cons (below_of kit 0) c cs in
    omega (arith, rest, one, a)

apart : (classes : List ClassInfo) (kit k m : ℕ) → k ≤ m → types_at classes kit m + types_below classes kit k ≤ types_of classes kit
unfolding types_below at_of below_of of_kit
apart [] kit k m h = omega arith
apart (c ∷ cs) kit k m h =
    let rest : types_at cs kit m + types_below cs kit k ≤ types_of cs kit = apart cs kit k m h in
    let one : at_of kit m c + below_of kit k c ≤ of_kit kit c = not_both (c.kit == kit) c.number k m h in
    let a : types_at (c ∷ cs) kit m ≡ at_of kit m c + types_at cs kit m = sum_by-cons (at_of kit m) c cs in
    let b : types_below (c ∷ cs) kit k ≡ below_of kit k c + types_below cs kit k = sum_by-cons (below_of kit k) c cs in
    let d : types_of (c ∷ cs) kit ≡ of_kit kit c + types_of cs kit = sum_by-cons (of_kit kit) c cs in
    omega (arith, rest, one, a, b, d)

all_below : (classes : List ClassInfo) (kit k : ℕ) → ((n : ℕ) → n < k → types_at classes kit n ≡ 1) → types_below classes kit k ≡ k
all_below classes kit zero h = none_below classes kit
all_below classes kit (suc k) h =
    let rest : types_below classes kit k ≡ k = all_below classes kit k (λ n less. h n (omega (arith, less))) in
    let one : types_at classes kit k ≡ 1 = h k (omega arith) in
    let next : types_at classes kit k + types_below classes kit k ≡ types_below classes kit (suc k) = below_next classes kit k in
    omega (arith, rest, one, next)

pub at_most_one : (classes : List ClassInfo) (kit number : ℕ) → ((n : ℕ) → n < types_of classes kit → types_at classes kit n ≡ 1) → types_at classes kit number ≤ 1
at_most_one classes kit number h = elim (cases_lt number (types_of classes kit)) [
  | inl less ↦ let one : types_at classes kit number ≡ 1 = h number less in omega (arith, one)
  | inr past ↦
      let all : types_below classes kit (types_of classes kit) ≡ types_of classes kit = all_below classes kit (types_of classes kit) h in
      let most : types_at classes kit number + types_below classes kit (types_of classes kit) ≤ types_of classes kit = apart classes kit (types_of classes kit) number past in
      omega (arith, all, most)
]
