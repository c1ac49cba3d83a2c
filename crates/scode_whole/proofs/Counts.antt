-- How many classes an image has of a kit, and with a number there.
use Rattle.std.proofs.Common.{◌≡◌, ◌⊎◌, inl, inr, ℕ, zero, suc, ◌+◌, ◌*◌, ◌<◌, ◌≤◌, ◌==◌, ◌&&◌, Bool, true, false, cond, List, [], ◌∷◌, map, length, filter, Some, refl, ap, ◌∙◌, arith}
use Rattle.std.specs.Prelude.{count_by, nat_lt, slice_get}
use Rattle.std.proofs.lemmas.Bool.{cases_lt}
use Rattle.std.proofs.lemmas.Bool.Decides.{nat_tests}
use Rattle.std.proofs.lemmas.List.Sums.{sum_by-cons}
use Rattle.sed_typed.specs.declared.schema.ClassInfo.{ClassInfo}
use Rattle.sed_typed.specs.TypedSchema.{types_at, types_of}
use Rattle.scode_image.specs.declared.image.ImageClass.{ImageClass}
use Rattle.scode_code.specs.Tables.{class_of}

abbrev bit : Bool → ℕ
bit b = cond b 1 0

-- the numbers of the classes of a kit
abbrev pub numbers_of : ℕ → List ImageClass → List ℕ
numbers_of kit cs = map (λ (c : ImageClass). c.number) (filter (λ (c : ImageClass). c.kit == kit) cs)

counted : (kit : ℕ) (c : ImageClass) (cs : List ImageClass)
    → types_of (map class_of (c ∷ cs)) kit ≡ bit (c.kit == kit) + types_of (map class_of cs) kit
counted kit c cs = sum_by-cons (λ (d : ClassInfo). bit (d.kit == kit)) (class_of c) (map class_of cs)

counted_at : (kit i : ℕ) (c : ImageClass) (cs : List ImageClass)
    → types_at (map class_of (c ∷ cs)) kit i ≡ bit ((c.kit == kit) && (c.number == i)) + types_at
    (map class_of cs) kit i
counted_at kit i c cs =
    sum_by-cons (λ (d : ClassInfo). bit ((d.kit == kit) && (d.number == i))) (class_of c) (map class_of cs)

pub of_kit : (kit : ℕ) (cs : List ImageClass) → types_of (map class_of cs) kit ≡ length (numbers_of kit cs)
of_kit kit [] = refl
of_kit kit (c ∷ cs) = counted kit c cs ∙ by_test (c.kit == kit) (filter (λ (d : ImageClass). d.kit == kit) cs)
    (of_kit kit cs)
  where
    by_test : (b : Bool) (rest : List ImageClass) → types_of (map class_of cs) kit
        ≡ length (map (λ (d : ImageClass). d.number) rest)
        → bit b + types_of (map class_of cs) kit ≡ length (map (λ (d : ImageClass). d.number) (cond b (c ∷ rest) rest))
    by_test true rest e = omega (arith, e)
    by_test false rest e = omega (arith, e)

pub of_number : (kit i : ℕ) (cs : List ImageClass)
    → types_at (map class_of cs) kit i ≡ length (filter (λ (n : ℕ). n == i) (numbers_of kit cs))
of_number kit i [] = refl
of_number kit i (c ∷ cs) =
    counted_at kit i c cs
    ∙ by_test (c.kit == kit) (filter (λ (d : ImageClass). d.kit == kit) cs) (of_number kit i cs)
  where
    by_number : (b : Bool) (ns : List ℕ) → types_at (map class_of cs) kit i ≡ length ns
        → bit b + types_at (map class_of cs) kit i ≡ length (cond b (c.number ∷ ns) ns)
    by_number true ns e = omega (arith, e)
    by_number false ns e = omega (arith, e)

    by_test : (b : Bool) (rest : List ImageClass)
        → types_at (map class_of cs) kit i ≡ length (filter (λ (n : ℕ). n == i)
        (map (λ (d : ImageClass). d.number) rest))
        → bit (b && (c.number == i)) + types_at (map class_of cs) kit i
        ≡ length (filter (λ (n : ℕ). n == i) (map (λ (d : ImageClass). d.number) (cond b (c ∷ rest) rest)))
    by_test true rest e = by_number (c.number == i) (filter (λ (n : ℕ). n == i)
        (map (λ (d : ImageClass). d.number) rest)) e
    by_test false rest e = omega (arith, e)

-- of a kit of which no class is there are none
pub none_of : (kit : ℕ) (cs : List ImageClass) → ((k : ℕ) (c : ImageClass) → slice_get cs k ≡ Some c
    → (c.kit == kit) ≡ false)
    → types_of (map class_of cs) kit ≡ 0
none_of kit [] h = refl
none_of kit (c ∷ cs) h =
    let first : bit (c.kit == kit) ≡ 0 = ap bit (h 0 c refl) in
    let rest : types_of (map class_of cs) kit ≡ 0 = none_of kit cs (λ k d e. h (suc k) d e) in
    omega (arith, counted kit c cs, first, rest)

-- ---- of so many kits there are not more classes than so many to a kit

below : List ImageClass → ℕ → ℕ
below cs k = count_by (λ (c : ImageClass). nat_lt c.kit k) cs

below_of : ℕ → ImageClass → ℕ
below_of k c = bit (nat_lt c.kit k)

is_one : (b : Bool) → b ≡ true → bit b ≡ 1
is_one b e = ap bit e

is_none : (b : Bool) → b ≡ false → bit b ≡ 0
is_none b e = ap bit e

next_kit : (n k : ℕ) → bit (n == k) + bit (nat_lt n k) ≡ bit (nat_lt n (suc k))
next_kit n k = elim (cases_lt n k) [
  | inl less ↦
      let other : bit (n == k) ≡ 0 = is_none (n == k) (grind (arith, nat_tests, less)) in
      let here : bit (nat_lt n k) ≡ 1 = is_one (nat_lt n k) (grind (arith, nat_tests, less)) in
      let still : bit (nat_lt n (suc k)) ≡ 1 = is_one (nat_lt n (suc k)) (grind (arith, nat_tests, less)) in
      omega (arith, other, here, still)
  | inr past ↦ at_or_past (cases_lt k n) past
]
  where
    at_or_past : (k < n) ⊎ (n ≤ k) → k ≤ n → bit (n == k) + bit (nat_lt n k) ≡ bit (nat_lt n (suc k))
    at_or_past (inl more) h =
        let other : bit (n == k) ≡ 0 = is_none (n == k) (grind (arith, nat_tests, more)) in
        let past : bit (nat_lt n k) ≡ 0 = is_none (nat_lt n k) (grind (arith, nat_tests, more)) in
        let still : bit (nat_lt n (suc k)) ≡ 0 = is_none (nat_lt n (suc k)) (grind (arith, nat_tests, more)) in
        omega (arith, other, past, still)
    at_or_past (inr less) h =
        let same : bit (n == k) ≡ 1 = is_one (n == k) (grind (arith, nat_tests, less, h)) in
        let past : bit (nat_lt n k) ≡ 0 = is_none (nat_lt n k) (grind (arith, nat_tests, less, h)) in
        let still : bit (nat_lt n (suc k)) ≡ 1 = is_one (nat_lt n (suc k)) (grind (arith, nat_tests, less, h)) in
        omega (arith, same, past, still)

none_below : (cs : List ImageClass) → below cs 0 ≡ 0
unfolding below below_of
none_below [] = refl
none_below (c ∷ cs) =
    let rest : below cs 0 ≡ 0 = none_below cs in
    let one : below_of 0 c ≡ 0 = is_none (nat_lt c.kit 0) (grind (arith, nat_tests)) in
    let a : below (c ∷ cs) 0 ≡ below_of 0 c + below cs 0 = sum_by-cons (below_of 0) c cs in
    omega (arith, rest, one, a)

below_next : (cs : List ImageClass) (k : ℕ) → types_of (map class_of cs) k + below cs k ≡ below cs (suc k)
unfolding below below_of
below_next [] k = refl
below_next (c ∷ cs) k =
    let rest : types_of (map class_of cs) k + below cs k ≡ below cs (suc k) = below_next cs k in
    let one : bit (c.kit == k) + below_of k c ≡ below_of (suc k) c = next_kit c.kit k in
    let a : types_of (map class_of (c ∷ cs)) k ≡ bit (c.kit == k) + types_of (map class_of cs) k = counted k c cs in
    let b : below (c ∷ cs) k ≡ below_of k c + below cs k = sum_by-cons (below_of k) c cs in
    let d : below (c ∷ cs) (suc k) ≡ below_of (suc k) c + below cs (suc k) = sum_by-cons (below_of (suc k)) c cs in
    omega (arith, rest, one, a, b, d)

below_most : (cs : List ImageClass) (k most : ℕ) → ((kit : ℕ) → types_of (map class_of cs) kit ≤ most)
    → below cs k ≤ k * most
below_most cs zero most h = let none : below cs 0 ≡ 0 = none_below cs in omega (arith, none)
below_most cs (suc k) most h =
    let rest : below cs k ≤ k * most = below_most cs k most h in
    let here : types_of (map class_of cs) k ≤ most = h k in
    let next : types_of (map class_of cs) k + below cs k ≡ below cs (suc k) = below_next cs k in
    let more : suc k * most ≡ most + k * most = grind arith in
    omega (arith, rest, here, next, more)

all_below : (cs : List ImageClass) (k : ℕ) → ((i : ℕ) (c : ImageClass) → slice_get cs i ≡ Some c
    → nat_lt c.kit k ≡ true)
    → below cs k ≡ length cs
unfolding below below_of
all_below [] k h = refl
all_below (c ∷ cs) k h =
    let rest : below cs k ≡ length cs = all_below cs k (λ i d e. h (suc i) d e) in
    let one : below_of k c ≡ 1 = is_one (nat_lt c.kit k) (h 0 c refl) in
    let a : below (c ∷ cs) k ≡ below_of k c + below cs k = sum_by-cons (below_of k) c cs in
    omega (arith, rest, one, a)

pub all_most : (cs : List ImageClass) (k most : ℕ)
    → ((i : ℕ) (c : ImageClass) → slice_get cs i ≡ Some c → nat_lt c.kit k ≡ true)
    → ((kit : ℕ) → types_of (map class_of cs) kit ≤ most) → length cs ≤ k * most
all_most cs k most known h =
    let all : below cs k ≡ length cs = all_below cs k known in
    let few : below cs k ≤ k * most = below_most cs k most h in
    omega (arith, all, few)
