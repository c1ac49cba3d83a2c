-- How many things there are, where each has a key below a number and no key has more than so many of them.
use Rattle.std.proofs.Common.{◌≡◌, ℕ, zero, suc, ◌+◌, ◌*◌, ◌<◌, ◌≤◌, ◌==◌, Bool, cond, List, [], ◌∷◌, length, nat_lt, refl, arith}
use Rattle.std.specs.Prelude.{All}
use Rattle.std.specs.List.{count_by}
use Rattle.std.proofs.lemmas.Bool.Decides.{nat_tests}
use Rattle.std.proofs.lemmas.List.Elements.{All-head, All-tail}
use Rattle.std.proofs.lemmas.List.Sums.{sum_by-cons}
use Rattle.sed_typed.specs.declared.program.Method.{Method}
use Rattle.sed_typed.specs.declared.program.Program.{Program}
use Rattle.sed_typed.specs.declared.schema.ClassInfo.{ClassInfo}
use Rattle.sed_typed.specs.Typed.{Typed}

abbrev pub one : Bool → ℕ
one b = cond b 1 0

module _ {X : Type 0} (key : X → ℕ) where
  -- a key below the next number is below this one or is it
  below_next : (k n : ℕ) → one (nat_lt k (suc n)) ≡ one (nat_lt k n) + one (k == n)
  below_next k n = grind (arith, nat_tests)

  more : (n : ℕ) (xs : List X) → count_by (λ x. nat_lt (key x) (suc n)) xs ≡ count_by (λ x. nat_lt (key x) n) xs + count_by (λ x. key x == n) xs
  more n [] = refl
  more n (x ∷ xs) =
      let rest : count_by (λ y. nat_lt (key y) (suc n)) xs ≡ count_by (λ y. nat_lt (key y) n) xs + count_by (λ y. key y == n) xs = more n xs in
      let a = sum_by-cons (λ y. one (nat_lt (key y) (suc n))) x xs in
      let b = sum_by-cons (λ y. one (nat_lt (key y) n)) x xs in
      let c = sum_by-cons (λ y. one (key y == n)) x xs in
      let d : one (nat_lt (key x) (suc n)) ≡ one (nat_lt (key x) n) + one (key x == n) = below_next (key x) n in
      omega (arith, a, b, c, d, rest)

  none : (xs : List X) → count_by (λ x. nat_lt (key x) 0) xs ≡ 0
  none [] = refl
  none (x ∷ xs) =
      let a = sum_by-cons (λ y. one (nat_lt (key y) 0)) x xs in
      let b : one (nat_lt (key x) 0) ≡ 0 = grind (arith, nat_tests) in
      omega (arith, a, b, none xs)

  all : (n : ℕ) (xs : List X) → All (λ x. key x < n) xs → count_by (λ x. nat_lt (key x) n) xs ≡ length xs
  all n [] h = refl
  all n (x ∷ xs) h =
      let a = sum_by-cons (λ y. one (nat_lt (key y) n)) x xs in
      let lt : key x < n = All-head (λ y. key y < n) x xs h in
      let b : one (nat_lt (key x) n) ≡ 1 = grind (arith, nat_tests) in
      let rest = all n xs (All-tail (λ y. key y < n) x xs h) in
      omega (arith, a, b, rest)

  within : (most n : ℕ) (xs : List X) → ((k : ℕ) → k < n → count_by (λ x. key x == k) xs ≤ most) → count_by (λ x. nat_lt (key x) n) xs ≤ n * most
  within most zero xs h = omega (arith, none xs)
  within most (suc n) xs h =
      let rest : count_by (λ x. nat_lt (key x) n) xs ≤ n * most = within most n xs (λ k lt. h k (omega arith)) in
      let last : count_by (λ x. key x == n) xs ≤ most = h n (omega arith) in
      omega (arith, more n xs, rest, last)

  pub are_few : (most n : ℕ) (xs : List X) → All (λ x. key x < n) xs → ((k : ℕ) → k < n → count_by (λ x. key x == k) xs ≤ most) → length xs ≤ n * most
  are_few most n xs h each = omega (arith, all n xs h, within most n xs each)

-- a program has at most 16 kits of 64 classes, and each class declares at most 60 methods
module _ (program : Program) (typed : Typed program) where
  pub few_classes : length program.schema.classes ≤ 1024
  few_classes =
      let kits : length program.schema.kits ≤ 16 = typed.kits.most in
      let few : length program.schema.classes ≤ length program.schema.kits * 64 =
      are_few (λ (c : ClassInfo). c.kit) 64 (length program.schema.kits) program.schema.classes typed.kits.known (λ kit _. typed.kits.types kit) in
      omega arith

  pub few_methods : length program.methods ≤ 61440
  few_methods =
      let classes : length program.schema.classes ≤ 1024 = few_classes in
      let few : length program.methods ≤ length program.schema.classes * 60 =
      are_few (λ (m : Method). m.class.0) 60 (length program.schema.classes) program.methods (λ i d h. (typed.methods i d h).class) (λ class h. (typed.members class h).methods_most) in
      omega arith
