-- Sizes against a limit: what is left of it once the first of several things have theirs.
use Rattle.std.proofs.Common.{ℕ, ◌≡◌, ◌+◌, ◌-◌, ◌<◌, ◌≤◌, Bool, true, false, List, length, take, get_or, sym, ◌∙◌, ap, arith}
use Rattle.std.specs.Prelude.{nat_lt, sum_by}
use Rattle.std.proofs.lemmas.Bool.Decides.{nat_tests}
use Rattle.std.proofs.lemmas.List.{take_all}
use Rattle.std.proofs.lemmas.List.Sums.{sum_by-take-le, sum_by_more}

-- ---- tests

passed : (limit n : ℕ) → limit < n → true ≡ nat_lt limit n
passed limit n lt = grind (arith, nat_tests)

not_passed : (limit n : ℕ) → n ≤ limit → false ≡ nat_lt limit n
not_passed limit n le = grind (arith, nat_tests)

pub is_over : (limit n : ℕ) (b : Bool) → b ≡ nat_lt limit n → b ≡ true → limit < n
is_over limit n b is holds = grind (arith, nat_tests)

pub not_over : (limit n : ℕ) (b : Bool) → b ≡ nat_lt limit n → b ≡ false → limit < n → ⊥
not_over limit n b is fails = grind (arith, nat_tests)

-- ---- one thing after another

module _ {X : Type 0} (size : X → ℕ) (limit : ℕ) (xs : List X) where
  -- so many bytes are left once the first things have theirs
  abbrev pub IsLeft : ℕ → ℕ → Type 0
  IsLeft k left = left + sum_by size (take k xs) ≡ limit

  pub left_first : IsLeft 0 limit
  left_first = omega arith

  pub left_last : (k left : ℕ) → IsLeft k left → length xs ≤ k → false ≡ nat_lt limit (sum_by size xs)
  left_last k left is end =
      let all : sum_by size (take k xs) ≡ sum_by size xs = ap (sum_by size) (take_all k xs end) in
      not_passed limit (sum_by size xs) (omega (arith, all, is))

  module _ (k left n : ℕ) (x : X) (is : IsLeft k left) (lt : k < length xs) (at : x ≡ get_or xs k x) (same : n ≡ size x) where
    next : sum_by size (take (k + 1) xs) ≡ sum_by size (take k xs) + n
    next =
        let more = sum_by_more size xs k x lt in
        let here : size (get_or xs k x) ≡ n = ap size (sym at) ∙ sym same in
        more ∙ ap (λ (b : ℕ). sum_by size (take k xs) + b) here

    pub left_next : n ≤ left → IsLeft (k + 1) (left - n)
    left_next le = let step = next in omega (arith, step, is, le)

    pub none_left : left < n → true ≡ nat_lt limit (sum_by size xs)
    none_left less =
        let step = next in
        let front = sum_by-take-le size xs (k + 1) in
        passed limit (sum_by size xs) (omega (arith, step, front, is, less))
