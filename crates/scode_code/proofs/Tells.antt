-- The first of numbered tests that holds.
use Rattle.std.proofs.Common.{◌≡◌, ◌⊎◌, inl, inr, ℕ, suc, ◌≤◌, Bool, true, false, List, [], ◌∷◌, refl, sym, arith, leb-true}
use Rattle.std.specs.Prelude.{◌&&◌, cond, nat_le, Option, Some, None}
use Rattle.std.proofs.lemmas.Bool.{and_parts}
use Rattle.scode_code.specs.CodeRules.{first_of}
use Rattle.scode_code.proofs.Places.{some_eq, none_some}

-- a test of this number holds
abbrev pub Tells : List (ℕ × Bool) → ℕ → Type 0
Tells [] k = ⊥
Tells (rule ∷ rules) k = ((k ≡ rule.0) × (rule.1 ≡ true)) ⊎ Tells rules k

-- the numbers ascend
abbrev pub ascend : ℕ → List (ℕ × Bool) → Bool
ascend n [] = true
ascend n (rule ∷ rules) = nat_le n rule.0 && ascend (suc rule.0) rules

-- a number is told, and it is not above this one
abbrev pub AtMost : Option ℕ → ℕ → Type 0
AtMost None k = ⊥
AtMost (Some r) k = r ≤ k

pub first_tells : (rules : List (ℕ × Bool)) (r : ℕ) → first_of rules ≡ Some r → Tells rules r
first_tells [] r e = absurd (none_some r e)
first_tells (rule ∷ rules) r e = by_test (first_tells rules r) rule.1 refl e
  where
    by_test : (first_of rules ≡ Some r → Tells rules r) → (b : Bool) → rule.1 ≡ b
        → cond b (Some rule.0) (first_of rules) ≡ Some r → Tells (rule ∷ rules) r
    by_test later true is e = inl (sym (some_eq rule.0 r e), is)
    by_test later false is e = inr (later e)

above : (rules : List (ℕ × Bool)) (n k : ℕ) → ascend n rules ≡ true → Tells rules k → n ≤ k
above [] n k up tells = absurd tells
above (rule ∷ rules) n k up (inl is) =
    let low : n ≤ rule.0 = leb-true n rule.0 (and_parts (nat_le n rule.0) (ascend (suc rule.0) rules) up).0 in
    omega (arith, low, is.0)
above (rule ∷ rules) n k up (inr later) =
    let p = and_parts (nat_le n rule.0) (ascend (suc rule.0) rules) up in
    let low : n ≤ rule.0 = leb-true n rule.0 p.0 in
    let high : suc rule.0 ≤ k = above rules (suc rule.0) k p.1 later in
    omega (arith, low, high)

pub first_is_least : (rules : List (ℕ × Bool)) (n k : ℕ) → ascend n rules ≡ true → Tells rules k
    → AtMost (first_of rules) k
first_is_least [] n k up tells = absurd tells
first_is_least (rule ∷ rules) n k up tells =
    by_test (first_is_least rules (suc rule.0) k) (and_parts (nat_le n rule.0) (ascend (suc rule.0) rules) up).1 rule.1
    refl tells
  where
    by_test : (ascend (suc rule.0) rules ≡ true → Tells rules k → AtMost (first_of rules) k)
        → ascend (suc rule.0) rules ≡ true → (b : Bool) → rule.1 ≡ b → Tells (rule ∷ rules) k
        → AtMost (cond b (Some rule.0) (first_of rules)) k
    by_test further up true is (inl told) = omega (arith, told.0)
    by_test further up true is (inr later) =
        let high : suc rule.0 ≤ k = above rules (suc rule.0) k up later in omega (arith, high)
    by_test further up false is (inl told) = let wrong = told.1 in absurd cc
    by_test further up false is (inr later) = further up later
