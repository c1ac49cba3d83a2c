-- The truths that tell starts, one instruction after the other.
use Rattle.std.proofs.Common.{◌≡◌, ℕ, zero, suc, ◌+◌, ◌-◌, ◌<◌, ◌≤◌, ◌==◌, ◌||◌, Bool, true, false, List, [], length, get_or, replicate, refl, ap, sym, ◌∙◌, arith, Option, Some, None, ◌⊎◌, inl, inr}
use Rattle.std.specs.List.{list_any}
use Rattle.std.proofs.Math.Bool.{or-false, or-true}
use Rattle.std.proofs.Math.ListN.{set}
use Rattle.std.proofs.lemmas.Bool.{cases_eq, eq-eqb, ne_eqb}
use Rattle.std.proofs.lemmas.List.{get_or-set_same, get_or-set_other}
use Rattle.scode_ops.specs.declared.op.Op.{Op}
use Rattle.scode_ops.specs.Decoding.{op_at, size_of}
use Rattle.scode_code.specs.CodeRules.{is_start, starts_from, starts_on}

-- what is told of a place, or is still to be told of it
abbrev pub marked : List Bool → ℕ → ℕ → List ℕ → ℕ → Bool
marked told left place code p = get_or told p false || list_any (λ q. q == p) (starts_from left place code)

told_none : (n p : ℕ) → get_or (replicate n false) p false ≡ false
told_none zero p = refl
told_none (suc n) zero = refl
told_none (suc n) (suc p) = told_none n p

pub marks_begin : (told : List Bool) (code : List ℕ) (p : ℕ) → told ≡ replicate (length code) false
    → marked told (length code - 0) 0 code p ≡ is_start code p
marks_begin told code p new =
    let all : length code - 0 ≡ length code = omega arith in
    ap (λ (t : List Bool). marked t (length code - 0) 0 code p) new
    ∙ ap (λ (b : Bool). b || list_any (λ q. q == p) (starts_from (length code - 0) 0 code)) (told_none (length code) p)
    ∙ ap (λ (n : ℕ). list_any (λ q. q == p) (starts_from n 0 code)) all

marks_next : (told : List Bool) (left place : ℕ) (code : List ℕ) (p : ℕ) (i : Op) → place < length told
    → op_at code place ≡ Some i
    → marked told (suc left) place code p ≡ marked (set told place true) left (place + size_of i) code p
marks_next told left place code p i within is =
    let rest = list_any (λ q. q == p) (starts_from left (place + size_of i) code) in
    let here : marked told (suc left) place code p ≡ (get_or told p false || ((place == p) || rest)) =
    ap (λ (o : Option Op). get_or told p false || list_any (λ q. q == p) (starts_on (λ next. starts_from left next code) place o)) is in
    let h : ((place ≡ p) ⊎ (place ≡ p → ⊥)) = cases_eq place p in
    elim h [
      | inl e ↦ here
          ∙ ap (λ (b : Bool). get_or told p false || (b || rest)) (eq-eqb place p e) ∙ or-true (get_or told p false)
          ∙ sym (ap (λ (b : Bool). b || rest)
          (ap (λ (n : ℕ). get_or (set told place true) n false) (sym e) ∙ get_or-set_same told place true false within))
      | inr o ↦ here
          ∙ ap (λ (b : Bool). get_or told p false || (b || rest)) (ne_eqb place p o)
          ∙ sym (ap (λ (b : Bool). b || rest) (get_or-set_other told place p true false (λ s. o (sym s))))
    ]

pub marks_go_on : (told : List Bool) (n k place : ℕ) (code : List ℕ) (p : ℕ) (i : Op) → k < n → place < length told
    → op_at code place ≡ Some i
    → marked told (n - k) place code p ≡ marked (set told place true) (n - (k + 1)) (place + size_of i) code p
marks_go_on told n k place code p i more within is =
    let step : n - k ≡ suc (n - (k + 1)) = omega arith in
    ap (λ (m : ℕ). marked told m place code p) step ∙ marks_next told (n - (k + 1)) place code p i within is

none_left : (left place : ℕ) (code : List ℕ) → op_at code place ≡ None → starts_from left place code ≡ []
none_left zero place code is = refl
none_left (suc left) place code is = ap (λ (o : Option Op). starts_on (λ next. starts_from left next code) place o) is

pub marks_end : (told : List Bool) (left place : ℕ) (code : List ℕ) (p : ℕ) → op_at code place ≡ None
    → marked told left place code p ≡ get_or told p false
marks_end told left place code p is =
    ap (λ (ps : List ℕ). get_or told p false || list_any (λ q. q == p) ps) (none_left left place code is)
    ∙ or-false (get_or told p false)

pub marks_over : (told : List Bool) (n k place : ℕ) (code : List ℕ) (p : ℕ) → n ≤ k
    → marked told (n - k) place code p ≡ get_or told p false
marks_over told n k place code p past =
    let none : n - k ≡ 0 = omega arith in
    ap (λ (m : ℕ). marked told m place code p) none ∙ or-false (get_or told p false)
