-- Facts that hold or not, as a test tells.
use Rattle.std.proofs.Common.{◌≡◌, ℕ, ◌<◌, ◌⊎◌, inl, inr, Bool, true, List, [], ◌∷◌, refl, sym, ◌∙◌, ap, arith}
use Rattle.std.proofs.lemmas.Bool.{cases_Bool, cases_eq, cases_lt}
use Rattle.node_events.proofs.Truths.{no_true}

abbrev pub Decided : Type 0 → Type 0
Decided P = P ⊎ (P → ⊥)

pub is_true : (b : Bool) → Decided (b ≡ true)
is_true b = elim (cases_Bool b) [
  | inl holds ↦ inl holds
  | inr fails ↦ inr (λ is. no_true (sym fails ∙ is))
]

pub is_below : (a b : ℕ) → Decided (a < b)
is_below a b = elim (cases_lt a b) [
  | inl below ↦ inl below
  | inr above ↦ inr (λ is. omega (arith, above, is))
]

pub both : {P Q : Type 0} → Decided P → Decided Q → Decided (P × Q)
both (inl p) (inl q) = inl (p, q)
both (inl p) (inr fails) = inr (λ is. fails is.1)
both (inr fails) q = inr (λ is. fails is.0)

pub all_three : {P Q R : Type 0} → Decided P → Decided Q → Decided R → Decided (P × Q × R)
all_three (inl p) (inl q) (inl r) = inl (p, q, r)
all_three (inl p) (inl q) (inr fails) = inr (λ is. fails is.2)
all_three (inl p) (inr fails) r = inr (λ is. fails is.1)
all_three (inr fails) q r = inr (λ is. fails is.0)

pub is_empty : (bytes : List ℕ) → Decided (bytes ≡ [])
is_empty [] = inl refl
is_empty (byte ∷ behind) = inr (λ is. cc)

front_same : (x y : ℕ) (xs ys : List ℕ) → x ∷ xs ≡ y ∷ ys → (x ≡ y) × (xs ≡ ys)
front_same x y xs ys is = (cc, cc)

pub is_same : (xs ys : List ℕ) → Decided (xs ≡ ys)
is_same [] [] = inl refl
is_same [] (y ∷ ys) = inr (λ is. cc)
is_same (x ∷ xs) [] = inr (λ is. cc)
is_same (x ∷ xs) (y ∷ ys) = elim (both (cases_eq x y) (is_same xs ys)) [
  | inl are ↦ inl (ap (λ (n : ℕ). n ∷ xs) are.0 ∙ ap (λ (t : List ℕ). y ∷ t) are.1)
  | inr fails ↦ inr (λ is. fails (front_same x y xs ys is))
]
