-- Arrays of bools, and of other numbers, of which each fits.
use Rattle.std.proofs.Common.{◌≡◌, ℕ, suc, ◌+◌, ◌-◌, ◌*◌, ◌<◌, ◌≤◌, ◌==◌, ◌&&◌, ◌||◌, Bool, true, false, not, nat_le, List, [], ◌∷◌, refl, ap, sym, ◌∙◌, arith, ◌⊎◌, inl, inr}
use Rattle.std.specs.List.{list_all, range_with_len}
use Rattle.std.proofs.lemmas.Bool.{cases_eq, eq-eqb, le-leb, lt-leb, ne_eqb}
use Rattle.sed_value.specs.SlotType.{width_of}
use Rattle.sed_wire.specs.Number.{number_of}
use Rattle.scode_code.specs.Contents.{bytes_at}
use Rattle.scode_code.specs.Tables.{primitive_of}
use Rattle.scode_code.specs.TableRules.{array_fits}
use Rattle.scode_fields.specs.Words.{bools_fit}

pub all_same : {A : Type 0} (p q : A → Bool) → ((x : A) → p x ≡ q x) → (xs : List A) → list_all p xs ≡ list_all q xs
all_same p q same [] = refl
all_same p q same (x ∷ xs) = ap (λ b. b && list_all p xs) (same x) ∙ ap (λ b. q x && b) (all_same p q same xs)

all_true : {A : Type 0} (xs : List A) → list_all (λ x. true) xs ≡ true
all_true [] = refl
all_true (x ∷ xs) = all_true xs

bools : (n : ℕ) (bytes : List ℕ) (offset : ℕ) → array_fits 1 n bytes offset ≡ bools_fit n bytes offset
bools n bytes offset =
    all_same _ (λ i. nat_le (number_of (bytes_at bytes (offset + i) 1)) 2)
    (λ i. let one : offset + i * 1 ≡ offset + i = omega arith in
    ap (λ (at : ℕ). nat_le (number_of (bytes_at bytes at 1)) 2) one) (range_with_len 0 n)

others : (form n : ℕ) (bytes : List ℕ) (offset : ℕ) → (form ≡ 1 → ⊥) → array_fits form n bytes offset ≡ true
others form n bytes offset other =
    all_same _ (λ (i : ℕ). true)
    (λ i. ap (λ (b : Bool). not b || nat_le (number_of (bytes_at bytes (offset + i * width_of (primitive_of form)) 1)) 2)
    (ne_eqb form 1 other)) (range_with_len 0 n)
    ∙ all_true (range_with_len 0 n)

pub array_of_bools : (form n : ℕ) (bytes : List ℕ) (offset : ℕ)
    → array_fits form n bytes offset ≡ (not (form == 1) || bools_fit n bytes offset)
array_of_bools form n bytes offset =
    let h : ((form ≡ 1) ⊎ (form ≡ 1 → ⊥)) = cases_eq form 1 in
    elim h [
      | inl e ↦ ap (λ (f : ℕ). array_fits f n bytes offset) e ∙ bools n bytes offset
          ∙ sym (ap (λ (b : Bool). not b || bools_fit n bytes offset) (eq-eqb form 1 e))
      | inr o ↦ others form n bytes offset o ∙ sym (ap (λ (b : Bool). not b || bools_fit n bytes offset) (ne_eqb form 1 o))
    ]

-- ---- one number after the other

-- the test of those that are left
abbrev pub rest_fit : ℕ → List ℕ → ℕ → ℕ → Bool
rest_fit n bytes offset i = list_all (λ k. nat_le (number_of (bytes_at bytes (offset + k) 1)) 2) (range_with_len i (n - i))

next_fit : (n : ℕ) (bytes : List ℕ) (offset i : ℕ) → i < n
    → rest_fit n bytes offset i ≡ (nat_le (number_of (bytes_at bytes (offset + i) 1)) 2 && rest_fit n bytes offset (i + 1))
next_fit n bytes offset i within =
    let more : n - i ≡ suc (n - (i + 1)) = omega arith in
    ap (λ (k : ℕ). list_all (λ k. nat_le (number_of (bytes_at bytes (offset + k) 1)) 2) (range_with_len i k)) more

pub fit_begins : (n : ℕ) (bytes : List ℕ) (offset : ℕ) → rest_fit n bytes offset 0 ≡ bools_fit n bytes offset
fit_begins n bytes offset =
    let all : n - 0 ≡ n = omega arith in
    ap (λ (k : ℕ). list_all (λ k. nat_le (number_of (bytes_at bytes (offset + k) 1)) 2) (range_with_len 0 k)) all

pub fit_fails : (n : ℕ) (bytes : List ℕ) (offset i : ℕ) → i < n → 2 < number_of (bytes_at bytes (offset + i) 1)
    → rest_fit n bytes offset i ≡ false
fit_fails n bytes offset i within high =
    next_fit n bytes offset i within
    ∙ ap (λ (b : Bool). b && rest_fit n bytes offset (i + 1)) (lt-leb _ 2 high)

pub fit_goes_on : (n : ℕ) (bytes : List ℕ) (offset i : ℕ) → i < n → number_of (bytes_at bytes (offset + i) 1) ≤ 2
    → rest_fit n bytes offset i ≡ rest_fit n bytes offset (i + 1)
fit_goes_on n bytes offset i within low =
    next_fit n bytes offset i within
    ∙ ap (λ (b : Bool). b && rest_fit n bytes offset (i + 1)) (le-leb _ 2 low)

pub fit_over : (n : ℕ) (bytes : List ℕ) (offset i : ℕ) → n ≤ i → rest_fit n bytes offset i ≡ true
fit_over n bytes offset i past =
    let none : n - i ≡ 0 = omega arith in
    ap (λ (k : ℕ). list_all (λ k. nat_le (number_of (bytes_at bytes (offset + k) 1)) 2) (range_with_len i k)) none
