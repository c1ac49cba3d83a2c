-- The sizes of the values of slots.
use Rattle.std.proofs.Common.{◌≡◌, ℕ, ◌+◌, Bool, true, false, not, cond, List, [], ◌∷◌, map, filter, sum_by, refl, ap, sym, ◌∙◌, zero-add}
use Rattle.std.proofs.lemmas.List.Sums.{sum_by-cons}
use Rattle.sed_typed.specs.Sizes.{config_size, runtime_size, value_size}
use Rattle.scode_image.specs.declared.image.ImageSlot.{ImageSlot}
use Rattle.scode_code.specs.Tables.{slot_of}
use Rattle.scode_fields.specs.Words.{counted, is_config, values_size}

one_more : {A : Type 0} (b : Bool) (f : A → ℕ) (x : A) (xs : List A)
    → sum_by f (cond b (x ∷ xs) xs) ≡ cond b (f x) 0 + sum_by f xs
one_more true f x xs = sum_by-cons f x xs
one_more false f x xs = sym (zero-add (sum_by f xs))

of_filtered : {A B : Type 0} (g : A → B) (p : B → Bool) (f : B → ℕ) (count : A → ℕ)
    → ((x : A) → cond (p (g x)) (f (g x)) 0 ≡ count x) → (xs : List A)
    → sum_by f (filter p (map g xs)) ≡ sum_by count xs
of_filtered g p f count same [] = refl
of_filtered g p f count same (x ∷ xs) =
    one_more (p (g x)) f (g x) (filter p (map g xs))
    ∙ ap (λ (n : ℕ). n + sum_by f (filter p (map g xs))) (same x)
    ∙ ap (λ (n : ℕ). count x + n) (of_filtered g p f count same xs)
    ∙ sym (sum_by-cons count x xs)

turned : (b : Bool) (n : ℕ) → cond (not b) n 0 ≡ cond b 0 n
turned true n = refl
turned false n = refl

pub config_size_is : (slots : List ImageSlot) → config_size (map slot_of slots) ≡ values_size true slots
config_size_is slots =
    of_filtered slot_of (λ s. s.config) (λ s. value_size s.form) (counted true) (λ s. refl) slots

pub runtime_size_is : (slots : List ImageSlot) → runtime_size (map slot_of slots) ≡ values_size false slots
runtime_size_is slots =
    of_filtered slot_of (λ s. not s.config) (λ s. value_size s.form) (counted false)
    (λ s. turned (is_config s) (value_size (slot_of s).form)) slots
