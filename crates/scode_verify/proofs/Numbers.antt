-- The numbers of entries by their places.
use Rattle.std.proofs.Common.{◌≡◌, ℕ, zero, suc, ◌+◌, ◌<◌, ◌==◌, cond, Bool, List, [], ◌∷◌, drop, find, length, get_or, replicate, slice_get, refl, ap, sym, ◌∙◌, arith, Option, Some, None, ◌⊎◌, inl, inr}
use Rattle.std.specs.Prelude.{IfSome}
use Rattle.std.specs.Option.{option_and_then}
use Rattle.std.proofs.Math.ListN.{set}
use Rattle.std.proofs.lemmas.Bool.{cases_eq, eq-eqb, ne_eqb}
use Rattle.std.proofs.lemmas.List.{drop_all, get_or-set_same, get_or-set_other}
use Rattle.scode_tables.proofs.Rests.{next_left}
use Rattle.scode_image.specs.declared.image.ImageEntry.{ImageEntry}
use Rattle.scode_verify.specs.Words.{first_number}

abbrev none : Option ℕ
none = None

no_number : (n p : ℕ) → get_or (replicate n none) p none ≡ none
no_number zero p = refl
no_number (suc n) zero = refl
no_number (suc n) (suc p) = no_number n p

pub numbers_begin : (numbers : List (Option ℕ)) (n : ℕ) (es : List ImageEntry) (p : ℕ) → numbers ≡ replicate n None
    → get_or numbers p None ≡ first_number p (length es) (drop (length es) es)
numbers_begin numbers n es p new =
    ap (λ (ns : List (Option ℕ)). get_or ns p None) new ∙ no_number n p
    ∙ sym (ap (λ (xs : List ImageEntry). first_number p (length es) xs) (drop_all (length es) es (omega arith)))

pub numbers_go_on : (numbers : List (Option ℕ)) (es : List ImageEntry) (k p : ℕ) (e : ImageEntry) → k < length es
    → e ≡ get_or es k e → p < length numbers → get_or numbers p None ≡ first_number p (k + 1) (drop (k + 1) es)
    → get_or (set numbers e.place (Some k)) p None ≡ first_number p k (drop k es)
numbers_go_on numbers es k p e within is there told =
    let next : first_number p k (drop k es) ≡ cond (e.place == p) (Some k) (first_number p (k + 1) (drop (k + 1) es)) =
    ap (λ (xs : List ImageEntry). first_number p k xs) (next_left k es e within is) in
    let h : ((e.place ≡ p) ⊎ (e.place ≡ p → ⊥)) = cases_eq e.place p in
    elim h [
      | inl s ↦ ap (λ (n : ℕ). get_or (set numbers n (Some k)) p None) s ∙ get_or-set_same numbers p (Some k) None there
          ∙ sym (next ∙ ap (λ (b : Bool). cond b (Some k) (first_number p (k + 1) (drop (k + 1) es))) (eq-eqb e.place p s))
      | inr o ↦ get_or-set_other numbers e.place p (Some k) None (λ s. o (sym s)) ∙ told
          ∙ sym (next ∙ ap (λ (b : Bool). cond b (Some k) (first_number p (k + 1) (drop (k + 1) es))) (ne_eqb e.place p o))
    ]

get_behind : (n : ℕ) (all : List ImageEntry) → slice_get all n ≡ slice_get (drop n all) 0
get_behind zero all = refl
get_behind (suc n) [] = refl
get_behind (suc n) (e ∷ es) = get_behind n es

rest_behind : (n : ℕ) (all es : List ImageEntry) (e : ImageEntry) → drop n all ≡ e ∷ es → drop (n + 1) all ≡ es
rest_behind zero [] es e is = cc
rest_behind zero (x ∷ xs) es e is = cc
rest_behind (suc n) [] es e is = cc
rest_behind (suc n) (x ∷ xs) es e is =
    let one : suc n + 1 ≡ suc (n + 1) = omega arith in
    ap (λ (m : ℕ). drop m (x ∷ xs)) one ∙ rest_behind n xs es e is

found_by : (all : List ImageEntry) (p n : ℕ) (es : List ImageEntry) → drop n all ≡ es
    → find (λ e. e.place == p) es ≡ option_and_then (λ i. slice_get all i) (first_number p n es)
found_by all p n [] is = refl
found_by all p n (e ∷ es) is =
    let h : ((e.place ≡ p) ⊎ (e.place ≡ p → ⊥)) = cases_eq e.place p in
    elim h [
      | inl s ↦ ap (λ (b : Bool). cond b (Some e) (find (λ x. x.place == p) es)) (eq-eqb e.place p s)
          ∙ sym (ap (λ (b : Bool). option_and_then (λ i. slice_get all i) (cond b (Some n) (first_number p (n + 1) es))) (eq-eqb e.place p s)
          ∙ get_behind n all ∙ ap (λ (xs : List ImageEntry). slice_get xs 0) is)
      | inr o ↦ ap (λ (b : Bool). cond b (Some e) (find (λ x. x.place == p) es)) (ne_eqb e.place p o)
          ∙ found_by all p (n + 1) es (rest_behind n all es e is)
          ∙ sym (ap (λ (b : Bool). option_and_then (λ i. slice_get all i) (cond b (Some n) (first_number p (n + 1) es))) (ne_eqb e.place p o))
    ]

pub entry_is : (es : List ImageEntry) (p : ℕ)
    → find (λ e. e.place == p) es ≡ option_and_then (λ i. slice_get es i) (first_number p 0 es)
entry_is es p = found_by es p 0 es refl

pub numbered : (es : List ImageEntry) (p : ℕ) (o : Option ℕ) → o ≡ first_number p 0 es
    → IfSome o (λ n. slice_get es n ≡ find (λ e. e.place == p) es)
numbered es p None is = tt
numbered es p (Some n) is =
    sym (entry_is es p ∙ ap (λ (o : Option ℕ). option_and_then (λ i. slice_get es i) o) (sym is))
