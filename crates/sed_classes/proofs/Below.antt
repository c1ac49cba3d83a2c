-- What is reached from a class is what stands in its lineage.
use Rattle.std.proofs.Common.{◌≡◌, ℕ, zero, suc, ◌==◌, ◌||◌, ◌⊎◌, Bool, true, false, if◌then◌else◌, List, [], ◌∷◌, ◌++◌, Option, Some, None, inl, inr, refl, sym, subst, ap, ◌∙◌, ne_eqb, eq-eqb}
use Rattle.std.specs.List.{list_any}
use Rattle.std.proofs.Math.Bool.{or-false}
use Rattle.std.proofs.lemmas.Bool.{cases_eq, false≢true}
use Rattle.sed_classes.specs.Bases.{gone_on, comes_to}
use Rattle.sed_classes.proofs.Climbs.{any_push}

-- what comes, if anything, is in the row
abbrev among : List ℕ → Option ℕ → Bool
among far None = true
among far (Some at) = list_any (λ f. f == at) far

-- each place of a row leads to one of them, or to where one goes on
abbrev LeadsOn : (ℕ → Option ℕ) → List ℕ → Option ℕ → Type 0
LeadsOn next far at = (f : ℕ) → list_any (λ g. g == f) far ≡ true → (next f ≡ at) ⊎ (among far (next f) ≡ true)

among_more : (far : List ℕ) (at : ℕ) (to : Option ℕ) → among far to ≡ true → among (far ++ at ∷ []) to ≡ true
among_more far at None there = refl
among_more far at (Some to) there = any_push far at to ∙ by_test (at == to)
  where
    by_test : (b : Bool) → (if b then true else list_any (λ f. f == to) far) ≡ true
    by_test true = refl
    by_test false = there

last_is_there : (far : List ℕ) (at : ℕ) → list_any (λ f. f == at) (far ++ at ∷ []) ≡ true
last_is_there far at =
    any_push far at at ∙ ap (λ b. if b then true else list_any (λ f. f == at) far) (eq-eqb at at refl)

leads_on_more : (next : ℕ → Option ℕ) (far : List ℕ) (at : ℕ) → LeadsOn next far (Some at) →
    LeadsOn next (far ++ at ∷ []) (next at)
leads_on_more next far at leads f is = elim (cases_eq at f) [
  | inl same ↦ inl (ap next (sym same))
  | inr ne ↦
      let there : list_any (λ g. g == f) far ≡ true =
      sym (ap (λ b. if b then true else list_any (λ g. g == f) far) (ne_eqb at f ne)) ∙ sym (any_push far at f) ∙ is in
      elim (leads f there) [
        | inl on ↦ inr (ap (among (far ++ at ∷ [])) on ∙ last_is_there far at)
        | inr stays ↦ inr (among_more far at (next f) stays)
      ]
]

-- from a row that leads to its own places no other is reached
stays_among : (next : ℕ → Option ℕ) (to n : ℕ) (far : List ℕ) (at : Option ℕ) →
    ((f : ℕ) → list_any (λ g. g == f) far ≡ true → among far (next f) ≡ true) → among far at ≡ true →
    comes_to next to n at ≡ true → list_any (λ f. f == to) far ≡ true
stays_among next to zero far at stays there comes = absurd (false≢true comes)
stays_among next to (suc n) far None stays there comes = absurd (false≢true comes)
stays_among next to (suc n) far (Some at) stays there comes = elim (cases_eq at to) [
  | inl same ↦ subst (λ (q : ℕ). list_any (λ f. f == q) far ≡ true) same there
  | inr ne ↦
      stays_among next to n far (next at) stays (stays at there)
      (ap (λ b. b || comes_to next to n (next at)) (sym (ne_eqb at to ne)) ∙ comes)
]

no_more : (x c : Bool) → (c ≡ true → x ≡ true) → x ≡ (x || c)
no_more true c within = refl
no_more false false within = refl
no_more false true within = absurd (false≢true (within refl))

in_turn : (a x c : Bool) → ((if a then true else x) || c) ≡ (x || (a || c))
in_turn true true c = refl
in_turn true false c = refl
in_turn false x c = refl

reached : (next : ℕ → Option ℕ) (to n : ℕ) (far : List ℕ) (at : Option ℕ) → LeadsOn next far at →
    list_any (λ f. f == to) (gone_on next n far at) ≡ (list_any (λ f. f == to) far || comes_to next to n at)
reached next to zero far at leads = sym (or-false (list_any (λ f. f == to) far))
reached next to (suc n) far None leads = sym (or-false (list_any (λ f. f == to) far))
reached next to (suc n) far (Some at) leads =
    by_test (list_any (λ f. f == at) far) refl
    (reached next to n (far ++ at ∷ []) (next at) (leads_on_more next far at leads))
  where
    by_test : (b : Bool) → list_any (λ f. f == at) far ≡ b →
        list_any (λ f. f == to) (gone_on next n (far ++ at ∷ []) (next at))
        ≡ (list_any (λ f. f == to) (far ++ at ∷ []) || comes_to next to n (next at)) →
        list_any (λ f. f == to) (if b then far else gone_on next n (far ++ at ∷ []) (next at))
        ≡ (list_any (λ f. f == to) far || ((at == to) || comes_to next to n (next at)))
    by_test true is rest =
        let stays : (f : ℕ) → list_any (λ g. g == f) far ≡ true → among far (next f) ≡ true =
        λ f there. elim (leads f there) [ inl on ↦ ap (among far) on ∙ is | inr stays ↦ stays ] in
        no_more (list_any (λ f. f == to) far) ((at == to) || comes_to next to n (next at))
        (stays_among next to (suc n) far (Some at) stays is)
    by_test false is rest =
        rest
        ∙ ap (λ b. b || comes_to next to n (next at)) (any_push far at to)
        ∙ in_turn (at == to) (list_any (λ f. f == to) far) (comes_to next to n (next at))

-- a place is what one began with, or is come to, exactly if it is gone on to
pub reached_or_first : (next : ℕ → Option ℕ) (to n class : ℕ) →
    list_any (λ f. f == to) (gone_on next n (class ∷ []) (next class))
    ≡ ((class == to) || comes_to next to n (next class))
reached_or_first next to n class =
    reached next to n (class ∷ []) (next class) (leads_on_more next [] class (λ f is. absurd (false≢true is)))
    ∙ ap (λ b. b || comes_to next to n (next class)) (or-false (class == to))
