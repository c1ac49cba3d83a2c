-- Bases that come to an end.
use Rattle.std.proofs.Common.{◌≡◌, ◌<◌, ◌≤◌, ℕ, zero, suc, ◌-◌, ◌==◌, Bool, true, false, if◌then◌else◌, List, [], ◌∷◌, ◌++◌, length, Option, Some, None, inl, inr, refl, sym, subst, ap, ◌∙◌, arith, ne_eqb}
use Rattle.std.specs.List.{list_any}
use Rattle.std.proofs.lemmas.Bool.{cases_eq, false≢true}
use Rattle.std.proofs.lemmas.List.{append-nil, append_assoc}
use Rattle.sed_classes.specs.Bases.{gone_on, comes_to}
use Rattle.sed_classes.specs.Ends.{ends_after, gone_through}
use Rattle.sed_classes.proofs.Climbs.{any_push}

-- an end is reached after one number of steps alone
pub one_end : (next : ℕ → Option ℕ) (m n : ℕ) (at : Option ℕ) →
    ends_after next m at ≡ true → ends_after next n at ≡ true → m ≡ n
one_end next zero zero at h k = refl
one_end next zero (suc n) None h k = absurd (false≢true k)
one_end next zero (suc n) (Some at) h k = absurd (false≢true h)
one_end next (suc m) zero None h k = absurd (false≢true h)
one_end next (suc m) zero (Some at) h k = absurd (false≢true k)
one_end next (suc m) (suc n) None h k = absurd (false≢true h)
one_end next (suc m) (suc n) (Some at) h k = ap suc (one_end next m n (next at) h k)

-- so many steps to an end go through so many places
pub through_count : (next : ℕ → Option ℕ) (n : ℕ) (at : Option ℕ) →
    ends_after next n at ≡ true → length (gone_through next n at) ≡ n
through_count next zero at ends = refl
through_count next (suc n) None ends = absurd (false≢true ends)
through_count next (suc n) (Some at) ends = ap suc (through_count next n (next at) ends)

-- where nothing comes nothing is gone through
pub through_none : (next : ℕ → Option ℕ) (n : ℕ) → gone_through next n None ≡ []
through_none next zero = refl
through_none next (suc n) = refl

-- what comes is gone through first
pub through_more : (next : ℕ → Option ℕ) (n at : ℕ) → 0 < n →
    gone_through next n (Some at) ≡ at ∷ gone_through next (n - 1) (next at)
through_more next zero at some = absurd (omega (arith, some))
through_more next (suc n) at some =
    let e : n ≡ suc n - 1 = omega arith in ap (λ m. at ∷ gone_through next m (next at)) e

-- one step more leads to the end of what comes from here
pub one_more : (next : ℕ → Option ℕ) (n at : ℕ) → 0 < n →
    ends_after next (n - 1) (next at) ≡ true → ends_after next n (Some at) ≡ true
one_more next zero at some ends = absurd (omega (arith, some))
one_more next (suc n) at some ends =
    let e : n ≡ suc n - 1 = omega arith in ap (λ m. ends_after next m (next at)) e ∙ ends

-- steps that are the same come to the same end
pub ends_along : (next other : ℕ → Option ℕ) → ((c : ℕ) → next c ≡ other c) → (n : ℕ) (at : Option ℕ) →
    ends_after next n at ≡ ends_after other n at
ends_along next other same zero None = refl
ends_along next other same zero (Some at) = refl
ends_along next other same (suc n) None = refl
ends_along next other same (suc n) (Some at) =
    ap (ends_after next n) (same at) ∙ ends_along next other same n (other at)

-- ---- no place comes twice on the way to an end

-- each place of a row is as far from an end as this, or farther
abbrev pub AreFarther : (ℕ → Option ℕ) → ℕ → List ℕ → Type 0
AreFarther next n far = (f : ℕ) → list_any (λ g. g == f) far ≡ true →
    (k : ℕ) × (n ≤ k) × (ends_after next k (next f) ≡ true)

-- what is nearer is none of them
nearer_is_new : (next : ℕ → Option ℕ) (n : ℕ) (far : List ℕ) (at : ℕ) → AreFarther next (suc n) far →
    ends_after next n (next at) ≡ true → list_any (λ f. f == at) far ≡ false
nearer_is_new next n far at farther ends = by_test (list_any (λ f. f == at) far) refl
  where
    by_test : (b : Bool) → list_any (λ f. f == at) far ≡ b → b ≡ false
    by_test false is = refl
    by_test true is =
        let k = farther at is in
        let same : k.0 ≡ n = one_end next k.0 n (next at) k.2 ends in
        absurd (omega (arith, k.1, same))

farther_more : (next : ℕ → Option ℕ) (n : ℕ) (far : List ℕ) (at : ℕ) → AreFarther next (suc n) far →
    ends_after next n (next at) ≡ true → AreFarther next n (far ++ at ∷ [])
farther_more next n far at farther ends f is = elim (cases_eq at f) [
  | inl same ↦ (n, omega arith, subst (λ (q : ℕ). ends_after next n (next q) ≡ true) same ends)
  | inr ne ↦
      let there : list_any (λ g. g == f) far ≡ true =
      sym (ap (λ b. if b then true else list_any (λ g. g == f) far) (ne_eqb at f ne)) ∙ sym (any_push far at f) ∙ is in
      let k = farther f there in (k.0, omega (arith, k.1), k.2)
]

going_to_end : (next : ℕ → Option ℕ) (n steps : ℕ) (far : List ℕ) (at : Option ℕ) → n ≤ steps →
    AreFarther next n far → ends_after next n at ≡ true → gone_on next steps far at ≡ far ++ gone_through next n at
going_to_end next zero zero far at le farther ends = sym (append-nil far)
going_to_end next zero (suc steps) far None le farther ends = sym (append-nil far)
going_to_end next zero (suc steps) far (Some at) le farther ends = absurd (false≢true ends)
going_to_end next (suc n) zero far at le farther ends = absurd (omega (arith, le))
going_to_end next (suc n) (suc steps) far None le farther ends = absurd (false≢true ends)
going_to_end next (suc n) (suc steps) far (Some at) le farther ends =
    let new : list_any (λ f. f == at) far ≡ false = nearer_is_new next n far at farther ends in
    rw new (going_to_end next n steps (far ++ at ∷ []) (next at) (omega (arith, le))
    (farther_more next n far at farther ends) ends
    ∙ append_assoc far (at ∷ []) (gone_through next n (next at)))

-- the way to an end is gone on to it, with nothing left out
pub gone_to_end : (next : ℕ → Option ℕ) (n steps class : ℕ) → n ≤ steps → ends_after next n (next class) ≡ true →
    gone_on next steps (class ∷ []) (next class) ≡ class ∷ gone_through next n (next class)
gone_to_end next n steps class le ends =
    going_to_end next n steps (class ∷ []) (next class) le
    (farther_more next n [] class (λ f is. absurd (false≢true is)) ends) ends

not_back : (next : ℕ → Option ℕ) (to k n steps : ℕ) (at : Option ℕ) → n ≤ k → ends_after next k (next to) ≡ true →
    ends_after next n at ≡ true → comes_to next to steps at ≡ false
not_back next to k n zero at le back ends = refl
not_back next to k n (suc steps) None le back ends = refl
not_back next to k zero (suc steps) (Some at) le back ends = absurd (false≢true ends)
not_back next to k (suc n) (suc steps) (Some at) le back ends =
    let apart : (at == to) ≡ false = elim (cases_eq at to) [
      | inl same ↦
          absurd
          (let e : n ≡ k =
          one_end next n k (next to) (subst (λ (q : ℕ). ends_after next n (next q) ≡ true) same ends) back in
          omega (arith, le, e))
      | inr ne ↦ ne_eqb at to ne
    ] in
    rw apart (not_back next to k n steps (next at) (omega (arith, le)) back ends)

-- the way from a place to an end does not lead back to it
pub never_back : (next : ℕ → Option ℕ) (n steps class : ℕ) → ends_after next n (next class) ≡ true →
    comes_to next class steps (next class) ≡ false
never_back next n steps class ends = not_back next class n n steps (next class) (omega arith) ends ends
