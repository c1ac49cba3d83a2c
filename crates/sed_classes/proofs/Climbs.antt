-- Going on from base to base, step by step.
use Rattle.std.proofs.Common.{◌≡◌, ◌<◌, ℕ, zero, suc, ◌-◌, Bool, true, false, not, if◌then◌else◌, ◌==◌, ◌||◌, List, [], ◌∷◌, ◌++◌, Option, Some, refl, sym, ap, ◌∙◌, arith}
use Rattle.std.specs.BTreeMap.{is_at}
use Rattle.std.specs.BTreeSet.{BTreeSet, contains}
use Rattle.std.specs.List.{list_any}
use Rattle.std.specs.Ordering.{nat_cmp}
use Rattle.sed_classes.specs.Bases.{gone_on, comes_to}

-- what is there already ends it
pub gone_among : (next : ℕ → Option ℕ) (n : ℕ) (far : List ℕ) (at : ℕ) → list_any (λ f. f == at) far ≡ true → gone_on next n far (Some at) ≡ far
gone_among next zero far at h = refl
gone_among next (suc n) far at h = rw h refl

-- what is new is put behind the row
pub gone_more : (next : ℕ → Option ℕ) (n : ℕ) (far : List ℕ) (at : ℕ) → 0 < n → list_any (λ f. f == at) far ≡ false →
    gone_on next n far (Some at) ≡ gone_on next (n - 1) (far ++ at ∷ []) (next at)
gone_more next zero far at some h = absurd (omega (arith, some))
gone_more next (suc n) far at some h =
    let e : n ≡ suc n - 1 = omega arith in rw h (ap (λ m. gone_on next m (far ++ at ∷ []) (next at)) e)

-- ---- a set of places beside their row

-- the set has the places of the row
abbrev pub IsSeen : BTreeSet ℕ → List ℕ → Type 0
IsSeen seen far = (q : ℕ) → contains nat_cmp seen q ≡ list_any (λ f. f == q) far

-- a set without places has those of an empty row
pub seen_none : (seen : BTreeSet ℕ) → seen.keys ≡ [] → IsSeen seen []
seen_none seen empty = λ q. ap (list_any (is_at (nat_cmp q))) empty

pub any_push : (xs : List ℕ) (y q : ℕ) → list_any (λ f. f == q) (xs ++ y ∷ []) ≡ (if y == q then true else list_any (λ f. f == q) xs)
any_push [] y q = by_test (y == q)
  where
    by_test : (b : Bool) → (b || false) ≡ (if b then true else false)
    by_test true = refl
    by_test false = refl
any_push (x ∷ xs) y q = ap (λ b. (x == q) || b) (any_push xs y q) ∙ by_tests (x == q) (y == q)
  where
    by_tests : (a b : Bool) → (a || (if b then true else list_any (λ f. f == q) xs)) ≡ (if b then true else a || list_any (λ f. f == q) xs)
    by_tests true true = refl
    by_tests true false = refl
    by_tests false true = refl
    by_tests false false = refl

-- one more in both
pub seen_more : (old new : BTreeSet ℕ) (far : List ℕ) (at : ℕ) → ((q : ℕ) → contains nat_cmp new q ≡ (if at == q then true else contains nat_cmp old q)) → IsSeen old far → IsSeen new (far ++ at ∷ [])
seen_more old new far at put seen q = put q ∙ ap (λ b. if at == q then true else b) (seen q) ∙ sym (any_push far at q)

-- what was there is in the row, and what is new is not
pub was_seen : (seen : BTreeSet ℕ) (far : List ℕ) (at : ℕ) (is_new : Bool) → IsSeen seen far → is_new ≡ not (contains nat_cmp seen at) → list_any (λ f. f == at) far ≡ not is_new
was_seen seen far at is_new same told = sym (same at) ∙ turned (contains nat_cmp seen at) is_new told
  where
    turned : (b n : Bool) → n ≡ not b → b ≡ not n
    turned true n e = ap not (sym e)
    turned false n e = ap not (sym e)

-- another place leads on
pub comes_more : (next : ℕ → Option ℕ) (to n at : ℕ) → 0 < n → (at == to) ≡ false → comes_to next to n (Some at) ≡ comes_to next to (n - 1) (next at)
comes_more next to zero at some h = absurd (omega (arith, some))
comes_more next to (suc n) at some h =
    let e : n ≡ suc n - 1 = omega arith in rw h (ap (λ m. comes_to next to m (next at)) e)
