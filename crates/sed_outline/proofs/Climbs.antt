-- Bases that lead nowhere back come to an end, and what a class inherits is part of what its base comes to.
use Rattle.std.proofs.Common.{◌≡◌, ◌≤◌, ◌+◌, ◌==◌, ◌||◌, ℕ, zero, suc, Bool, true, false, if◌then◌else◌, List, [], ◌∷◌, ◌++◌, drop, Option, Some, None, refl, ap, ◌∙◌, arith}
use Rattle.std.specs.List.{list_any, sum_by}
use Rattle.std.proofs.lemmas.List.Sums.{sum_by-append, sum_by-cons}
use Rattle.sed_classes.specs.Bases.{comes_to, gone_on}

-- ---- a climb, however it goes on

-- what is met in at most so many steps
abbrev pub path : (ℕ → Option ℕ) → ℕ → Option ℕ → List ℕ
path next zero at = []
path next (suc n) None = []
path next (suc n) (Some at) = at ∷ path next n (next at)

pub comes_among : (next : ℕ → Option ℕ) (to n : ℕ) (o : Option ℕ) → comes_to next to n o ≡ list_any (λ x. x == to) (path next n o)
comes_among next to zero o = refl
comes_among next to (suc n) None = refl
comes_among next to (suc n) (Some at) = ap (λ b. (at == to) || b) (comes_among next to n (next at))

-- ---- sums over what is gone on

abbrev pub total : (ℕ → ℕ) → List ℕ → ℕ
total own xs = sum_by own xs

if_most : (b : Bool) (m n k : ℕ) → m ≤ k → n ≤ k → (if b then m else n) ≤ k
if_most true m n k p q = p
if_most false m n k p q = q

if_least : (b : Bool) (k m n : ℕ) → k ≤ m → k ≤ n → k ≤ (if b then m else n)
if_least true k m n p q = p
if_least false k m n p q = q

total_if : (own : ℕ → ℕ) (b : Bool) (xs ys : List ℕ) → total own (if b then xs else ys) ≡ (if b then total own xs else total own ys)
total_if own true xs ys = refl
total_if own false xs ys = refl

-- what is there stays
pub stays : (own : ℕ → ℕ) (next : ℕ → Option ℕ) (n : ℕ) (far : List ℕ) (o : Option ℕ) → total own far ≤ total own (gone_on next n far o)
stays own next zero far o = omega arith
stays own next (suc n) far None = omega arith
stays own next (suc n) far (Some at) =
    let more : total own (far ++ at ∷ []) ≡ total own far + total own (at ∷ []) = sum_by-append own far (at ∷ []) in
    let on : total own (far ++ at ∷ []) ≤ total own (gone_on next n (far ++ at ∷ []) (next at)) = stays own next n (far ++ at ∷ []) (next at) in
    let least : total own far ≤ (if list_any (λ f. f == at) far then total own far else total own (gone_on next n (far ++ at ∷ []) (next at))) =
    if_least
    (list_any (λ f. f == at) far)
    (total own far)
    (total own far)
    (total own (gone_on next n (far ++ at ∷ []) (next at)))
    (omega arith)
    (omega arith) in
    omega (arith, least, total_if own (list_any (λ f. f == at) far) far (gone_on next n (far ++ at ∷ []) (next at)))

both : (own : ℕ → ℕ) (p q : Bool) (a b x y : List ℕ) (k : ℕ) →
    total own a ≤ k + total own b → total own a ≤ k + total own y → total own x ≤ k + total own y →
    total own (if (p || q) then a else x) ≤ k + total own (if q then b else y)
both own true true a b x y k e f g = e
both own true false a b x y k e f g = f
both own false true a b x y k e f g = e
both own false false a b x y k e f g = g

-- one class more before the others adds no more than itself
pub adds_itself : (own : ℕ → ℕ) (next : ℕ → Option ℕ) (n m : ℕ) (class : ℕ) (far : List ℕ) (o : Option ℕ) → n ≤ m →
    total own (gone_on next n (class ∷ far) o) ≤ own class + total own (gone_on next m far o)
adds_itself own next zero m class far o le = omega (arith, sum_by-cons own class far, stays own next m far o)
adds_itself own next (suc n) zero class far o le = absurd (omega arith)
adds_itself own next (suc n) (suc m) class far None le = omega (arith, sum_by-cons own class far)
adds_itself own next (suc n) (suc m) class far (Some at) le =
    both
    own
    (class == at)
    (list_any (λ f. f == at) far)
    (class ∷ far)
    far
    (gone_on next n (class ∷ (far ++ at ∷ [])) (next at))
    (gone_on next m (far ++ at ∷ []) (next at))
    (own class)
    (omega (arith, sum_by-cons own class far))
    (omega (
      arith,
      sum_by-cons own class far,
      sum_by-append own far (at ∷ []),
      stays own next m (far ++ at ∷ []) (next at),
    ))
    (adds_itself own next n m class (far ++ at ∷ []) (next at) (omega arith))

-- it begins with the class itself
begins : (next : ℕ → Option ℕ) (n class : ℕ) (far : List ℕ) (o : Option ℕ) →
    gone_on next n (class ∷ far) o ≡ class ∷ drop 1 (gone_on next n (class ∷ far) o)
begins next zero class far o = refl
begins next (suc n) class far None = refl
begins next (suc n) class far (Some at) =
    by_test (list_any (λ f. f == at) (class ∷ far)) (begins next n class (far ++ at ∷ []) (next at))
  where
    by_test : (b : Bool) →
        gone_on next n (class ∷ (far ++ at ∷ [])) (next at) ≡ class ∷ drop 1 (gone_on next n (class ∷ (far ++ at ∷ [])) (next at)) →
        (if b then class ∷ far else gone_on next n (class ∷ (far ++ at ∷ [])) (next at))
        ≡ class ∷ drop 1 (if b then class ∷ far else gone_on next n (class ∷ (far ++ at ∷ [])) (next at))
    by_test true e = refl
    by_test false e = e

-- a class takes itself and what its bases take
pub parted : (own : ℕ → ℕ) (next : ℕ → Option ℕ) (n class : ℕ) (o : Option ℕ) →
    total own (gone_on next n (class ∷ []) o) ≡ own class + total own (drop 1 (gone_on next n (class ∷ []) o))
parted own next n class o =
    ap (total own) (begins next n class [] o) ∙ sum_by-cons own class (drop 1 (gone_on next n (class ∷ []) o))

-- the bases of a class take no more than its base with all that this inherits
pub bases_most : (own : ℕ → ℕ) (next : ℕ → Option ℕ) (n class base : ℕ) →
    total own (drop 1 (gone_on next n (class ∷ []) (Some base))) ≤ total own (gone_on next n (base ∷ []) (next base))
bases_most own next zero class base = omega arith
bases_most own next (suc n) class base =
    let more : total own (gone_on next n (class ∷ (base ∷ [])) (next base)) ≤ own class + total own (gone_on next (suc n) (base ∷ []) (next base)) =
    adds_itself own next n (suc n) class (base ∷ []) (next base) (omega arith) in
    by_test (class == base) more (parted own next (suc n) class (Some base))
  where
    by_test : (b : Bool) →
        total own (gone_on next n (class ∷ (base ∷ [])) (next base)) ≤ own class + total own (gone_on next (suc n) (base ∷ []) (next base)) →
        total own (if (b || false) then class ∷ [] else gone_on next n (class ∷ (base ∷ [])) (next base))
        ≡ own class + total own (drop 1 (if (b || false) then class ∷ [] else gone_on next n (class ∷ (base ∷ [])) (next base))) →
        total own (drop 1 (if (b || false) then class ∷ [] else gone_on next n (class ∷ (base ∷ [])) (next base)))
        ≤ total own (gone_on next (suc n) (base ∷ []) (next base))
    by_test true more e = omega arith
    by_test false more e = omega (arith, more, e)
