-- Climbs that come to an end.
use Rattle.std.proofs.Common.{◌≡◌, ◌<◌, ◌≤◌, ◌==◌, ◌||◌, ℕ, zero, suc, Bool, true, false, eqb, if◌then◌else◌, List, [], ◌∷◌, ◌++◌, length, map, Option, Some, None, refl, sym, ap, ◌∙◌, subst, arith, append_assoc}
use Rattle.std.specs.List.{list_any, AllByRecursion, IsDistinct}
use Rattle.std.proofs.lemmas.List.Folds.{list_any-append}
use Rattle.std.proofs.lemmas.Map.Keys.{IsDistinct-cons}
use Rattle.std.proofs.lemmas.Bool.Decides.{nat_tests}
use Rattle.sed_typed.specs.Classes.{reached}
use Rattle.sed_classes.specs.Bases.{gone_on}
use Rattle.sed_outline.proofs.Rounds.{gone_none}

-- these are what is met, one by one, until nothing comes
abbrev pub Leads : (ℕ → Option ℕ) → Option ℕ → List ℕ → Type 0
Leads next o [] = o ≡ None
Leads next o (x ∷ xs) = (o ≡ Some x) × Leads next (next x) xs

pub leads_same : (next : ℕ → Option ℕ) (o : Option ℕ) (xs ys : List ℕ) → Leads next o xs → Leads next o ys → xs ≡ ys
leads_same next o [] [] p q = refl
leads_same next o [] (y ∷ ys) p q = let e : None ≡ Some y = sym p ∙ q.0 in cc
leads_same next o (x ∷ xs) [] p q = let e : None ≡ Some x = sym q ∙ p.0 in cc
leads_same next o (x ∷ xs) (y ∷ ys) p q =
    let some : Some x ≡ Some y = sym p.0 ∙ q.0 in
    let same : x ≡ y = cc in
    ap (λ z. z ∷ xs) same
    ∙ ap (λ zs. y ∷ zs) (leads_same next (next y) xs ys (subst (λ z. Leads next (next z) xs) same p.1) q.1)

pub leads_reach : (next : ℕ → Option ℕ) (k : ℕ) (o : Option ℕ) (xs : List ℕ) → Leads next o xs → length xs ≤ k →
    reached next k o ≡ xs
leads_reach next zero o [] p le = refl
leads_reach next zero o (x ∷ xs) p le = absurd (omega (arith, le))
leads_reach next (suc k) o [] p le = ap (reached next (suc k)) p
leads_reach next (suc k) o (x ∷ xs) p le =
    ap (reached next (suc k)) p.0 ∙ ap (λ ys. x ∷ ys) (leads_reach next k (next x) xs p.1 (omega (arith, le)))

-- ---- nothing is met twice

shorter : (next : ℕ → Option ℕ) (x : ℕ) (far : List ℕ) → Leads next (Some x) far → (o : Option ℕ) (xs : List ℕ) →
    Leads next o xs →
    length xs < length far → AllByRecursion (λ y. eqb x y ≡ false) xs
shorter next x far f o [] p lt = tt
shorter next x far f o (y ∷ ys) p lt =
    (by_test (eqb x y) refl, shorter next x far f (next y) ys p.1 (omega (arith, lt)))
  where
    by_test : (b : Bool) → eqb x y ≡ b → eqb x y ≡ false
    by_test false e = e
    by_test true e =
        let here : y ≡ x = grind (arith, nat_tests) in
        let same : y ∷ ys ≡ far = leads_same next (Some x) (y ∷ ys) far (ap Some (sym here), p.1) f in
        absurd (omega (arith, lt, ap length same))

pub leads_distinct : (next : ℕ → Option ℕ) (o : Option ℕ) (xs : List ℕ) → Leads next o xs → IsDistinct eqb xs
unfolding IsDistinct
leads_distinct next o [] p = tt
leads_distinct next o (x ∷ xs) p =
    IsDistinct-cons
    eqb
    x
    xs
    (shorter next x (x ∷ xs) (refl, p.1) (next x) xs p.1 (omega arith))
    (leads_distinct next (next x) xs p.1)

-- ---- the climb that looks back at each step

abbrev Apart : List ℕ → List ℕ → Type 0
Apart far xs = AllByRecursion (λ y. list_any (λ f. f == y) far ≡ false) xs

both_false : (a b : Bool) → a ≡ false → b ≡ false → (a || b) ≡ false
both_false false b p q = q
both_false true b p q = cc

apart_more : (far : List ℕ) (x : ℕ) (xs : List ℕ) → Apart far xs → AllByRecursion (λ y. eqb x y ≡ false) xs →
    Apart (far ++ x ∷ []) xs
apart_more far x [] p q = tt
apart_more far x (y ∷ ys) p q = (
  list_any-append (λ f. f == y) far (x ∷ [])
      ∙ both_false
      (list_any (λ f. f == y) far)
      (list_any (λ f. f == y) (x ∷ []))
      p.0
      (both_false (x == y) false q.0 refl),
  apart_more far x ys p.1 q.1,
)

pub leads_gone : (next : ℕ → Option ℕ) (k : ℕ) (far : List ℕ) (o : Option ℕ) (xs : List ℕ) → Leads next o xs →
    length xs ≤ k →
    Apart far xs → gone_on next k far o ≡ far ++ xs
leads_gone next k far o [] p le a = ap (gone_on next k far) p ∙ gone_none next k far ∙ sym (nothing_more far)
  where
    nothing_more : (ys : List ℕ) → ys ++ [] ≡ ys
    nothing_more [] = refl
    nothing_more (y ∷ ys) = ap (λ zs. y ∷ zs) (nothing_more ys)
leads_gone next zero far o (x ∷ xs) p le a = absurd (omega (arith, le))
leads_gone next (suc k) far o (x ∷ xs) p le a =
    ap (gone_on next (suc k) far) p.0
    ∙ ap (λ b. if b then far else gone_on next k (far ++ x ∷ []) (next x)) a.0
    ∙ leads_gone
    next
    k
    (far ++ x ∷ [])
    (next x)
    xs
    p.1
    (omega (arith, le))
    (apart_more far x xs a.1 (shorter next x (x ∷ xs) (refl, p.1) (next x) xs p.1 (omega arith)))
    ∙ append_assoc far (x ∷ []) xs

pub leads_lineage : (next : ℕ → Option ℕ) (k x : ℕ) (xs : List ℕ) → Leads next (next x) xs → length xs ≤ k →
    gone_on next k (x ∷ []) (next x) ≡ x ∷ xs
leads_lineage next k x xs p le =
    leads_gone next k (x ∷ []) (next x) xs p le (alone xs (shorter next x (x ∷ xs) (refl, p) (next x) xs p
    (omega arith)))
  where
    alone : (ys : List ℕ) → AllByRecursion (λ y. eqb x y ≡ false) ys → Apart (x ∷ []) ys
    alone [] q = tt
    alone (y ∷ ys) q = (both_false (x == y) false q.0 refl, alone ys q.1)

-- ---- the same climb by other names

pub leads_map : (next other : ℕ → Option ℕ) (f : ℕ → ℕ) (P : ℕ → Type 0) →
    ((x : ℕ) → P x → next x ≡ None → other (f x) ≡ None) →
    ((x y : ℕ) → P x → next x ≡ Some y → P y × (other (f x) ≡ Some (f y))) →
    (x : ℕ) (xs : List ℕ) → P x → Leads next (next x) xs → Leads other (other (f x)) (map f xs)
leads_map next other f P first on x [] h p = first x h p
leads_map next other f P first on x (y ∷ ys) h p =
    let step = on x y h p.0 in
    (step.1, leads_map next other f P first on y ys step.0 p.1)
