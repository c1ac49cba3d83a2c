-- The first element of a list that passes a test, and where it stands.
use Rattle.std.proofs.Common.{◌≡◌, ℕ, zero, suc, ◌+◌, ◌&&◌, Bool, true, false, cond, List, [], ◌∷◌, ◌++◌, Some, None, refl, sym, ap, subst, ◌∙◌, arith}
use Rattle.std.specs.Prelude.{All, ◌||◌, filter, position, slice_get}
use Rattle.std.specs.List.{list_any, position_from}
use Rattle.std.proofs.lemmas.Iterator.Adapters.{position_from-zero}
use Rattle.std.proofs.lemmas.List.Elements.{All-head, All-tail}
use Rattle.std.proofs.lemmas.Option.{none-some}

-- an element at its place, counted from k
record StandsAt {X : Type 0} (test : X → Bool) (all : List X) (k : ℕ) (x : X) : Type 0 where
  number : ℕ
  place : ℕ
  is : number ≡ k + place
  found : position_from test k all ≡ Some number
  there : slice_get all place ≡ Some x

-- what passes alone is found
alone_from : {X : Type 0} (test : X → Bool) (all : List X) (k : ℕ) (x : X) → filter test all ≡ x ∷ [] → StandsAt test all k x
alone_from test [] k x e = let never : ⊥ = cc in absurd never
alone_from {X} test (y ∷ ys) k x e = go (test y) refl (alone_from test ys (k + 1) x) e
  where
    go : (b : Bool) → test y ≡ b → (filter test ys ≡ x ∷ [] → StandsAt test ys (k + 1) x) → cond b (y ∷ filter test ys) (filter test ys) ≡ x ∷ [] → StandsAt test (y ∷ ys) k x
    go true passes later h = record {
      number = k;
      place = 0;
      is = omega arith;
      found = ap (λ (b : Bool). cond b (Some k) (position_from test (k + 1) ys)) passes;
      there = let same : y ≡ x = cc in ap Some same;
    }
    go false passes later h =
        let r : StandsAt test ys (k + 1) x = later h in
        record {
          number = r.number;
          place = suc r.place;
          is = omega (arith, r.is);
          found = ap (λ (b : Bool). cond b (Some k) (position_from test (k + 1) ys)) passes ∙ r.found;
          there = r.there;
        }

pub alone_at : {X : Type 0} (test : X → Bool) (all : List X) (x : X) → filter test all ≡ x ∷ [] → (i : ℕ) × (position test all ≡ Some i) × (slice_get all i ≡ Some x)
alone_at test all x e =
    let r : StandsAt test all 0 x = alone_from test all 0 x e in
    let same : r.number ≡ r.place = omega (arith, r.is) in
    (r.place, position_from-zero test all ∙ r.found ∙ ap Some same, r.there)

-- where none passes, none is found
none_from : {X : Type 0} (test : X → Bool) (all : List X) (k : ℕ) → All (λ x. test x ≡ false) all → position_from test k all ≡ None
none_from test [] k h = refl
none_from {X} test (y ∷ ys) k h =
    ap (λ (b : Bool). cond b (Some k) (position_from test (k + 1) ys)) (All-head (λ (x : X). test x ≡ false) y ys h)
    ∙ none_from test ys (k + 1) (All-tail (λ (x : X). test x ≡ false) y ys h)

pub none_at : {X : Type 0} (test : X → Bool) (all : List X) → All (λ x. test x ≡ false) all → position test all ≡ None
none_at test all h = position_from-zero test all ∙ none_from test all 0 h

left_from : {X : Type 0} (test : X → Bool) (all : List X) (k : ℕ) → filter test all ≡ [] → position_from test k all ≡ None
left_from test [] k e = refl
left_from {X} test (y ∷ ys) k e = go (test y) (left_from test ys (k + 1)) e
  where
    go : (b : Bool) → (filter test ys ≡ [] → position_from test (k + 1) ys ≡ None) → cond b (y ∷ filter test ys) (filter test ys) ≡ [] → cond b (Some k) (position_from test (k + 1) ys) ≡ None
    go true later h = let never : ⊥ = cc in absurd never
    go false later h = later h

pub none_left : {X : Type 0} (test : X → Bool) (all : List X) → filter test all ≡ [] → position test all ≡ None
none_left test all e = position_from-zero test all ∙ left_from test all 0 e

-- what is found is found with more behind it
before_from : {X : Type 0} (test : X → Bool) (xs ys : List X) (k i : ℕ) → position_from test k xs ≡ Some i → position_from test k (xs ++ ys) ≡ Some i
before_from test [] ys k i e = absurd (none-some i e)
before_from {X} test (x ∷ xs) ys k i e = go (test x) (before_from test xs ys (k + 1) i) e
  where
    go : (b : Bool) → (position_from test (k + 1) xs ≡ Some i → position_from test (k + 1) (xs ++ ys) ≡ Some i) → cond b (Some k) (position_from test (k + 1) xs) ≡ Some i → cond b (Some k) (position_from test (k + 1) (xs ++ ys)) ≡ Some i
    go true later h = h
    go false later h = later h

pub found_before : {X : Type 0} (test : X → Bool) (xs ys : List X) (i : ℕ) → position test xs ≡ Some i → position test (xs ++ ys) ≡ Some i
found_before test xs ys i e = position_from-zero test (xs ++ ys) ∙ before_from test xs ys 0 i (sym (position_from-zero test xs) ∙ e)

-- where some of those that pass one test pass another, one is found that passes both
both_from : {X : Type 0} (p q : X → Bool) (all : List X) (k : ℕ) → list_any q (filter p all) ≡ true → (n : ℕ) × (position_from (λ x. p x && q x) k all ≡ Some n)
both_from p q [] k h = let never : ⊥ = cc in absurd never
both_from {X} p q (y ∷ ys) k h = go (p y) (q y) refl refl (both_from p q ys (k + 1)) h
  where
    passed : (b : Bool) → (p y && q y) ≡ b → (n : ℕ) → cond b (Some k) (position_from (λ x. p x && q x) (k + 1) ys) ≡ Some n → position_from (λ x. p x && q x) k (y ∷ ys) ≡ Some n
    passed b e n h = ap (λ (b : Bool). cond b (Some k) (position_from (λ x. p x && q x) (k + 1) ys)) e ∙ h

    go : (b c : Bool) → p y ≡ b → q y ≡ c → (list_any q (filter p ys) ≡ true → (n : ℕ) × (position_from (λ x. p x && q x) (k + 1) ys ≡ Some n)) →
        list_any q (cond b (y ∷ filter p ys) (filter p ys)) ≡ true → (n : ℕ) × (position_from (λ x. p x && q x) k (y ∷ ys) ≡ Some n)
    go true true e f later h = (k, passed true (ap (λ (b : Bool). b && q y) e ∙ f) k refl)
    go true false e f later h =
        let r = later (sym (ap (λ (c : Bool). c || list_any q (filter p ys)) f) ∙ h) in
        (r.0, passed false (ap (λ (b : Bool). b && q y) e ∙ f) r.0 r.1)
    go false c e f later h = let r = later h in (r.0, passed false (ap (λ (b : Bool). b && q y) e) r.0 r.1)

pub both_at : {X : Type 0} (p q : X → Bool) (all : List X) → list_any q (filter p all) ≡ true → (n : ℕ) × (position (λ x. p x && q x) all ≡ Some n)
both_at {X} p q all h = let r = both_from p q all 0 h in (r.0, position_from-zero (λ (x : X). p x && q x) all ∙ r.1)

-- what holds of all that pass a test holds of an element that passes it
pub of_passing : {X : Type 0} (P : X → Type 0) (p : X → Bool) (all : List X) → All P (filter p all) → (n : ℕ) (x : X) → slice_get all n ≡ Some x → p x ≡ true → P x
of_passing P p [] h n x e passes = absurd (none-some x e)
of_passing {X} P p (y ∷ ys) h n x e passes = go (p y) refl h (λ later k at. of_passing P p ys later k x at passes) n e
  where
    go : (b : Bool) → p y ≡ b → All P (cond b (y ∷ filter p ys) (filter p ys)) → (All P (filter p ys) → (k : ℕ) → slice_get ys k ≡ Some x → P x) → (n : ℕ) → slice_get (y ∷ ys) n ≡ Some x → P x
    go true is h again zero e = let same : y ≡ x = cc in subst P same (All-head P y (filter p ys) h)
    go false is h again zero e = let same : y ≡ x = cc in let never : false ≡ true = sym is ∙ ap p same ∙ passes in let no : ⊥ = cc in absurd no
    go true is h again (suc k) e = again (All-tail P y (filter p ys) h) k e
    go false is h again (suc k) e = again h k e
