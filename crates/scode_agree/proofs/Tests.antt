-- Tests that stand together, and tests of each of a list.
use Rattle.std.proofs.Common.{◌≡◌, ℕ, zero, suc, ◌+◌, ◌<◌, ◌&&◌, ◌||◌, Bool, true, false, List, [], ◌∷◌, ◌++◌, map}
use Rattle.std.proofs.Common.{reverse, Option, Some, None, refl, ap, sym, subst, ◌∙◌, arith}
use Rattle.std.specs.Prelude.{All, slice_get}
use Rattle.std.specs.List.{enumerate_from, list_all, list_any, range_with_len}
use Rattle.std.specs.Option.{option_map}
use Rattle.std.proofs.lemmas.Bool.{and_from, and_parts}
use Rattle.std.proofs.lemmas.Grind.{reverse_onto}
use Rattle.std.proofs.lemmas.List.Elements.{All-head, All-tail}
use Rattle.std.proofs.lemmas.Option.{none-some, same_Some}
use Rattle.scode_code.specs.TableRules.{begins}
use Rattle.scode_made.proofs.Places.{numbered}

-- ---- tests that stand together

pub three : (a b c : Bool) → a ≡ true → b ≡ true → c ≡ true → (a && b && c) ≡ true
three a b c h i j = and_from (a && b) c (and_from a b h i) j

pub four : (a b c d : Bool) → a ≡ true → b ≡ true → c ≡ true → d ≡ true → (a && b && c && d) ≡ true
four a b c d h i j k = and_from (a && b && c) d (three a b c h i j) k

pub five : (a b c d e : Bool) → a ≡ true → b ≡ true → c ≡ true → d ≡ true → e ≡ true → (a && b && c && d && e) ≡ true
five a b c d e h i j k l = and_from (a && b && c && d) e (four a b c d h i j k) l

pub six : (a b c d e f : Bool) → a ≡ true → b ≡ true → c ≡ true → d ≡ true → e ≡ true → f ≡ true
    → (a && b && c && d && e && f) ≡ true
six a b c d e f h i j k l m = and_from (a && b && c && d && e) f (five a b c d e h i j k l) m

pub seven : (a b c d e f g : Bool) → a ≡ true → b ≡ true → c ≡ true → d ≡ true → e ≡ true → f ≡ true → g ≡ true
    → (a && b && c && d && e && f && g) ≡ true
seven a b c d e f g h i j k l m n = and_from (a && b && c && d && e && f) g (six a b c d e f h i j k l m) n

-- one of two passes
pub data Either (a b : Bool) : Type 0 where
  First : a ≡ true → Either a b
  Second : b ≡ true → Either a b

pub one_of : (a b : Bool) → (a || b) ≡ true → Either a b
one_of true b h = First refl
one_of false b h = Second h

pub not_so : {P : Type 0} → false ≡ true → P
not_so h = let never : ⊥ = cc in absurd never

-- ---- each of a list

pub each_passes : {X : Type 0} (p : X → Bool) (xs : List X) → ((i : ℕ) (x : X) → slice_get xs i ≡ Some x → p x ≡ true)
    → list_all p xs ≡ true
each_passes p [] h = refl
each_passes p (x ∷ xs) h = and_from (p x) (list_all p xs) (h 0 x refl) (each_passes p xs (λ i y at. h (suc i) y at))

pub from_all : {X : Type 0} (P : X → Type 0) (p : X → Bool) → ((x : X) → P x → p x ≡ true) → (xs : List X) → All P xs
    → list_all p xs ≡ true
from_all P p h [] all = refl
from_all P p h (x ∷ xs) all =
    and_from (p x) (list_all p xs) (h x (All-head P x xs all)) (from_all P p h xs (All-tail P x xs all))

pub mapped_pass : {X Y : Type 0} (f : X → Y) (p : Y → Bool) (xs : List X)
    → ((i : ℕ) (x : X) → slice_get xs i ≡ Some x → p (f x) ≡ true) → list_all p (map f xs) ≡ true
mapped_pass f p [] h = refl
mapped_pass f p (x ∷ xs) h =
    and_from (p (f x)) (list_all p (map f xs)) (h 0 x refl) (mapped_pass f p xs (λ i y at. h (suc i) y at))

pub both_pass : {X : Type 0} (p : X → Bool) (xs ys : List X) → list_all p xs ≡ true → list_all p ys ≡ true
    → list_all p (xs ++ ys) ≡ true
both_pass p [] ys h g = g
both_pass p (x ∷ xs) ys h g =
    let parts = and_parts (p x) (list_all p xs) h in
    and_from (p x) (list_all p (xs ++ ys)) parts.0 (both_pass p xs ys parts.1 g)

pub reversed_pass : {X : Type 0} (p : X → Bool) (xs : List X) → list_all p xs ≡ true → list_all p (reverse xs) ≡ true
reversed_pass p [] h = refl
reversed_pass p (x ∷ xs) h =
    let parts = and_parts (p x) (list_all p xs) h in
    ap (list_all p) (reverse_onto xs x [])
    ∙ both_pass p (reverse xs) (x ∷ []) (reversed_pass p xs parts.1) (and_from (p x) true parts.0 refl)

pub range_passes : (p : ℕ → Bool) (a n : ℕ) → ((i : ℕ) → i < a + n → p i ≡ true)
    → list_all p (range_with_len a n) ≡ true
range_passes p a zero h = refl
range_passes p a (suc n) h =
    and_from (p a) (list_all p (range_with_len (a + 1) n)) (h a (omega arith))
    (range_passes p (a + 1) n (λ i lt. h i (omega (arith, lt))))

-- one that passes
pub record IsPassing {X : Type 0} (p : X → Bool) (xs : List X) : Type 0 where
  pub place : ℕ
  pub value : X
  pub there : slice_get xs place ≡ Some value
  pub passes : p value ≡ true

pub some_passes : {X : Type 0} (p : X → Bool) (xs : List X) → list_any p xs ≡ true → IsPassing p xs
some_passes p [] h = not_so h
some_passes {X} p (x ∷ xs) h = by_test (p x) refl h (some_passes p xs)
  where
    by_test : (b : Bool) → p x ≡ b → (b || list_any p xs) ≡ true → (list_any p xs ≡ true → IsPassing p xs)
        → IsPassing p (x ∷ xs)
    by_test true e any again = record { place = 0; value = x; there = refl; passes = e }
    by_test false e any again =
        let rest = again any in
        record { place = suc rest.place; value = rest.value; there = rest.there; passes = rest.passes }

-- ---- what is made of each by its number

-- what is made of the one at a place
pub record IsMadeOf {X Y : Type 0} (f : ℕ → X → Y) (xs : List X) (i : ℕ) (y : Y) : Type 0 where
  pub source : X
  pub there : slice_get xs i ≡ Some source
  pub made : f i source ≡ y

pub made_of : {X Y : Type 0} (f : ℕ → X → Y) (xs : List X) (i : ℕ) (y : Y) →
    slice_get (map (λ (at : ℕ × X). f at.0 at.1) (enumerate_from 0 xs)) i ≡ Some y → IsMadeOf f xs i y
made_of {X} {Y} f xs i y at = by_source (slice_get xs i) refl (sym (numbered f i xs) ∙ at)
  where
    by_source : (o : Option X) → slice_get xs i ≡ o → option_map (f i) o ≡ Some y → IsMadeOf f xs i y
    by_source None e h = absurd (none-some y h)
    by_source (Some x) e h = record { source = x; there = e; made = same_Some (f i x) y h }

pub numbered_pass : {X Y : Type 0} (f : ℕ → X → Y) (p : Y → Bool) (xs : List X)
    → ((i : ℕ) (x : X) → slice_get xs i ≡ Some x → p (f i x) ≡ true) →
    list_all p (map (λ (at : ℕ × X). f at.0 at.1) (enumerate_from 0 xs)) ≡ true
numbered_pass {X} {Y} f p xs h =
    each_passes p (map (λ (at : ℕ × X). f at.0 at.1) (enumerate_from 0 xs))
    (λ i y at. let one = made_of f xs i y at in subst (λ (z : Y). p z ≡ true) one.made (h i one.source one.there))

each_from : {X : Type 0} (test : ℕ → X → Bool) (n : ℕ) (xs : List X)
    → ((i : ℕ) (x : X) → slice_get xs i ≡ Some x → test (n + i) x ≡ true) →
    list_all (λ (at : ℕ × X). test at.0 at.1) (enumerate_from n xs) ≡ true
each_from test n [] h = refl
each_from {X} test n (x ∷ xs) h =
    and_from (test n x) (list_all (λ (at : ℕ × X). test at.0 at.1) (enumerate_from (n + 1) xs))
    (subst (λ (k : ℕ). test k x ≡ true) (let e : n + 0 ≡ n = omega arith in e) (h 0 x refl))
    (each_from test (n + 1) xs (λ i y at. subst (λ (k : ℕ). test k y ≡ true)
    (let e : n + suc i ≡ (n + 1) + i = omega arith in e) (h (suc i) y at)))

-- a test of each and its number
pub each_numbered : {X : Type 0} (test : ℕ → X → Bool) (xs : List X)
    → ((i : ℕ) (x : X) → slice_get xs i ≡ Some x → test i x ≡ true) →
    list_all (λ (at : ℕ × X). test at.0 at.1) (enumerate_from 0 xs) ≡ true
each_numbered test xs h =
    each_from test 0 xs (λ i x at. subst (λ (k : ℕ). test k x ≡ true) (let e : i ≡ 0 + i = omega arith in e) (h i x at))

-- ---- lists that begin alike

begin_from : {X Y : Type 0} (f g : ℕ → X → Y) (same : Y → Y → Bool) (n : ℕ) (xs ys : List X) →
    ((i : ℕ) (x : X) → slice_get xs i ≡ Some x → same (f (n + i) x) (g (n + i) x) ≡ true) →
    begins same (map (λ (at : ℕ × X). f at.0 at.1) (enumerate_from n xs))
    (map (λ (at : ℕ × X). g at.0 at.1) (enumerate_from n (xs ++ ys))) ≡ true
begin_from f g same n [] ys h = refl
begin_from {X} {Y} f g same n (x ∷ xs) ys h =
    and_from (same (f n x) (g n x))
    (begins same (map (λ (at : ℕ × X). f at.0 at.1) (enumerate_from (n + 1) xs))
    (map (λ (at : ℕ × X). g at.0 at.1) (enumerate_from (n + 1) (xs ++ ys))))
    (subst (λ (k : ℕ). same (f k x) (g k x) ≡ true) (let e : n + 0 ≡ n = omega arith in e) (h 0 x refl))
    (begin_from f g same (n + 1) xs ys
    (λ i y at. subst (λ (k : ℕ). same (f k y) (g k y) ≡ true) (let e : n + suc i ≡ (n + 1) + i = omega arith in e)
    (h (suc i) y at)))

-- what is made of each by its number begins alike, where what is made of the same is alike
pub numbered_begin : {X Y : Type 0} (f g : ℕ → X → Y) (same : Y → Y → Bool) (xs ys : List X) →
    ((i : ℕ) (x : X) → slice_get xs i ≡ Some x → same (f i x) (g i x) ≡ true) →
    begins same (map (λ (at : ℕ × X). f at.0 at.1) (enumerate_from 0 xs))
    (map (λ (at : ℕ × X). g at.0 at.1) (enumerate_from 0 (xs ++ ys))) ≡ true
numbered_begin f g same xs ys h =
    begin_from f g same 0 xs ys (λ i x at. subst (λ (k : ℕ). same (f k x) (g k x) ≡ true)
    (let e : i ≡ 0 + i = omega arith in e) (h i x at))

-- each of one list has its like at its place in another
pub record HasLike {X : Type 0} (same : X → X → Bool) (ys : List X) (i : ℕ) (x : X) : Type 0 where
  pub like : X
  pub there : slice_get ys i ≡ Some like
  pub same_as : same x like ≡ true

pub begin_by : {X : Type 0} (same : X → X → Bool) (xs ys : List X)
    → ((i : ℕ) (x : X) → slice_get xs i ≡ Some x → HasLike same ys i x) → begins same xs ys ≡ true
begin_by same [] ys h = refl
begin_by same (x ∷ xs) [] h = let one = h 0 x refl in absurd (none-some one.like one.there)
begin_by {X} same (x ∷ xs) (y ∷ ys) h =
    let one = h 0 x refl in
    and_from (same x y) (begins same xs ys)
    (subst (λ (z : X). same x z ≡ true) (sym (same_Some y one.like one.there)) one.same_as)
    (begin_by same xs ys (λ i z at. let later =
    h (suc i) z at in record { like = later.like; there = later.there; same_as = later.same_as }))
