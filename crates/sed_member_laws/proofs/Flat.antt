-- An item of a flat list stands behind what comes before its own list.
use Rattle.std.proofs.Common.{not, ◌≡◌, ◌<◌, ◌+◌, ◌==◌, ◌||◌, ℕ, zero, suc, Bool, true, false, if◌then◌else◌, List, [], ◌∷◌, ◌++◌, length, take, map, filter, slice_get, position, Option, Some, None, refl, sym, ap, ◌∙◌, arith}
use Rattle.std.specs.List.{flat_map, filter_map, cons_option, enumerate_from, find, list_any, sum_by, count_by}
use Rattle.std.specs.Option.{option_map}
use Rattle.std.proofs.lemmas.List.Sums.{sum_by-cons, sum_by-append}
use Rattle.std.proofs.lemmas.Bool.Decides.{nat_tests}
use Rattle.sed_program.proofs.OrderLists.{count_cons, position_no, position_yes}
pub use Rattle.std.proofs.lemmas.Option.{same_Some as some_is}
pub use Rattle.sed_value.proofs.Lists.{stands_in_front as in_front}

-- ---- one list behind another

pub behind : {X : Type 0} (xs ys : List X) (i : ℕ) → slice_get (xs ++ ys) (length xs + i) ≡ slice_get ys i
behind [] ys i = let e : 0 + i ≡ i = omega arith in ap (slice_get ys) e
behind (x ∷ xs) ys i =
    let e : suc (length xs) + i ≡ suc (length xs + i) = omega arith in
    ap (slice_get (x ∷ (xs ++ ys))) e ∙ behind xs ys i

-- ---- flat lists

abbrev pub lengths : {X Y : Type 0} → (X → List Y) → X → ℕ
lengths f x = length (f x)

pub flat_at : {X Y : Type 0} (f : X → List Y) (xs : List X) (i j : ℕ) (x : X) (y : Y) → slice_get xs i ≡ Some x →
    slice_get (f x) j ≡ Some y → slice_get (flat_map f xs) (sum_by (lengths f) (take i xs) + j) ≡ Some y
flat_at f [] i j x y e h = cc
flat_at f (z ∷ zs) zero j x y e h =
    let same : z ≡ x = some_is z x e in
    let at : 0 + j ≡ j = omega arith in
    ap (slice_get (f z ++ flat_map f zs)) at ∙ in_front (f z) (flat_map f zs) j y (ap (λ w. slice_get (f w) j) same ∙ h)
flat_at f (z ∷ zs) (suc i) j x y e h =
    let sum : sum_by (lengths f) (z ∷ take i zs) ≡ length (f z) + sum_by (lengths f) (take i zs) = sum_by-cons
    (lengths f) z (take i zs) in
    let at : sum_by (lengths f) (z ∷ take i zs) + j ≡ length (f z) + (sum_by (lengths f) (take i zs) + j) = omega
    (arith, sum) in
    ap (slice_get (f z ++ flat_map f zs)) at
    ∙ behind (f z) (flat_map f zs) (sum_by (lengths f) (take i zs) + j)
    ∙ flat_at f zs i j x y e h

-- each item of a flat list stands in the list of one
pub flat_in : {X Y : Type 0} (f : X → List Y) (xs : List X) (k : ℕ) (y : Y) → slice_get (flat_map f xs) k ≡ Some y →
    (i : ℕ) × (j : ℕ) × (x : X) × (slice_get xs i ≡ Some x) × (slice_get (f x) j ≡ Some y)
flat_in {X} {Y} f [] k y e = cc
flat_in {X} {Y} f (x ∷ xs) k y e = by_list (λ n h. flat_in f xs n y h) (f x) refl k e
  where
    by_list : ((n : ℕ) → slice_get (flat_map f xs) n ≡ Some y →
        (i : ℕ) × (j : ℕ) × (z : X) × (slice_get xs i ≡ Some z) × (slice_get (f z) j ≡ Some y)) →
        (l : List Y) → f x ≡ l → (n : ℕ) → slice_get (l ++ flat_map f xs) n ≡ Some y →
        (i : ℕ) × (j : ℕ) × (z : X) × (slice_get (x ∷ xs) i ≡ Some z) × (slice_get (f z) j ≡ Some y)
    by_list later l same n h = by_side l n (λ j g. (0, j, x, refl, ap (λ w. slice_get w j) same ∙ g)) h
      where
        by_side : (w : List Y) → (n : ℕ) →
            ((j : ℕ) → slice_get w j ≡ Some y → (i : ℕ) × (q : ℕ) × (z : X) × (slice_get (x ∷ xs) i
            ≡ Some z) × (slice_get (f z) q ≡ Some y)) →
            slice_get (w ++ flat_map f xs) n ≡ Some y →
            (i : ℕ) × (q : ℕ) × (z : X) × (slice_get (x ∷ xs) i ≡ Some z) × (slice_get (f z) q ≡ Some y)
        by_side [] n here g = let r = later n g in (suc r.0, r.1, r.2, r.3, r.4)
        by_side (v ∷ vs) zero here g = here 0 g
        by_side (v ∷ vs) (suc n) here g = by_side vs n (λ j t. here (suc j) t) g

pub numbered_at : {X : Type 0} (a : ℕ) (xs : List X) (i : ℕ) (x : X) → slice_get xs i ≡ Some x →
    slice_get (enumerate_from a xs) i ≡ Some (a + i, x)
numbered_at a [] i x e = cc
numbered_at a (y ∷ ys) zero x e =
    let at : a ≡ a + 0 = omega arith in
    let same : y ≡ x = some_is y x e in
    ap (λ n. Some (n, y)) at ∙ ap (λ z. Some (a + 0, z)) same
numbered_at a (y ∷ ys) (suc i) x e =
    let at : a + 1 + i ≡ a + suc i = omega arith in
    numbered_at (a + 1) ys i x e ∙ ap (λ n. Some (n, x)) at

pub numbered_in : {X : Type 0} (a : ℕ) (xs : List X) (i : ℕ) (e : ℕ × X) → slice_get (enumerate_from a xs) i ≡ Some e →
    (e.0 ≡ a + i) × (slice_get xs i ≡ Some e.1)
numbered_in a [] i e h = cc
numbered_in a (y ∷ ys) zero e h =
    let same : (a, y) ≡ e = some_is (a, y) e h in
    let at : a ≡ a + 0 = omega arith in
    (ap (λ (w : ℕ × _). w.0) (sym same) ∙ at, ap (λ (w : ℕ × _). Some w.1) same)
numbered_in a (y ∷ ys) (suc i) e h =
    let rest = numbered_in (a + 1) ys i e h in
    let at : a + 1 + i ≡ a + suc i = omega arith in
    (rest.0 ∙ at, rest.1)

pub numbers_taken : {X : Type 0} (f : X → ℕ) (a : ℕ) (xs : List X) (i : ℕ) →
    sum_by (λ (e : ℕ × X). f e.1) (take i (enumerate_from a xs)) ≡ sum_by f (take i xs)
numbers_taken f a [] zero = refl
numbers_taken f a [] (suc i) = refl
numbers_taken f a (x ∷ xs) zero = refl
numbers_taken f a (x ∷ xs) (suc i) =
    sum_by-cons (λ (e : ℕ × _). f e.1) (a, x) (take i (enumerate_from (a + 1) xs))
    ∙ ap (λ n. f x + n) (numbers_taken f (a + 1) xs i)
    ∙ sym (sum_by-cons f x (take i xs))

-- ---- the first of a kind among some

pub found_filtered : {X : Type 0} (p q : X → Bool) (xs : List X) (x : X) → find p xs ≡ Some x → q x ≡ true →
    (k : ℕ) × (position p (filter q xs) ≡ Some k) × (slice_get (filter q xs) k ≡ Some x)
found_filtered {X} p q [] x e h = cc
found_filtered {X} p q (y ∷ ys) x e h = by_tests (λ g. found_filtered p q ys x g h) (p y) (q y) refl refl
  where
    by_tests : (find p ys ≡ Some x → (k : ℕ) × (position p (filter q ys) ≡ Some k) × (slice_get (filter q ys) k
        ≡ Some x)) →
        (a b : Bool) → p y ≡ a → q y ≡ b →
        (k : ℕ) × (position p (if b then y ∷ filter q ys else filter q ys) ≡ Some k)
        × (slice_get (if b then y ∷ filter q ys else filter q ys) k ≡ Some x)
    by_tests later true true s t =
        let same : y ≡ x = some_is y x (sym (ap (λ c. if c then Some y else find p ys) s) ∙ e) in
        (0, position_yes p y (filter q ys) s, ap Some same)
    by_tests later true false s t =
        let same : y ≡ x = some_is y x (sym (ap (λ c. if c then Some y else find p ys) s) ∙ e) in
        let clash : true ≡ false = sym h ∙ ap q (sym same) ∙ t in
        cc
    by_tests later false true s t =
        let rest = later (sym (ap (λ c. if c then Some y else find p ys) s) ∙ e) in
        (suc rest.0, position_no p y (filter q ys) s ∙ ap (option_map suc) rest.1, rest.2)
    by_tests later false false s t = later (sym (ap (λ c. if c then Some y else find p ys) s) ∙ e)

pub found_in : {X : Type 0} (p : X → Bool) (xs : List X) (x : X) → find p xs ≡ Some x →
    (i : ℕ) × (slice_get xs i ≡ Some x) × (p x ≡ true)
found_in {X} p [] x e = cc
found_in {X} p (y ∷ ys) x e = by_test (λ g. found_in p ys x g) (p y) refl
  where
    by_test : (find p ys ≡ Some x → (i : ℕ) × (slice_get ys i ≡ Some x) × (p x ≡ true)) →
        (a : Bool) → p y ≡ a → (i : ℕ) × (slice_get (y ∷ ys) i ≡ Some x) × (p x ≡ true)
    by_test later true s =
        let same : y ≡ x = some_is y x (sym (ap (λ c. if c then Some y else find p ys) s) ∙ e) in
        (0, ap Some same, ap p (sym same) ∙ s)
    by_test later false s =
        let rest = later (sym (ap (λ c. if c then Some y else find p ys) s) ∙ e) in
        (suc rest.0, rest.1, rest.2)

pub filtered_in : {X : Type 0} (q : X → Bool) (xs : List X) (k : ℕ) (x : X) → slice_get (filter q xs) k ≡ Some x →
    (i : ℕ) × (slice_get xs i ≡ Some x) × (q x ≡ true)
filtered_in {X} q [] k x e = cc
filtered_in {X} q (y ∷ ys) k x e = by_test (λ n g. filtered_in q ys n x g) (q y) refl k e
  where
    by_test : ((n : ℕ) → slice_get (filter q ys) n ≡ Some x → (i : ℕ) × (slice_get ys i ≡ Some x) × (q x ≡ true)) →
        (b : Bool) → q y ≡ b → (n : ℕ) → slice_get (if b then y ∷ filter q ys else filter q ys) n ≡ Some x →
        (i : ℕ) × (slice_get (y ∷ ys) i ≡ Some x) × (q x ≡ true)
    by_test later true s zero h = let same : y ≡ x = some_is y x h in (0, h, ap q (sym same) ∙ s)
    by_test later true s (suc n) h = let rest = later n h in (suc rest.0, rest.1, rest.2)
    by_test later false s n h = let rest = later n h in (suc rest.0, rest.1, rest.2)

-- ---- a row in which each item gives something

pub given_at : {X Y : Type 0} (f : X → Option Y) (xs : List X) → ((i : ℕ) (x : X) → slice_get xs i ≡ Some x →
    (y : Y) × (f x ≡ Some y)) →
    (i : ℕ) (x : X) (y : Y) → slice_get xs i ≡ Some x → f x ≡ Some y → slice_get (filter_map f xs) i ≡ Some y
given_at f [] all i x y e h = cc
given_at f (z ∷ zs) all zero x y e h =
    let same : z ≡ x = some_is z x e in
    ap (λ o. slice_get (cons_option o (filter_map f zs)) 0) (ap f same ∙ h)
given_at f (z ∷ zs) all (suc i) x y e h =
    let first = all 0 z refl in
    ap (λ o. slice_get (cons_option o (filter_map f zs)) (suc i)) first.1
    ∙ given_at f zs (λ k w g. all (suc k) w g) i x y e h

pub given_length : {X Y : Type 0} (f : X → Option Y) (xs : List X) → ((i : ℕ) (x : X) → slice_get xs i ≡ Some x →
    (y : Y) × (f x ≡ Some y)) →
    length (filter_map f xs) ≡ length xs
given_length f [] all = refl
given_length f (z ∷ zs) all =
    let first = all 0 z refl in
    ap (λ o. length (cons_option o (filter_map f zs))) first.1 ∙ ap suc (given_length f zs (λ k w g. all (suc k) w g))

pub given_in : {X Y : Type 0} (f : X → Option Y) (xs : List X) (k : ℕ) (y : Y) →
    slice_get (filter_map f xs) k ≡ Some y →
    (i : ℕ) × (x : X) × (slice_get xs i ≡ Some x) × (f x ≡ Some y)
given_in {X} {Y} f [] k y e = cc
given_in {X} {Y} f (z ∷ zs) k y e = by_found (λ n g. given_in f zs n y g) (f z) refl k e
  where
    by_found : ((n : ℕ) → slice_get (filter_map f zs) n ≡ Some y →
        (i : ℕ) × (x : X) × (slice_get zs i ≡ Some x) × (f x ≡ Some y)) →
        (o : Option Y) → f z ≡ o → (n : ℕ) → slice_get (cons_option o (filter_map f zs)) n ≡ Some y →
        (i : ℕ) × (x : X) × (slice_get (z ∷ zs) i ≡ Some x) × (f x ≡ Some y)
    by_found later None s n h = let rest = later n h in (suc rest.0, rest.1, rest.2, rest.3)
    by_found later (Some w) s zero h = (0, z, refl, s ∙ h)
    by_found later (Some w) s (suc n) h = let rest = later n h in (suc rest.0, rest.1, rest.2, rest.3)

-- ---- counts

abbrev pub one_of : Bool → ℕ
one_of b = if b then 1 else 0

pub count_given : {X Y : Type 0} (f : X → Option Y) (p : X → Bool) (q : Y → Bool) (xs : List X) →
    ((x : X) (y : Y) → f x ≡ Some y → q y ≡ p x) →
    ((i : ℕ) (x : X) → slice_get xs i ≡ Some x → (y : Y) × (f x ≡ Some y)) →
    count_by q (filter_map f xs) ≡ count_by p xs
count_given f p q [] same all = refl
count_given f p q (z ∷ zs) same all =
    let first = all 0 z refl in
    ap (λ o. count_by q (cons_option o (filter_map f zs))) first.1
    ∙ count_cons q first.0 (filter_map f zs)
    ∙ ap (λ b. (if b then 1 else 0) + count_by q (filter_map f zs)) (same z first.0 first.1)
    ∙ ap (λ n. (if p z then 1 else 0) + n) (count_given f p q zs same (λ k w g. all (suc k) w g))
    ∙ sym (count_cons p z zs)

pub count_mapped : {X Y : Type 0} (f : X → Y) (q : Y → Bool) (xs : List X) →
    count_by q (map f xs) ≡ count_by (λ x. q (f x)) xs
count_mapped f q [] = refl
count_mapped f q (z ∷ zs) =
    count_cons q (f z) (map f zs)
    ∙ ap (λ n. (if q (f z) then 1 else 0) + n) (count_mapped f q zs)
    ∙ sym (count_cons (λ x. q (f x)) z zs)

pub count_together : {X : Type 0} (p : X → Bool) (xs ys : List X) →
    count_by p (xs ++ ys) ≡ count_by p xs + count_by p ys
count_together p xs ys = sum_by-append (λ x. if p x then 1 else 0) xs ys

-- what is counted in the block of one number, where the others have none
count_past : {X Y : Type 0} (g : ℕ × X → List Y) (p : Y → Bool) (k : ℕ) →
    ((e : ℕ × X) → (e.0 == k) ≡ false → count_by p (g e) ≡ 0) → (a : ℕ) (xs : List X) → k < a →
    count_by p (flat_map g (enumerate_from a xs)) ≡ 0
count_past g p k other a [] h = refl
count_past g p k other a (x ∷ xs) h =
    let no : (a == k) ≡ false = grind (arith, nat_tests) in
    omega (
      arith,
      count_together p (g (a, x)) (flat_map g (enumerate_from (a + 1) xs)),
      other (a, x) no,
      count_past g p k other (a + 1) xs (omega (arith, h)),
    )

pub count_block : {X Y : Type 0} (g : ℕ × X → List Y) (p : Y → Bool) (k : ℕ) →
    ((e : ℕ × X) → (e.0 == k) ≡ false → count_by p (g e) ≡ 0) → (a : ℕ) (xs : List X) (i : ℕ) (x : X) →
    slice_get xs i ≡ Some x →
    k ≡ a + i → count_by p (flat_map g (enumerate_from a xs)) ≡ count_by p (g (k, x))
count_block g p k other a [] i x e h = cc
count_block g p k other a (y ∷ ys) zero x e h =
    let same : y ≡ x = some_is y x e in
    let at : a ≡ k = omega (arith, h) in
    count_together p (g (a, y)) (flat_map g (enumerate_from (a + 1) ys))
    ∙ ap (λ n. count_by p (g (a, y)) + n) (count_past g p k other (a + 1) ys (omega (arith, h)))
    ∙ omega arith
    ∙ ap (λ n. count_by p (g (n, y))) at
    ∙ ap (λ z. count_by p (g (k, z))) same
count_block g p k other a (y ∷ ys) (suc i) x e h =
    let no : (a == k) ≡ false = other_number a i h in
    count_together p (g (a, y)) (flat_map g (enumerate_from (a + 1) ys))
    ∙ ap (λ n. n + count_by p (flat_map g (enumerate_from (a + 1) ys))) (other (a, y) no)
    ∙ omega arith
    ∙ count_block g p k other (a + 1) ys i x e (omega (arith, h))
  where
    other_number : (a i : ℕ) → k ≡ a + suc i → (a == k) ≡ false
    other_number a i h = grind (arith, nat_tests)

-- where nothing passes
pub none_passes : {X : Type 0} (p : X → Bool) (xs : List X) → ((i : ℕ) (x : X) → slice_get xs i ≡ Some x →
    p x ≡ false) → count_by p xs ≡ 0
none_passes p [] h = refl
none_passes p (x ∷ xs) h =
    omega (arith, count_cons p x xs, ap one_of (h 0 x refl), none_passes p xs (λ i y e. h (suc i) y e))

pub position_none : {X : Type 0} (p : X → Bool) (xs : List X) → count_by p xs ≡ 0 → position p xs ≡ None
position_none p [] e = refl
position_none p (x ∷ xs) e = by_test (λ g. position_none p xs g) (p x) refl
  where
    by_test : (count_by p xs ≡ 0 → position p xs ≡ None) → (b : Bool) → p x ≡ b → position p (x ∷ xs) ≡ None
    by_test later true h = absurd (omega (arith, e, count_cons p x xs, ap one_of h))
    by_test later false h =
        position_no p x xs h
        ∙ ap (option_map suc) (later (omega (arith, e, count_cons p x xs, ap one_of h)))

pub any_counted : {X : Type 0} (p : X → Bool) (xs : List X) → list_any p xs ≡ false → count_by p xs ≡ 0
any_counted p [] e = refl
any_counted p (x ∷ xs) e = by_test (λ g. any_counted p xs g) (p x) refl
  where
    by_test : (list_any p xs ≡ false → count_by p xs ≡ 0) → (b : Bool) → p x ≡ b → count_by p (x ∷ xs) ≡ 0
    by_test later true h = let clash : true ≡ false = sym (ap (λ b. b || list_any p xs) h) ∙ e in cc
    by_test later false h =
        omega (
          arith,
          count_cons p x xs,
          ap one_of h,
          later (sym (ap (λ b. b || list_any p xs) h) ∙ e),
        )

-- ---- sums and counts of the same

pub sum_same : {X : Type 0} (f g : X → ℕ) (xs : List X) → ((x : X) → f x ≡ g x) → sum_by f xs ≡ sum_by g xs
sum_same f g [] e = refl
sum_same f g (x ∷ xs) e =
    sum_by-cons f x xs ∙ ap (λ n. n + sum_by f xs) (e x) ∙ ap (λ n. g x + n) (sum_same f g xs e)
    ∙ sym (sum_by-cons g x xs)

pub count_same : {X : Type 0} (p q : X → Bool) (xs : List X) → ((x : X) → p x ≡ q x) → count_by p xs ≡ count_by q xs
count_same p q xs e = sum_same (λ x. one_of (p x)) (λ x. one_of (q x)) xs (λ x. ap one_of (e x))

-- what two kinds have of a name is what all have
pub count_parts : {X : Type 0} (p q : X → Bool) (xs : List X) →
    count_by p (filter q xs) + count_by p (filter (λ x. not (q x)) xs) ≡ count_by p xs
count_parts p q [] = refl
count_parts {X} p q (x ∷ xs) = by_test (q x) (count_parts p q xs)
  where
    by_test : (b : Bool) → count_by p (filter q xs) + count_by p (filter (λ z. not (q z)) xs) ≡ count_by p xs →
        count_by p (if b then x ∷ filter q xs else filter q xs)
        + count_by p (if not b then x ∷ filter (λ z. not (q z)) xs else filter (λ z. not (q z)) xs)
        ≡ count_by p (x ∷ xs)
    by_test true e = omega (arith, e, count_cons p x (filter q xs), count_cons p x xs)
    by_test false e = omega (arith, e, count_cons p x (filter (λ z. not (q z)) xs), count_cons p x xs)
