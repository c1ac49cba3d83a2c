-- Numbers in a list, and what is found there.
use Rattle.std.proofs.Common.{◌≡◌, ◌==◌, ◌||◌, ℕ, zero, suc, Bool, true, false, List, [], ◌∷◌, reverse, slice_get, Option, Some, None, All, refl, sym, ap, ◌∙◌, subst}
use Rattle.std.specs.List.{cons_option, filter_map, flat_map, list_any}
use Rattle.std.proofs.lemmas.List.Elements.{All-append, All-cons, All-nil}
use Rattle.std.proofs.lemmas.List.Folds.{list_any-append}
use Rattle.sed_program.proofs.OrderLists.{is_itself, is_same}
use Rattle.sed_program.proofs.Upward.{up_cons}
pub use Rattle.sed_value.proofs.Truths.{either_true as or_right}

abbrev pub Has : List ℕ → ℕ → Type 0
Has xs c = list_any (λ x. x == c) xs ≡ true

or_true : (a b : Bool) → (a || b) ≡ true → (P : Type 0) → (a ≡ true → P) → (b ≡ true → P) → P
or_true true b e P f g = f refl
or_true false b e P f g = g e

pub either : (a b : Bool) → (a || b) ≡ true → (P : Type 0) → (a ≡ true → P) → (b ≡ true → P) → P
either a b e P f g = or_true a b e P f g

pub or_left : (a b : Bool) → a ≡ true → (a || b) ≡ true
or_left true b e = refl
or_left false b e = cc

-- what passes is there
pub any_is : (p : ℕ → Bool) (xs : List ℕ) → list_any p xs ≡ true → (c : ℕ) × Has xs c × (p c ≡ true)
any_is p [] e = cc
any_is p (x ∷ xs) e = by_test (p x) refl (λ f. any_is p xs f)
  where
    Found : List ℕ → Type 0
    Found ys = (c : ℕ) × Has ys c × (p c ≡ true)

    by_test : (b : Bool) → p x ≡ b → (list_any p xs ≡ true → (c : ℕ) × Has xs c × (p c ≡ true)) →
        (c : ℕ) × Has (x ∷ xs) c × (p c ≡ true)
    by_test true t rest = (x, or_left (x == x) (list_any (λ y. y == x) xs) (is_itself x), t)
    by_test false t rest =
        let found = rest (sym (ap (λ b. b || list_any p xs) t) ∙ e) in
        (found.0, or_right (x == found.0) (list_any (λ y. y == found.0) xs) found.1, found.2)

pub any_from : (p : ℕ → Bool) (xs : List ℕ) (c : ℕ) → Has xs c → p c ≡ true → list_any p xs ≡ true
any_from p [] c h t = cc
any_from p (x ∷ xs) c h t =
    either
    (x == c)
    (list_any (λ y. y == c) xs)
    h
    (list_any p (x ∷ xs) ≡ true)
    (λ s. or_left (p x) (list_any p xs) (ap p (is_same x c s) ∙ t))
    (λ s. or_right (p x) (list_any p xs) (any_from p xs c s t))

-- ---- what is found of a row

pub has_map : {X : Type 0} (f : X → Option ℕ) (xs : List X) (c : ℕ) → Has (filter_map f xs) c →
    (i : ℕ) × (x : X) × (slice_get xs i ≡ Some x) × (f x ≡ Some c)
has_map f [] c h = cc
has_map {X} f (x ∷ xs) c h = by_found (f x) refl h (λ k. has_map f xs c k)
  where
    Found : List X → Type 0
    Found ys = (i : ℕ) × (y : X) × (slice_get ys i ≡ Some y) × (f y ≡ Some c)

    later : (i : ℕ) × (y : X) × (slice_get xs i ≡ Some y) × (f y ≡ Some c) →
        (i : ℕ) × (y : X) × (slice_get (x ∷ xs) i ≡ Some y) × (f y ≡ Some c)
    later found = (suc found.0, found.1, found.2, found.3)

    by_found : (o : Option ℕ) → f x ≡ o → Has (cons_option o (filter_map f xs)) c →
        (Has (filter_map f xs) c → (i : ℕ) × (y : X) × (slice_get xs i ≡ Some y) × (f y ≡ Some c)) →
        (i : ℕ) × (y : X) × (slice_get (x ∷ xs) i ≡ Some y) × (f y ≡ Some c)
    by_found None e k rest = later (rest k)
    by_found (Some y) e k rest =
        either
        (y == c)
        (list_any (λ z. z == c) (filter_map f xs))
        k
        ((i : ℕ) × (z : X) × (slice_get (x ∷ xs) i ≡ Some z) × (f z ≡ Some c))
        (λ s. (0, x, refl, e ∙ ap Some (is_same y c s)))
        (λ s. later (rest s))

pub map_has : {X : Type 0} (f : X → Option ℕ) (xs : List X) (i c : ℕ) (x : X) → slice_get xs i ≡ Some x →
    f x ≡ Some c → Has (filter_map f xs) c
map_has f [] i c x e t = cc
map_has f (y ∷ ys) zero c x e t =
    let same : y ≡ x = cc in
    let found : f y ≡ Some c = ap f same ∙ t in
    ap (λ o. list_any (λ z. z == c) (cons_option o (filter_map f ys))) found
    ∙ or_left (c == c) (list_any (λ z. z == c) (filter_map f ys)) (is_itself c)
map_has f (y ∷ ys) (suc i) c x e t = behind (f y) (map_has f ys i c x e t)
  where
    behind : (o : Option ℕ) → Has (filter_map f ys) c → Has (cons_option o (filter_map f ys)) c
    behind None h = h
    behind (Some z) h = or_right (z == c) (list_any (λ w. w == c) (filter_map f ys)) h

pub has_flat : (f : ℕ → List ℕ) (xs : List ℕ) (c : ℕ) → Has (flat_map f xs) c → (b : ℕ) × Has xs b × Has (f b) c
has_flat f [] c h = cc
has_flat f (x ∷ xs) c h =
    either
    (list_any (λ y. y == c) (f x))
    (list_any (λ y. y == c) (flat_map f xs))
    (sym (list_any-append (λ y. y == c) (f x) (flat_map f xs)) ∙ h)
    ((b : ℕ) × Has (x ∷ xs) b × Has (f b) c)
    (λ s. (x, or_left (x == x) (list_any (λ y. y == x) xs) (is_itself x), s))
    (λ s. let found = has_flat f xs c s in (
      found.0,
      or_right (x == found.0) (list_any
          (λ y. y == found.0) xs) found.1,
      found.2,
    ))

pub flat_has : (f : ℕ → List ℕ) (xs : List ℕ) (b c : ℕ) → Has xs b → Has (f b) c → Has (flat_map f xs) c
flat_has f [] b c h k = cc
flat_has f (x ∷ xs) b c h k =
    list_any-append (λ y. y == c) (f x) (flat_map f xs)
    ∙ either
    (x == b)
    (list_any (λ y. y == b) xs)
    h
    ((list_any (λ y. y == c) (f x) || list_any (λ y. y == c) (flat_map f xs)) ≡ true)
    (λ s. or_left (list_any (λ y. y == c) (f x)) (list_any (λ y. y == c) (flat_map f xs)) (ap (λ z. list_any
    (λ y. y == c) (f z)) (is_same x b s) ∙ k))
    (λ s. or_right (list_any (λ y. y == c) (f x)) (list_any (λ y. y == c) (flat_map f xs)) (flat_has f xs b c s k))

-- ---- what holds of all that several give

pub all_up : {X : Type 0} (P : X → Type 0) (f : ℕ → List X) (xs : List ℕ) → ((b : ℕ) → Has xs b → All P (f b)) →
    All P (flat_map f (reverse xs))
all_up P f [] h = All-nil P
all_up P f (x ∷ xs) h =
    subst
    (All P)
    (sym (up_cons f x xs))
    (All-append
    P
    (flat_map f (reverse xs))
    (f x)
    (all_up P f xs (λ b k. h b (or_right (x == b) (list_any (λ y. y == b) xs) k)))
    (h x (or_left (x == x) (list_any (λ y. y == x) xs) (is_itself x))))

pub all_found : {X Y : Type 0} (P : Y → Type 0) (f : X → Option Y) (xs : List X) →
    ((i : ℕ) (x : X) (y : Y) → slice_get xs i ≡ Some x → f x ≡ Some y → P y) → All P (filter_map f xs)
all_found P f [] h = All-nil P
all_found {X} {Y} P f (x ∷ xs) h = by_found (f x) refl (all_found P f xs (λ i y z e. h (suc i) y z e))
  where
    by_found : (o : Option Y) → f x ≡ o → All P (filter_map f xs) → All P (cons_option o (filter_map f xs))
    by_found None e rest = rest
    by_found (Some y) e rest = All-cons P y (filter_map f xs) (h 0 x y refl e) rest
