-- Rows: items that pass a test, and what holds of all.
use Rattle.std.proofs.Common.{◌≡◌, ◌||◌, ℕ, zero, suc, Bool, true, false, if◌then◌else◌, List, [], ◌∷◌, filter, slice_get, position, get_or, All, Option, Some, None, refl, sym, ap, ◌∙◌}
use Rattle.std.specs.List.{cons_option, filter_map, list_any}
use Rattle.std.specs.Option.{option_map}
use Rattle.std.proofs.lemmas.Option.{slice_get-get_or}
use Rattle.sed_member_laws.proofs.Flat.{some_is}
use Rattle.sed_member_laws.proofs.Own.{or_left, or_right}
use Rattle.sed_program.proofs.OrderLists.{position_no, position_yes}

pub all_from : {X : Type 0} (P : X → Type 0) (xs : List X) → ((i : ℕ) (x : X) → slice_get xs i ≡ Some x → P x) →
    All P xs
all_from P xs f i d h = f i (get_or xs i d) (slice_get-get_or xs i d h)

pub position_some : {X : Type 0} (p : X → Bool) (xs : List X) (i : ℕ) (x : X) → slice_get xs i ≡ Some x → p x ≡ true →
    (k : ℕ) × (position p xs ≡ Some k)
position_some p [] i x e t = cc
position_some p (y ∷ ys) zero x e t = let same : y ≡ x = some_is y x e in (0, position_yes p y ys (ap p same ∙ t))
position_some {X} p (y ∷ ys) (suc i) x e t = by_test (position_some p ys i x e t) (p y) refl
  where
    by_test : (k : ℕ) × (position p ys ≡ Some k) → (b : Bool) → p y ≡ b → (k : ℕ) × (position p (y ∷ ys) ≡ Some k)
    by_test later true s = (0, position_yes p y ys s)
    by_test later false s = (suc later.0, position_no p y ys s ∙ ap (option_map suc) later.1)

pub any_in : {X : Type 0} (p : X → Bool) (xs : List X) → list_any p xs ≡ true →
    (i : ℕ) × (x : X) × (slice_get xs i ≡ Some x) × (p x ≡ true)
any_in p [] e = cc
any_in {X} p (y ∷ ys) e = by_test (λ g. any_in p ys g) (p y) refl e
  where
    by_test : (list_any p ys ≡ true → (i : ℕ) × (x : X) × (slice_get ys i ≡ Some x) × (p x ≡ true)) → (b : Bool) →
        p y ≡ b →
        (b || list_any p ys) ≡ true → (i : ℕ) × (x : X) × (slice_get (y ∷ ys) i ≡ Some x) × (p x ≡ true)
    by_test later true s g = (0, y, refl, s)
    by_test later false s g = let r = later g in (suc r.0, r.1, r.2, r.3)

pub filtered_at : {X : Type 0} (q : X → Bool) (xs : List X) (i : ℕ) (x : X) → slice_get xs i ≡ Some x → q x ≡ true →
    (k : ℕ) × (slice_get (filter q xs) k ≡ Some x)
filtered_at q [] i x e t = cc
filtered_at {X} q (y ∷ ys) zero x e t = by_test (q y) refl
  where
    by_test : (b : Bool) → q y ≡ b → (k : ℕ) × (slice_get (if b then y ∷ filter q ys else filter q ys) k ≡ Some x)
    by_test true s = (0, e)
    by_test false s =
        let same : y ≡ x = some_is y x e in
        let clash : true ≡ false = sym t ∙ ap q (sym same) ∙ s in
        cc
filtered_at {X} q (y ∷ ys) (suc i) x e t = by_test (filtered_at q ys i x e t) (q y)
  where
    by_test : (k : ℕ) × (slice_get (filter q ys) k ≡ Some x) → (b : Bool) →
        (k : ℕ) × (slice_get (if b then y ∷ filter q ys else filter q ys) k ≡ Some x)
    by_test later true = (suc later.0, later.1)
    by_test later false = later

pub given_some : {X Y : Type 0} (f : X → Option Y) (xs : List X) (i : ℕ) (x : X) (y : Y) → slice_get xs i ≡ Some x →
    f x ≡ Some y →
    (k : ℕ) × (slice_get (filter_map f xs) k ≡ Some y)
given_some f [] i x y e h = cc
given_some f (z ∷ zs) zero x y e h =
    let same : z ≡ x = some_is z x e in
    (0, ap (λ o. slice_get (cons_option o (filter_map f zs)) 0) (ap f same ∙ h))
given_some {X} {Y} f (z ∷ zs) (suc i) x y e h = by_found (given_some f zs i x y e h) (f z)
  where
    by_found : (k : ℕ) × (slice_get (filter_map f zs) k ≡ Some y) → (o : Option Y) →
        (k : ℕ) × (slice_get (cons_option o (filter_map f zs)) k ≡ Some y)
    by_found later None = later
    by_found later (Some w) = (suc later.0, later.1)

pub any_false : {X : Type 0} (p : X → Bool) (xs : List X) → list_any p xs ≡ false → (i : ℕ) (x : X) →
    slice_get xs i ≡ Some x → p x ≡ false
any_false p [] e i x g = cc
any_false p (y ∷ ys) e zero x g = ap p (sym (some_is y x g)) ∙ or_left (p y) (list_any p ys) e
any_false p (y ∷ ys) e (suc i) x g = any_false p ys (or_right (p y) (list_any p ys) e) i x g

pub any_true : {X : Type 0} (p : X → Bool) (xs : List X) (i : ℕ) (x : X) → slice_get xs i ≡ Some x → p x ≡ true →
    list_any p xs ≡ true
any_true p [] i x g t = cc
any_true p (y ∷ ys) zero x g t = ap (λ b. b || list_any p ys) (ap p (some_is y x g) ∙ t)
any_true p (y ∷ ys) (suc i) x g t = ap (λ b. p y || b) (any_true p ys i x g t) ∙ either (p y)
  where
    either : (b : Bool) → (b || true) ≡ true
    either true = refl
    either false = refl
