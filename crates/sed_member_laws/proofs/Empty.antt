-- Rows of faults that have none.
use Rattle.std.proofs.Common.{◌≡◌, ◌+◌, ℕ, zero, suc, Bool, true, false, List, [], ◌∷◌, ◌++◌, slice_get, Some, refl, sym, ap, ◌∙◌, arith}
use Rattle.std.specs.List.{flat_map}
use Rattle.sed_faults.specs.declared.fault.Fault.{Fault}
use Rattle.sed_faults.specs.Faults.{broken_if, said_from}

pub none_left : {X : Type 0} (xs ys : List X) → xs ++ ys ≡ [] → xs ≡ []
none_left [] ys e = refl
none_left (x ∷ xs) ys e = cc

pub none_right : {X : Type 0} (xs ys : List X) → xs ++ ys ≡ [] → ys ≡ []
none_right [] ys e = e
none_right (x ∷ xs) ys e = cc

pub not_broken : (test : Bool) (rule at : ℕ) → broken_if test rule at ≡ [] → test ≡ false
not_broken true rule at e = cc
not_broken false rule at e = refl

-- of a row nothing is said, so nothing of one of its items
pub none_said : {X : Type 0} (said : ℕ → X → List Fault) (a : ℕ) (xs : List X) (i : ℕ) (x : X) →
    said_from said a xs ≡ [] → slice_get xs i ≡ Some x → said (a + i) x ≡ []
none_said said a [] i x e h = cc
none_said said a (y ∷ ys) zero x e h =
    let at : a + 0 ≡ a = omega arith in
    let same : y ≡ x = cc in
    ap (λ n. said n x) at ∙ ap (said a) (sym same) ∙ none_left (said a y) (said_from said (a + 1) ys) e
none_said said a (y ∷ ys) (suc i) x e h =
    let at : a + suc i ≡ a + 1 + i = omega arith in
    ap (λ n. said n x) at ∙ none_said said (a + 1) ys i x (none_right (said a y) (said_from said (a + 1) ys) e) h

pub none_said_first : {X : Type 0} (said : ℕ → X → List Fault) (xs : List X) (i : ℕ) (x : X) →
    said_from said 0 xs ≡ [] → slice_get xs i ≡ Some x → said i x ≡ []
none_said_first said xs i x e h =
    let at : 0 + i ≡ i = omega arith in
    sym (ap (λ n. said n x) at) ∙ none_said said 0 xs i x e h

pub none_listed : {X Y : Type 0} (said : X → List Y) (xs : List X) (i : ℕ) (x : X) →
    flat_map said xs ≡ [] → slice_get xs i ≡ Some x → said x ≡ []
none_listed said [] i x e h = cc
none_listed said (y ∷ ys) zero x e h =
    let same : y ≡ x = cc in
    ap said (sym same) ∙ none_left (said y) (flat_map said ys) e
none_listed said (y ∷ ys) (suc i) x e h = none_listed said ys i x (none_right (said y) (flat_map said ys) e) h
