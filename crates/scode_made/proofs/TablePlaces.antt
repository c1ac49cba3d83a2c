-- The place of a method in a table is that of its name.
use Rattle.std.proofs.Common.{◌≡◌, ℕ, zero, suc, ◌+◌, ◌==◌, Bool, true, false, cond, List, [], ◌∷◌, map, Option, Some, refl, ap, sym, ◌∙◌, arith}
use Rattle.std.specs.Prelude.{position, slice_get}
use Rattle.std.specs.List.{position_from}
use Rattle.std.specs.Str.{bytes_eq}
use Rattle.std.proofs.lemmas.Iterator.Adapters.{position_from-zero}
use Rattle.std.proofs.lemmas.Option.{same_Some}

-- where each name leads back to one place, so does its method
from_place : (name : ℕ → List ℕ) (m n place : ℕ) (table : List ℕ) → ((a b : ℕ) → (a == b) ≡ true → a ≡ b) →
    ((a : ℕ) → (a == a) ≡ true) → ((a : List ℕ) → bytes_eq a a ≡ true) →
    position_from (λ (other : List ℕ). bytes_eq other (name m)) n (map name table) ≡ Some (n + place) → slice_get table place ≡ Some m →
    position_from (λ (other : ℕ). other == m) n table ≡ Some (n + place)
from_place name m n place [] one own same e at = let never : ⊥ = cc in absurd never
from_place name m n zero (t ∷ ts) one own same e at =
    let here : (t == m) ≡ true = ap (λ (k : ℕ). k == m) (same_Some t m at) ∙ own m in
    ap (λ (b : Bool). cond b (Some n) (position_from (λ (other : ℕ). other == m) (n + 1) ts)) here
    ∙ ap Some (let z : n ≡ n + 0 = omega arith in z)
from_place name m n (suc place) (t ∷ ts) one own same e at =
    by_name (bytes_eq (name t) (name m)) refl (λ h. from_place name m (n + 1) place ts one own same h at) e
  where
    later : Option ℕ
    later = position_from (λ (other : List ℕ). bytes_eq other (name m)) (n + 1) (map name ts)

    after : Option ℕ
    after = position_from (λ (other : ℕ). other == m) (n + 1) ts

    further : (n + 1) + place ≡ n + suc place
    further = omega arith

    by_number : (c : Bool) → (t == m) ≡ c → bytes_eq (name t) (name m) ≡ false → after ≡ Some (n + suc place) →
        cond c (Some n) after ≡ Some (n + suc place)
    by_number true this is rest =
        let equal : bytes_eq (name t) (name m) ≡ true = ap (λ (k : ℕ). bytes_eq (name k) (name m)) (one t m this) ∙ same (name m) in
        let never : ⊥ = cc in absurd never
    by_number false this is rest = rest

    by_name : (b : Bool) → bytes_eq (name t) (name m) ≡ b → (later ≡ Some ((n + 1) + place) → after ≡ Some ((n + 1) + place)) →
        cond b (Some n) later ≡ Some (n + suc place) → cond (t == m) (Some n) after ≡ Some (n + suc place)
    by_name true is again h = let equal = same_Some n (n + suc place) h in absurd (omega (arith, equal))
    by_name false is again h = by_number (t == m) refl is (again (h ∙ ap Some (sym further)) ∙ ap Some further)

-- with names that are told apart by their bytes, a method stands at the place of its name where it stands there at all
pub method_place : (name : ℕ → List ℕ) (m place : ℕ) (table : List ℕ) → ((a b : ℕ) → (a == b) ≡ true → a ≡ b) →
    ((a : ℕ) → (a == a) ≡ true) → ((a : List ℕ) → bytes_eq a a ≡ true) →
    position (λ (other : List ℕ). bytes_eq other (name m)) (map name table) ≡ Some place → slice_get table place ≡ Some m →
    position (λ (other : ℕ). other == m) table ≡ Some place
method_place name m place table one own same e at =
    let zero_first : 0 + place ≡ place = omega arith in
    position_from-zero (λ (other : ℕ). other == m) table
    ∙ from_place name m 0 place table one own same
    (sym (position_from-zero (λ (other : List ℕ). bytes_eq other (name m)) (map name table)) ∙ e ∙ ap Some (sym zero_first)) at
    ∙ ap Some zero_first
