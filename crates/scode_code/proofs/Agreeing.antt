-- What tables that agree say of a method.
use Rattle.std.proofs.Common.{◌≡◌, ℕ, zero, suc, Bool, true, List, [], ◌∷◌, sym, ◌∙◌, ap}
use Rattle.std.specs.Prelude.{◌&&◌, slice_get, Some}
use Rattle.std.specs.List.{list_all}
use Rattle.std.proofs.lemmas.Bool.{and_parts}
use Rattle.scode_image.specs.declared.image.Image.{Image}
use Rattle.scode_image.specs.declared.image.ImageMethod.{ImageMethod}
use Rattle.scode_code.specs.TableRules.{method_is_known, parts_are_known, places_ascend, tables_agree}
use Rattle.scode_code.proofs.Places.{none_some, some_eq}

-- the first of nine
pub first_of_nine : (a b c d e f g h i : Bool) → (a && b && c && d && e && f && g && h && i) ≡ true → a ≡ true
first_of_nine a b c d e f g h i all =
    let p = and_parts (a && b && c && d && e && f && g && h) i all in
    let q = and_parts (a && b && c && d && e && f && g) h p.0 in
    let r = and_parts (a && b && c && d && e && f) g q.0 in
    let s = and_parts (a && b && c && d && e) f r.0 in
    let t = and_parts (a && b && c && d) e s.0 in
    let u = and_parts (a && b && c) d t.0 in
    let v = and_parts (a && b) c u.0 in
    (and_parts a b v.0).0

each_of : {A : Type 0} (p : A → Bool) (xs : List A) (n : ℕ) (x : A) → list_all p xs ≡ true → slice_get xs n ≡ Some x
    → p x ≡ true
each_of p [] n x all there = absurd (none_some x there)
each_of p (y ∷ ys) zero x all there = ap p (sym (some_eq y x there)) ∙ (and_parts (p y) (list_all p ys) all).0
each_of p (y ∷ ys) (suc n) x all there = each_of p ys n x (and_parts (p y) (list_all p ys) all).1 there

-- its entries ascend
pub ascends : (image : Image) (n : ℕ) (m : ImageMethod) → tables_agree image ≡ true → slice_get image.methods n ≡ Some m
    → places_ascend 0 m.entries ≡ true
ascends image n m agree there =
    let known : parts_are_known image ≡ true = first_of_nine (parts_are_known image) _ _ _ _ _ _ _ _ agree in
    let all = (and_parts _ (list_all method_is_known image.methods) known).1 in
    let one = each_of method_is_known image.methods n m all there in
    let p = and_parts _ _ one in
    let q = and_parts _ _ p.0 in
    (and_parts _ _ q.0).1
