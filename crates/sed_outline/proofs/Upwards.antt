-- Going over a row from its end.
use Rattle.std.proofs.Common.{◌≡◌, ℕ, suc, ◌-◌, ◌<◌, ◌≤◌, List, [], ◌∷◌, ◌++◌, drop, length, get_or, reverse, sym, ap, ◌∙◌, arith}
use Rattle.std.specs.List.{flat_map}
use Rattle.std.proofs.lemmas.List.{append-nil, reverse-append}
use Rattle.std.proofs.lemmas.Grind.{flat_map-append}
use Rattle.std.proofs.Math.Seq.{drop-cons}

-- what is behind a place, and one more before it
pub upwards : {X : Type 0} (f : ℕ → List X) (left : ℕ) (xs : List ℕ) (x : ℕ) → 0 < left → left ≤ length xs →
    get_or xs (left - 1) x ≡ x →
    flat_map f (reverse (drop left xs)) ++ f x ≡ flat_map f (reverse (drop (left - 1) xs))
upwards f left xs x some within at =
    let less : left - 1 < length xs = omega arith in
    let same : suc (left - 1) ≡ left = omega arith in
    let begins : drop (left - 1) xs ≡ x ∷ drop left xs =
    drop-cons xs (left - 1) x less ∙ ap (λ y. y ∷ drop (suc (left - 1)) xs) at ∙ ap (λ n. x ∷ drop n xs) same in
    sym (
    ap (λ ys. flat_map f (reverse ys)) begins
    ∙ ap (flat_map f) (reverse-append (x ∷ []) (drop left xs))
    ∙ flat_map-append f (reverse (drop left xs)) (x ∷ [])
    ∙ ap (λ ys. flat_map f (reverse (drop left xs)) ++ ys) (append-nil (f x)))
