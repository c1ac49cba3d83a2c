-- Stacks that have the lowest cell first.
use Rattle.std.proofs.Common.{◌≡◌, ℕ, zero, suc, ◌-◌, ◌≤◌, true, List, [], ◌∷◌, ◌++◌, drop, length, reverse, slice_get, take, Some, None, refl, ap, sym, ◌∙◌, arith, length-drop}
use Rattle.std.proofs.lemmas.List.{length-reverse, reverse-append}
use Rattle.std.proofs.Math.ListN.{set}
use Rattle.scode_image.specs.declared.image.Image.{Image}
use Rattle.scode_image.specs.declared.image.ImageKind.{ImageKind}
use Rattle.scode_code.specs.CodeRules.{with_kind}
use Rattle.scode_code.specs.declared.needs.Puts.TheVariants as puts
use Rattle.scode_code.specs.declared.needs.Takes.{Takes}
use Rattle.scode_code.specs.declared.needs.Takes.TheVariants as takes
use Rattle.scode_rules.specs.Words.{is_ordinary}
use Rattle.scode_code.specs.Wants.{needs_of}

take_drop : {A : Type 0} (n : ℕ) (xs : List A) → take n xs ++ drop n xs ≡ xs
take_drop zero xs = refl
take_drop (suc n) [] = refl
take_drop {A} (suc n) (x ∷ xs) = ap (λ (ys : List A). x ∷ ys) (take_drop n xs)

drop_front : {A : Type 0} (xs ys : List A) → drop (length xs) (xs ++ ys) ≡ ys
drop_front [] ys = refl
drop_front (x ∷ xs) ys = drop_front xs ys

pub taken_off : (s : List ImageKind) (n : ℕ) → n ≤ length s → reverse (take (length s - n) s) ≡ drop n (reverse s)
taken_off s n enough =
    let m = length s - n in
    let whole : reverse s ≡ reverse (drop m s) ++ reverse (take m s) =
    ap (λ (xs : List ImageKind). reverse xs) (sym (take_drop m s)) ∙ reverse-append (take m s) (drop m s) in
    let long : length (reverse (drop m s)) ≡ n = omega (arith, length-reverse (drop m s), length-drop m s) in
    sym (ap (λ (xs : List ImageKind). drop n xs) whole
    ∙ ap (λ (k : ℕ). drop k (reverse (drop m s) ++ reverse (take m s))) (sym long)
    ∙ drop_front (reverse (drop m s)) (reverse (take m s)))

pub put_on : (s : List ImageKind) (k : ImageKind) → reverse (s ++ k ∷ []) ≡ k ∷ reverse s
put_on s k = reverse-append s (k ∷ [])

pub top_twice : (r : List ImageKind) (k : ImageKind) → slice_get r 0 ≡ Some k → k ∷ r ≡ (take 1 r ++ take 1 r) ++ drop 1 r
top_twice [] k is = cc
top_twice (x ∷ xs) k is = let same : k ≡ x = cc in ap (λ (y : ImageKind). y ∷ x ∷ xs) same

pub no_top : (r : List ImageKind) → slice_get r 0 ≡ None → r ≡ (take 1 r ++ take 1 r) ++ drop 1 r
no_top [] is = refl
no_top (x ∷ xs) is = cc

pub twice_takes_one : (image : Image) (t : Takes) → is_ordinary (record { takes = t; puts = puts.Twice }) ≡ true
    → length (needs_of image t) ≡ 1
twice_takes_one image takes.Nothing h = cc
twice_takes_one image (takes.One a) h = refl
twice_takes_one image (takes.Two a b) h = cc
twice_takes_one image (takes.Three a b c) h = cc
twice_takes_one image (takes.Arguments m class) h = cc

pub kind_set : (ls : List ImageKind) (i : ℕ) (k : ImageKind) → with_kind ls i k ≡ set ls i k
kind_set [] zero k = refl
kind_set [] (suc i) k = refl
kind_set (l ∷ ls) zero k = refl
kind_set (l ∷ ls) (suc i) k = ap (λ (xs : List ImageKind). l ∷ xs) (kind_set ls i k)

pub kind_past : (ls : List ImageKind) (i : ℕ) (k : ImageKind) → length ls ≤ i → with_kind ls i k ≡ ls
kind_past [] zero k past = refl
kind_past [] (suc i) k past = refl
kind_past (l ∷ ls) zero k past = absurd (omega arith)
kind_past (l ∷ ls) (suc i) k past = ap (λ (xs : List ImageKind). l ∷ xs) (kind_past ls i k (omega arith))
