-- Rows that go to one another do so from the last on too.
use Rattle.std.proofs.Common.{◌≡◌, Bool, false, ◌&&◌, List, [], ◌∷◌, ◌++◌, reverse, refl, ap, sym, ◌∙◌}
use Rattle.std.proofs.Math.Bool.{and_assoc, and_comm, and-false, and-true}
use Rattle.std.proofs.lemmas.List.{reverse-append}
use Rattle.scode_image.specs.declared.image.Image.{Image}
use Rattle.scode_image.specs.declared.image.ImageKind.{ImageKind}
use Rattle.scode_code.specs.Kinds.{all_go, goes_to}

none_to_more : (image : Image) (xs : List ImageKind) (y : ImageKind) → all_go image [] (xs ++ y ∷ []) ≡ false
none_to_more image [] y = refl
none_to_more image (x ∷ xs) y = refl

more_to_none : (image : Image) (xs : List ImageKind) (x : ImageKind) → all_go image (xs ++ x ∷ []) [] ≡ false
more_to_none image [] x = refl
more_to_none image (k ∷ ks) x = refl

ends_go : (image : Image) (xs ys : List ImageKind) (x y : ImageKind)
    → all_go image (xs ++ x ∷ []) (ys ++ y ∷ []) ≡ (all_go image xs ys && goes_to image x y)
ends_go image [] [] x y = and-true (goes_to image x y)
ends_go image [] (l ∷ ls) x y =
    ap (λ (b : Bool). goes_to image x l && b) (none_to_more image ls y) ∙ and-false (goes_to image x l)
ends_go image (k ∷ ks) [] x y =
    ap (λ (b : Bool). goes_to image k y && b) (more_to_none image ks x) ∙ and-false (goes_to image k y)
ends_go image (k ∷ ks) (l ∷ ls) x y =
    ap (λ (b : Bool). goes_to image k l && b) (ends_go image ks ls x y)
    ∙ sym (and_assoc (goes_to image k l) (all_go image ks ls) (goes_to image x y))

turned : (k : ImageKind) (ks : List ImageKind) → reverse (k ∷ ks) ≡ reverse ks ++ k ∷ []
turned k ks = reverse-append (k ∷ []) ks

pub all_go_turned : (image : Image) (a b : List ImageKind) → all_go image (reverse a) (reverse b) ≡ all_go image a b
all_go_turned image [] [] = refl
all_go_turned image [] (l ∷ ls) = ap (λ (ys : List ImageKind). all_go image [] ys) (turned l ls) ∙ none_to_more image (reverse ls) l
all_go_turned image (k ∷ ks) [] = ap (λ (xs : List ImageKind). all_go image xs []) (turned k ks) ∙ more_to_none image (reverse ks) k
all_go_turned image (k ∷ ks) (l ∷ ls) =
    ap (λ (xs : List ImageKind). all_go image xs (reverse (l ∷ ls))) (turned k ks)
    ∙ ap (λ (ys : List ImageKind). all_go image (reverse ks ++ k ∷ []) ys) (turned l ls)
    ∙ ends_go image (reverse ks) (reverse ls) k l
    ∙ ap (λ (b : Bool). b && goes_to image k l) (all_go_turned image ks ls)
    ∙ and_comm (all_go image ks ls) (goes_to image k l)
