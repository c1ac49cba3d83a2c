-- Rows of kinds that go to one another, and cells under a top.
use Rattle.std.proofs.Common.{◌≡◌, ℕ, ◌-◌, ◌<◌, ◌≤◌, Bool, true, false, ◌&&◌, ◌==◌, List, [], ◌∷◌, length, reverse, slice_get, Some, None, refl, ap, ◌∙◌, arith, get_or}
use Rattle.std.specs.List.{list_all, zip}
use Rattle.std.proofs.Math.Dec.{eqb-suc-suc, eqb-suc-zero, eqb-zero-suc}
use Rattle.std.proofs.lemmas.List.{get_or-reverse, length-reverse}
use Rattle.std.proofs.lemmas.Option.{slice_get-get_or, slice_get_past}
use Rattle.scode_image.specs.declared.image.Image.{Image}
use Rattle.scode_image.specs.declared.image.ImageKind.{ImageKind}
use Rattle.scode_code.specs.Kinds.{all_go, goes_to}
use Rattle.scode_rules.specs.Words.{goes_along}

between : (a b c d : Bool) → b ≡ (c && d) → (a && b) ≡ (c && (a && d))
between true b c d e = e
between false b true d e = refl
between false b false d e = refl

pub all_go_along : (image : Image) (a b : List ImageKind)
    → all_go image a b ≡ ((length a == length b) && list_all (goes_along image) (zip a b))
all_go_along image [] [] = refl
all_go_along image [] (l ∷ ls) = rw (eqb-zero-suc (length ls)) refl
all_go_along image (k ∷ ks) [] = rw (eqb-suc-zero (length ks)) refl
all_go_along image (k ∷ ks) (l ∷ ls) =
    rw (eqb-suc-suc (length ks) (length ls))
    (between (goes_to image k l) (all_go image ks ls) (length ks == length ls) (list_all (goes_along image) (zip ks ls))
    (all_go_along image ks ls))

pub get_from_top : (s : List ImageKind) (depth : ℕ) (d : ImageKind) → depth < length s
    → slice_get (reverse s) depth ≡ Some (get_or s (length s - 1 - depth) d)
get_from_top s depth d within =
    slice_get-get_or (reverse s) depth d (omega (arith, length-reverse s))
    ∙ ap (λ (k : ImageKind). Some k) (get_or-reverse s depth d within)

pub get_below_all : (s : List ImageKind) (depth : ℕ) → length s ≤ depth → slice_get (reverse s) depth ≡ None
get_below_all s depth past = slice_get_past (reverse s) depth (omega (arith, length-reverse s))
