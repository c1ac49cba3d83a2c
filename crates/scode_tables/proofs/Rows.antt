-- Rows that are compared one by one, and what stands in a row that is mapped.
use Rattle.std.proofs.Common.{◌≡◌, suc, ◌+◌, Bool, true, false, not, cond, ◌&&◌, ◌==◌, nat_le, List, [], ◌∷◌, map, length, refl, ap, arith}
use Rattle.std.specs.List.{list_all, zip, position, position_or_len}
use Rattle.std.proofs.Math.Dec.{eqb-suc-suc, eqb-suc-zero, eqb-zero-suc, leb-suc-suc}
use Rattle.std.proofs.lemmas.Bool.{le-leb, lt-leb}
use Rattle.std.proofs.lemmas.List.{length-map}
use Rattle.scode_image.specs.declared.image.ImageKind.{ImageKind}
use Rattle.scode_code.specs.Kinds.{same_kind}
use Rattle.scode_code.specs.TableRules.{begins, same_kinds}
use Rattle.scode_tables.specs.Words.{same_pair}

-- a test between a test and what is behind it
between : (a b c d : Bool) → b ≡ (c && d) → (a && b) ≡ (c && (a && d))
between true b c d e = e
between false b true d e = refl
between false b false d e = refl

pub begins_along : {A : Type 0} (same : A → A → Bool) (front all : List A)
    → begins same front all ≡ (nat_le (length front) (length all) && list_all (same_pair same) (zip front all))
begins_along same [] ys = rw (le-leb 0 (length ys) (omega arith)) refl
begins_along same (x ∷ xs) [] = rw (lt-leb (suc (length xs)) 0 (omega arith)) refl
begins_along same (x ∷ xs) (y ∷ ys) =
    rw (leb-suc-suc (length xs) (length ys))
    (between (same x y) (begins same xs ys) (nat_le (length xs) (length ys)) (list_all (same_pair same) (zip xs ys))
    (begins_along same xs ys))

pub same_kinds_along : (a b : List ImageKind)
    → same_kinds a b ≡ ((length a == length b) && list_all (same_pair same_kind) (zip a b))
same_kinds_along [] [] = refl
same_kinds_along [] (l ∷ ls) = rw (eqb-zero-suc (length ls)) refl
same_kinds_along (k ∷ ks) [] = rw (eqb-suc-zero (length ks)) refl
same_kinds_along (k ∷ ks) (l ∷ ls) =
    rw (eqb-suc-suc (length ks) (length ls))
    (between (same_kind k l) (same_kinds ks ls) (length ks == length ls) (list_all (same_pair same_kind) (zip ks ls))
    (same_kinds_along ks ls))

place-map : {A B : Type 0} (f : A → B) (p : B → Bool) (xs : List A)
    → position_or_len p (map f xs) ≡ position_or_len (λ x. p (f x)) xs
place-map f p [] = refl
place-map f p (x ∷ xs) = ap (λ n. cond (not (p (f x))) (1 + n) 0) (place-map f p xs)

pub position_map : {A B : Type 0} (f : A → B) (p : B → Bool) (xs : List A)
    → position p (map f xs) ≡ position (λ x. p (f x)) xs
position_map f p xs = rw (place-map f p xs, length-map xs f)
