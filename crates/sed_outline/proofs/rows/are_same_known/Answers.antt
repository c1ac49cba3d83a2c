use lib.Pointwise.{pointwise}
use Rattle.std.proofs.Common.{◌≡◌, ◌&&◌, Bool, true, false, List, [], ◌∷◌, refl, sym, ap, ◌∙◌}
use Rattle.std.proofs.Math.Bool.{beq}
use Rattle.sed_outline.proofs.rows.are_same_known.Goals as goal

one_same : (x y rest : Bool) → (beq x y && rest) ≡ true → x ≡ y
one_same true true rest e = refl
one_same true false rest e = cc
one_same false true rest e = cc
one_same false false rest e = refl

rest_same : (x y rest : Bool) → (beq x y && rest) ≡ true → rest ≡ true
rest_same true true rest e = e
rest_same true false rest e = cc
rest_same false true rest e = cc
rest_same false false rest e = e

all_same : (xs ys : List Bool) → pointwise beq xs ys ≡ true → xs ≡ ys
all_same [] [] e = refl
all_same [] (y ∷ ys) e = cc
all_same (x ∷ xs) [] e = cc
all_same (x ∷ xs) (y ∷ ys) e =
    ap (λ b. b ∷ xs) (one_same x y (pointwise beq xs ys) e)
    ∙ ap (λ r. y ∷ r) (all_same xs ys (rest_same x y (pointwise beq xs ys) e))

pub returns : goal.returns
returns c = λ e. all_same c.args.a.now c.args.b.now (sym c.eq.ensures ∙ e)
