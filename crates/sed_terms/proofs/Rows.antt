-- Rows of arguments, one item after another.
use Rattle.std.proofs.Common.{◌≡◌, List, [], ◌∷◌, ◌++◌, map, Vec, Global, refl, ap, ◌∙◌}
use mathlib.Core.Former.{Count}
use Rattle.sed_typed.specs.declared.tree.Expr.{Expr, Row_of-Expr, end_of-Expr, more_of-Expr, items-the_row-Expr, items_hidden-the_row-Expr-0}
use Rattle.sed_typed.specs.declared.tree.Expr.TheBlock.{hidden-the_row-Expr-0}
use Rattle.sed_terms.specs.declared.sign.Sign.TheVariants as sign
use Rattle.sed_terms.specs.Term.{Term, Node, row, with_item}
use Rattle.sed_terms.specs.Seen.{term_of, args_term}

pub one_more : {X : Type 0} (f : X → Term) (xs : List X) (x : X) → row (map f (xs ++ x ∷ [])) ≡ with_item (row (map f xs)) (f x)
one_more f [] x = refl
one_more f (y ∷ ys) x = ap (λ t. Node sign.More (f y) t) (one_more f ys x)

pub one_more_expr : (xs : List Expr) (x : Expr) → row (map term_of (xs ++ x ∷ [])) ≡ with_item (row (map term_of xs)) (term_of x)
one_more_expr xs x = one_more term_of xs x

-- ---- a row is the list of a vector

args_are : {n : Count} (all : Row_of-Expr n) → args_term all ≡ row (map term_of (items-the_row-Expr n all))
args_are end_of-Expr = refl
args_are (more_of-Expr x xs) = ap (λ t. Node sign.More (term_of x) t) (args_are xs)

pub args_row : (all : Vec Expr Global) → args_term (hidden-the_row-Expr-0 all) ≡ row (map term_of all.items)
args_row all = args_are (hidden-the_row-Expr-0 all) ∙ ap (λ xs. row (map term_of xs)) (items_hidden-the_row-Expr-0 all)
