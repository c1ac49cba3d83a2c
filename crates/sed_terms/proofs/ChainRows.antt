-- The links of a chain, one after another.
use Rattle.std.proofs.Common.{◌≡◌, List, [], ◌∷◌, ◌++◌, Vec, Global, refl, ap, ◌∙◌}
use mathlib.Core.Former.{Count}
use Rattle.sed_typed.specs.declared.tree.Expr.{Row_of-Link, end_of-Link, more_of-Link, items-the_row-Link, items_hidden-the_row-Link-1}
use Rattle.sed_typed.specs.declared.tree.Expr.TheBlock.{hidden-the_row-Link-1}
use Rattle.sed_typed.specs.declared.tree.Link.{Link}
use Rattle.sed_terms.specs.Term.{Term}
use Rattle.sed_terms.specs.Seen.{link_term, term_after}

-- a list of links around what is on their left
abbrev pub terms_after : Term → List Link → Term
terms_after t [] = t
terms_after t (l ∷ ls) = terms_after (link_term t l) ls

rows_are_lists : (t : Term) {n : Count} (links : Row_of-Link n) → term_after t links ≡ terms_after t (items-the_row-Link n links)
rows_are_lists t end_of-Link = refl
rows_are_lists t (more_of-Link l ls) = rows_are_lists (link_term t l) ls

pub chain_is : (t : Term) (links : Vec Link Global) → term_after t (hidden-the_row-Link-1 links) ≡ terms_after t links.items
chain_is t links = rows_are_lists t (hidden-the_row-Link-1 links) ∙ ap (terms_after t) (items_hidden-the_row-Link-1 links)

pub one_more : (t : Term) (ls : List Link) (l : Link) → terms_after t (ls ++ l ∷ []) ≡ link_term (terms_after t ls) l
one_more t [] l = refl
one_more t (x ∷ xs) l = one_more (link_term t x) xs l
