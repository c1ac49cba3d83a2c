-- Rows of flat expressions and of flat links, one item after another.
use Rattle.std.proofs.Common.{◌≡◌, List, [], ◌∷◌, ◌++◌, Vec, Global, sym, subst, ◌∙◌}
use mathlib.Core.Former.{Count}
use Rattle.sed_typed.specs.Flat.{HasLinks, IsFlat, IsFlatLink, AreFlat, AreFlatLinks, AreAllFlat}
use Rattle.sed_typed.specs.declared.tree.Expr.{Expr, Row_of-Expr, end_of-Expr, more_of-Expr, items-the_row-Expr, items_hidden-the_row-Expr-0, Row_of-Link, end_of-Link, more_of-Link, items-the_row-Link, items_hidden-the_row-Link-1}
use Rattle.sed_typed.specs.declared.tree.Expr.TheBlock.{hidden-the_row-Expr-0, hidden-the_row-Link-1}
use Rattle.sed_typed.specs.declared.tree.Link.{Link}

pub one_more_flat : (xs : List Expr) (x : Expr) → AreAllFlat xs → IsFlat x → AreAllFlat (xs ++ x ∷ [])
one_more_flat [] x all flat = (flat, tt)
one_more_flat (y ∷ ys) x all flat = (all.0, one_more_flat ys x all.1 flat)

row_flat : {n : Count} (all : Row_of-Expr n) → AreAllFlat (items-the_row-Expr n all) → AreFlat all
row_flat end_of-Expr h = tt
row_flat (more_of-Expr x xs) h = (h.0, row_flat xs h.1)

pub args_flat : (all : Vec Expr Global) → AreAllFlat all.items → AreFlat (hidden-the_row-Expr-0 all)
args_flat all h = row_flat (hidden-the_row-Expr-0 all) (subst AreAllFlat (sym (items_hidden-the_row-Expr-0 all)) h)

-- ---- links

abbrev pub AreAllFlatLinks : List Link → Type 0
AreAllFlatLinks [] = Unit {0}
AreAllFlatLinks (l ∷ ls) = IsFlatLink l × AreAllFlatLinks ls

abbrev HasItems : List Link → Type 0
HasItems [] = ⊥
HasItems (l ∷ ls) = Unit {0}

links_listed : {n : Count} (all : Row_of-Link n) → AreFlatLinks all → AreAllFlatLinks (items-the_row-Link n all)
links_listed end_of-Link h = tt
links_listed (more_of-Link l ls) h = (h.0, links_listed ls h.1)

links_in_row : {n : Count} (all : Row_of-Link n) → AreAllFlatLinks (items-the_row-Link n all) → AreFlatLinks all
links_in_row end_of-Link h = tt
links_in_row (more_of-Link l ls) h = (h.0, links_in_row ls h.1)

has_links : {n : Count} (all : Row_of-Link n) → HasItems (items-the_row-Link n all) → HasLinks all
has_links end_of-Link h = absurd h
has_links (more_of-Link l ls) h = tt

has_last : (ls : List Link) (l : Link) → HasItems (ls ++ l ∷ [])
has_last [] l = tt
has_last (x ∷ xs) l = tt

one_more_link : (ls : List Link) (l : Link) → AreAllFlatLinks ls → IsFlatLink l → AreAllFlatLinks (ls ++ l ∷ [])
one_more_link [] l all flat = (flat, tt)
one_more_link (x ∷ xs) l all flat = (all.0, one_more_link xs l all.1 flat)

-- the links of a flat chain
pub links_are_flat : (links : Vec Link Global) → AreFlatLinks (hidden-the_row-Link-1 links) → AreAllFlatLinks links.items
links_are_flat links h = subst AreAllFlatLinks (items_hidden-the_row-Link-1 links) (links_listed (hidden-the_row-Link-1 links) h)

-- one more behind them
pub grown_links : (links : Vec Link Global) (before : List Link) (l : Link) → links.items ≡ before ++ l ∷ [] →
    AreAllFlatLinks before → IsFlatLink l → HasLinks (hidden-the_row-Link-1 links) × AreFlatLinks (hidden-the_row-Link-1 links)
grown_links links before l is all flat =
    let same = items_hidden-the_row-Link-1 links ∙ is in (
      has_links (hidden-the_row-Link-1 links) (subst HasItems (sym same) (has_last before l)),
      links_in_row (hidden-the_row-Link-1 links) (subst AreAllFlatLinks (sym same) (one_more_link before l all flat)),
    )
