-- Rows of trees, and the tree of a term with a link behind it.
use Rattle.std.proofs.Common.{◌≡◌, ◌≤◌, ◌<◌, ◌^◌, ◌+◌, ℕ, suc, List, [], ◌∷◌, ◌++◌, length, map, Vec, Global, refl, sym, ap, ◌∙◌, arith, length-append}
use mathlib.Core.Former.{Count}
use Rattle.sed_typed.specs.Flat.{IsNoChain, IsFlat, IsFlatLink, AreFlatLinks, AreAllFlat}
use Rattle.sed_typed.specs.declared.tree.Expr.{Expr, Row_of-Link, end_of-Link, more_of-Link, items-the_row-Link, items_hidden-the_row-Link-1}
use Rattle.sed_typed.specs.declared.tree.Expr.TheBlock.{hidden-the_row-Expr-0, hidden-the_row-Link-1}
use Rattle.sed_typed.specs.declared.tree.Expr.TheVariants as expr
use Rattle.sed_typed.specs.declared.tree.Link.{Link}
use Rattle.sed_terms.specs.declared.sign.Sign.{Sign}
use Rattle.sed_terms.specs.Term.{Term, Absent, Node, row}
use Rattle.sed_terms.specs.Seen.{term_of, link_term, term_after, args_term}
use Rattle.sed_terms.proofs.ChainRows.{terms_after, chain_is, one_more}
use Rattle.sed_terms.proofs.FlatRows.{AreAllFlatLinks, grown_links}
use Rattle.sed_terms.proofs.Rows.{args_row}
use Rattle.sed_body_laws.specs.Neat.{term_size}
use Rattle.sed_body_laws.proofs.Vectors.{box_of, vec_of}

-- ---- a tree and its term

-- how many links stand in its own chain
abbrev pub count_of : Expr → ℕ
count_of (expr.Chain' p e shape links) = length (items-the_row-Link _ links)
count_of e = 0

pub record Grows (t : Term) (e : Expr) : Type 0 where
  pub term : term_of e ≡ t
  pub flat : IsFlat e
  pub count : count_of e ≤ term_size t

abbrev pub Tree : Term → Type 0
Tree t = (e : Expr) × Grows t e

-- ---- rows

links_listed : {n : Count} (ls : Row_of-Link n) → AreFlatLinks ls → AreAllFlatLinks (items-the_row-Link n ls)
links_listed end_of-Link h = tt
links_listed (more_of-Link l ls) h = (h.0, links_listed ls h.1)

rows_are_lists : (t : Term) {n : Count} (ls : Row_of-Link n) → term_after t ls ≡ terms_after t (items-the_row-Link n ls)
rows_are_lists t end_of-Link = refl
rows_are_lists t (more_of-Link l ls) = rows_are_lists (link_term t l) ls

-- ---- a link more

chained : (e : Expr) (ls : List Link) (l : Link) (t : Term) → IsNoChain e → IsFlat e → AreAllFlatLinks ls → IsFlatLink l →
    link_term (terms_after (term_of e) ls) l ≡ t → suc (length ls) ≤ term_size t → term_size t < 2 ^ 63 → Tree t
chained e ls l t alone flat all last is count few =
    let long : length (ls ++ l ∷ []) ≡ length ls + 1 = length-append ls (l ∷ []) in
    let small : length (ls ++ l ∷ []) < 2 ^ 63 = omega (arith, long, count, few) in
    let v : Vec Link Global = vec_of (ls ++ l ∷ []) small in
    let links = grown_links v ls l refl all last in
    let counted : length (items-the_row-Link _ (hidden-the_row-Link-1 v)) ≡ length (ls ++ l ∷ []) =
    ap length (items_hidden-the_row-Link-1 v) in (
      expr.Chain (box_of e) v,
      record {
        term = chain_is (term_of e) v ∙ one_more (term_of e) ls l ∙ is;
        flat = (alone, flat, links.0, links.1);
        count = omega (arith, counted, long, count);
      },
    )

linked : (e : Expr) (l : Link) (t : Term) → IsFlat e → IsFlatLink l → link_term (term_of e) l ≡ t →
    suc (count_of e) ≤ term_size t → term_size t < 2 ^ 63 → Tree t
linked (expr.Chain' p e shape links) l t flat last is count few =
    chained e (items-the_row-Link _ links) l t flat.0 flat.1 (links_listed links flat.3) last
    (ap (λ x. link_term x l) (sym (rows_are_lists (term_of e) links)) ∙ is) count few
linked e l t flat last is count few = chained e [] l t tt flat tt last is count few

behind : (s : Sign) (x y : Term) (l : Link) → IsFlatLink l → Tree x → ((u : Term) → link_term u l ≡ Node s u y) →
    term_size (Node s x y) < 2 ^ 63 → Tree (Node s x y)
behind s x y l flat f term few =
    linked f.0 l (Node s x y) f.1.flat flat (term (term_of f.0) ∙ ap (λ u. Node s u y) f.1.term)
    (omega (arith, f.1.count)) few

-- without an operand, with one, and with arguments
pub plain_link : (s : Sign) (l : Link) (x y : Term) → IsFlatLink l → ((u : Term) → link_term u l ≡ Node s u Absent) →
    y ≡ Absent → Tree x → term_size (Node s x y) < 2 ^ 63 → Tree (Node s x y)
plain_link s l x y flat term none f few = behind s x y l flat f (λ u. term u ∙ ap (Node s u) (sym none)) few

pub operand_link : (s : Sign) (l : Expr → Link) (x y : Term) → ((e : Expr) → IsFlat e → IsFlatLink (l e)) →
    ((u : Term) (e : Expr) → link_term u (l e) ≡ Node s u (term_of e)) → Tree x → Tree y →
    term_size (Node s x y) < 2 ^ 63 → Tree (Node s x y)
operand_link s l x y flat term f g few =
    behind s x y (l g.0) (flat g.0 g.1.flat) f (λ u. term u g.0 ∙ ap (Node s u) g.1.term) few

-- ---- a row of arguments

pub record GrowAll (t : Term) (es : List Expr) : Type 0 where
  pub term : row (map term_of es) ≡ t
  pub flat : AreAllFlat es
  pub count : length es ≤ term_size t

abbrev pub Trees : Term → Type 0
Trees t = (es : List Expr) × GrowAll t es

-- as a vector
pub record IsRowOf (t : Term) (v : Vec Expr Global) : Type 0 where
  pub term : args_term (hidden-the_row-Expr-0 v) ≡ t
  pub flat : AreAllFlat v.items

pub args_of : (t : Term) → Trees t → term_size t < 2 ^ 63 → (v : Vec Expr Global) × IsRowOf t v
args_of t f few =
    let v : Vec Expr Global = vec_of f.0 (omega (arith, f.1.count, few)) in
    (v, record { term = args_row v ∙ f.1.term; flat = f.1.flat })

pub args_link : (s : Sign) (l : Vec Expr Global → Link) (x y : Term) →
    ((v : Vec Expr Global) → AreAllFlat v.items → IsFlatLink (l v)) →
    ((u : Term) (v : Vec Expr Global) → link_term u (l v) ≡ Node s u (args_term (hidden-the_row-Expr-0 v))) → Tree x →
    Trees y → term_size (Node s x y) < 2 ^ 63 → Tree (Node s x y)
args_link s l x y flat term f g few =
    let small : term_size y < 2 ^ 63 = omega (arith, few) in
    let v = args_of y g small in
    behind s x y (l v.0) (flat v.0 v.1.flat) f (λ u. term u v.0 ∙ ap (Node s u) v.1.term) few
