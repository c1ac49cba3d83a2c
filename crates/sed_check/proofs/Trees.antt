-- Trees of which each literal is lexed.
use Rattle.std.proofs.Common.{ℕ, IfSome, List, [], ◌∷◌, ◌++◌, Option, Some, None}
use Rattle.std.specs.List.{filter_map, flat_map, cons_option}
use Rattle.sed_units.specs.declared.label.Label.{Label}
use Rattle.sed_units.specs.declared.label.Label.TheVariants as label
use Rattle.sed_units.specs.declared.leaves.Literal.{Literal}
use Rattle.sed_units.specs.declared.leaves.LiteralKind.{LiteralKind}
use Rattle.sed_units.specs.declared.leaves.LiteralKind.TheVariants as literal
use Rattle.sed_units.specs.Tree.{Tree, Absent, Part, row, optional}
use Rattle.sed_parser.specs.Expressions.{chain}
use Rattle.sed_classes.specs.Bodies.{nodes_in, body_nodes, text_literal, text_in}
use Rattle.sed_check.specs.Read.{IsLexed}
use Rattle.sed_check.proofs.Kept.{Each}

abbrev pub IsLexedLabel : Label → Type 0
IsLexedLabel (label.Literal l) = IsLexed l
IsLexedLabel l = Unit {0}

abbrev pub IsLexedTree : Tree → Type 0
IsLexedTree Absent = Unit {0}
IsLexedTree (Part l a b) = IsLexedLabel l × IsLexedTree a × IsLexedTree b

-- ---- how trees are put together

pub lexed_row : (ts : List Tree) → Each IsLexedTree ts → IsLexedTree (row ts)
lexed_row [] h = tt
lexed_row (t ∷ ts) h = (tt, h.0, lexed_row ts h.1)

pub lexed_optional : (t : Option Tree) → IfSome t IsLexedTree → IsLexedTree (optional t)
lexed_optional None h = tt
lexed_optional (Some t) h = h

pub lexed_chain : (at : ℕ) (first : Tree) (links : List Tree) → IsLexedTree first → Each IsLexedTree links
    → IsLexedTree (chain at first links)
lexed_chain at first [] h hs = h
lexed_chain at first (l ∷ ls) h hs = (tt, h, lexed_row (l ∷ ls) hs)

-- ---- the texts of a body

each_append : {A : Type 0} (P : A → Type 0) (xs ys : List A) → Each P xs → Each P ys → Each P (xs ++ ys)
each_append P [] ys h k = k
each_append P (x ∷ xs) ys h k = (h.0, each_append P xs ys h.1 k)

lexed_nodes : (t : Tree) → IsLexedTree t → Each IsLexedLabel (nodes_in t)
lexed_nodes Absent h = tt
lexed_nodes (Part l a b) h =
    (h.0, each_append IsLexedLabel (nodes_in a) (nodes_in b) (lexed_nodes a h.1) (lexed_nodes b h.2))

lexed_all : (ts : List Tree) → Each IsLexedTree ts → Each IsLexedLabel (flat_map nodes_in ts)
lexed_all [] h = tt
lexed_all (t ∷ ts) h =
    each_append IsLexedLabel (nodes_in t) (flat_map nodes_in ts) (lexed_nodes t h.0) (lexed_all ts h.1)

pub lexed_body : (body : Option (List Tree)) → IfSome body (Each IsLexedTree) → Each IsLexedLabel (body_nodes body)
lexed_body None h = tt
lexed_body (Some ts) h = lexed_all ts h

lexed_literal : (k : LiteralKind) (l : Literal) (rest : List Literal) → IsLexed l → Each IsLexed rest
    → Each IsLexed (cons_option (text_literal k l) rest)
lexed_literal literal.Text l rest h hs = (h, hs)
lexed_literal k l rest h hs = hs

lexed_label : (l : Label) (rest : List Literal) → IsLexedLabel l → Each IsLexed rest
    → Each IsLexed (cons_option (text_in l) rest)
lexed_label (label.Literal l) rest h hs = lexed_literal l.kind l rest h hs
lexed_label l rest h hs = hs

pub lexed_texts : (ls : List Label) → Each IsLexedLabel ls → Each IsLexed (filter_map text_in ls)
lexed_texts [] h = tt
lexed_texts (l ∷ ls) h = lexed_label l (filter_map text_in ls) h.0 (lexed_texts ls h.1)
