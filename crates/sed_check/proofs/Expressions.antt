-- Expressions that the grammar derives keep their tokens' literals.
use Rattle.std.proofs.Common.{ℕ, zero, suc, Bool, true, List, codes}
use Rattle.sed_units.specs.Tree.{Tree}
use Rattle.sed_parser.specs.Rule.{Rule}
use Rattle.sed_parser.specs.Next.{next_mark}
use Rattle.sed_parser.specs.Leaves as part
use Rattle.sed_parser.specs.Expressions.{Inner, onward, leaf, arguments, more_arguments, next_argument, super_name, named, primary, access, access_links, next_access, postfix, prefixed, operand, operand_links, next_operand, operands, conditional, assigned, expression_in, expression, deeper}
use Rattle.sed_check.proofs.Kept.{Each, Keeps, gives, nothing, in_order, past, either, several}
use Rattle.sed_check.proofs.Spelled.{literal_kept}
use Rattle.sed_check.proofs.Trees.{IsLexedTree, lexed_row, lexed_chain}

abbrev pub Kept : Rule Tree → Type 0
Kept p = Keeps p.holds IsLexedTree

abbrev pub AllKept : Rule (List Tree) → Type 0
AllKept p = Keeps p.holds (Each IsLexedTree)

-- expressions that stand one construct deeper
abbrev pub Inside : Inner → Type 0
Inside inner = (level : ℕ) (inside : Bool) → Kept (inner level inside)

leaf_kept : Kept leaf
unfolding leaf
leaf_kept = either
    (in_order literal_kept (λ l h. gives (h, tt, tt)))
    (past part.place (λ at. past (part.key (codes "this")) (λ u. gives (tt, tt, tt))))

next_argument_kept : (inner : Inner) → Inside inner → Kept (next_argument inner)
unfolding next_argument
next_argument_kept inner h = past (part.mark (codes ",")) (λ u. h 13 true)

more_arguments_kept : (inner : Inner) → Inside inner → (first : Tree) → IsLexedTree first
    → AllKept (more_arguments inner first)
unfolding more_arguments
more_arguments_kept inner h first f =
    in_order (several (next_mark (codes ",")) (next_argument_kept inner h)) (λ others o. gives (f, o))

arguments_kept : (inner : Inner) → Inside inner → AllKept (arguments inner)
unfolding arguments
arguments_kept inner h = past (part.mark (codes "(")) (λ u. either
    (past (part.mark (codes ")")) (λ v. gives tt))
    (in_order (h 13 true) (λ first f. in_order (more_arguments_kept inner h first f) (λ all a.
    past (part.mark (codes ")")) (λ v. gives a)))))

named_kept : (inner : Inner) (inside : Bool) → Inside inner → Kept (named inner inside)
unfolding named
named_kept inner inside h = past part.ident (λ first. either
    (past (part.mark (codes "::")) (λ u. past (onward inside) (λ v. past part.ident (λ second. gives (tt, tt, tt)))))
    (either
    (in_order (arguments_kept inner h) (λ args a. gives (tt, lexed_row args a, tt)))
    (gives (tt, tt, tt))))

primary_kept : (inner : Inner) (inside : Bool) → Inside inner → Kept (primary inner inside)
unfolding primary
primary_kept inner inside h = past part.place (λ at. either leaf_kept (either
    (past (part.mark (codes "(")) (λ u. in_order (h 13 true) (λ e k.
    past (part.mark (codes ")")) (λ v. gives (tt, k, tt)))))
    (either
    (past (super_name inside) (λ name. in_order (arguments_kept inner h) (λ args a. gives (tt, lexed_row args a, tt))))
    (named_kept inner inside h))))

access_kept : (inner : Inner) (inside : Bool) → Inside inner → Kept (access inner inside)
unfolding access
access_kept inner inside h = past part.place (λ at. either
    (past (part.mark (codes ".")) (λ u. past (onward inside) (λ v. past part.ident (λ name. either
    (in_order (arguments_kept inner h) (λ args a. gives (tt, lexed_row args a, tt)))
    (gives (tt, tt, tt))))))
    (past (part.mark (codes "[")) (λ u. in_order (h 13 true) (λ e k.
    past (part.mark (codes "]")) (λ v. gives (tt, k, tt))))))

access_links_kept : (inner : Inner) (inside : Bool) → Inside inner → AllKept (access_links inner inside)
unfolding access_links
access_links_kept inner inside h = several (next_access inside) (access_kept inner inside h)

postfix_kept : (inner : Inner) (inside : Bool) → Inside inner → Kept (postfix inner inside)
unfolding postfix
postfix_kept inner inside h = past part.place (λ at. in_order (primary_kept inner inside h) (λ first f.
    in_order (access_links_kept inner inside h) (λ links l. either
    (past part.update (λ op. gives (tt, lexed_chain at first links f l, tt)))
    (gives (lexed_chain at first links f l)))))

prefixed_kept : (inner : Inner) (inside : Bool) (tighter : Rule Tree) → Inside inner → Kept tighter
    → Kept (prefixed inner inside tighter)
unfolding prefixed
prefixed_kept inner inside tighter h t = past part.place (λ at. either
    (past part.prefix (λ op. past (onward inside) (λ u. in_order (h 1 inside) (λ e k. gives (tt, k, tt)))))
    (either
    (past (part.mark (codes "(")) (λ u. past part.prim (λ kind. past (part.mark (codes ")")) (λ v.
    past (onward inside) (λ w. in_order (h 1 inside) (λ e k. gives (tt, k, tt)))))))
    t))

operand_kept : (level : ℕ) (tighter : Rule Tree) → Kept tighter → Kept (operand level tighter)
unfolding operand
operand_kept level tighter t = past part.place (λ at. past (part.binary level) (λ op.
    in_order t (λ e k. gives (tt, k, tt))))

operand_links_kept : (level : ℕ) (inside : Bool) (tighter : Rule Tree) → Kept tighter
    → AllKept (operand_links level inside tighter)
unfolding operand_links
operand_links_kept level inside tighter t = several (next_operand inside level) (operand_kept level tighter t)

operands_kept : (level : ℕ) (inside : Bool) (tighter : Rule Tree) → Kept tighter → Kept (operands level inside tighter)
unfolding operands
operands_kept level inside tighter t = past part.place (λ at. in_order t (λ first f.
    in_order (operand_links_kept level inside tighter t) (λ links l. gives (lexed_chain at first links f l))))

conditional_kept : (inner : Inner) (inside : Bool) (tighter : Rule Tree) → Inside inner → Kept tighter
    → Kept (conditional inner inside tighter)
unfolding conditional
conditional_kept inner inside tighter h t = past part.place (λ at. in_order t (λ first f. either
    (past (part.mark (codes "?")) (λ u. in_order (h 13 inside) (λ second s. past (part.mark (codes ":")) (λ v.
    in_order (h 12 inside) (λ third k. gives (tt, f, (tt, s, k)))))))
    (gives f)))

assigned_kept : (inner : Inner) (inside : Bool) (tighter : Rule Tree) → Inside inner → Kept tighter
    → Kept (assigned inner inside tighter)
unfolding assigned
assigned_kept inner inside tighter h t = past part.place (λ at. in_order t (λ target k. either
    (past part.assignment (λ op. in_order (h 13 inside) (λ value v. gives (tt, k, v))))
    (gives k)))

expression_in_kept : (inner : Inner) → Inside inner → Inside (expression_in inner)
unfolding expression_in
expression_in_kept inner h zero inside = postfix_kept inner inside h
expression_in_kept inner h (suc level) inside =
    let t : Kept (expression_in inner level inside) = expression_in_kept inner h level inside in
    either (assigned_kept inner inside (expression_in inner level inside) h t)
    (either (conditional_kept inner inside (expression_in inner level inside) h t)
    (either (prefixed_kept inner inside (expression_in inner level inside) h t)
    (operands_kept (suc level) inside (expression_in inner level inside) t)))

pub deeper_kept : (room : ℕ) → Inside (deeper room)
unfolding deeper
deeper_kept zero level inside = nothing
deeper_kept (suc room) level inside = expression_in_kept (deeper room) (deeper_kept room) level inside

pub expression_kept : (room level : ℕ) (inside : Bool) → Kept (expression room level inside)
expression_kept room level inside = expression_in_kept (deeper room) (deeper_kept room) level inside
