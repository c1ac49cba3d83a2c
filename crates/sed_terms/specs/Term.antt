-- Typed trees without places in memory. A node has a sign and two parts. A row is a chain of nodes, with `More` before
-- each item. What follows an operand stands around it, so a chain of links is one node above another, however it is
-- grouped.
use Rattle.std.specs.Prelude.{◌≡◌, List, [], ◌∷◌, Option, Some, None, refl}
use Rattle.std.proofs.Common.{◌∙◌, ap}
use Rattle.std.specs.Coded.{Coded, code_by, coded_list, coded_option}
use Rattle.sed_terms.specs.declared.sign.Sign.{Sign}
use Rattle.sed_terms.specs.declared.sign.Sign.TheVariants as sign

pub data Term : Type 0 where
  Absent : Term
  Node : Sign → Term → Term → Term

abbrev pub leaf : Sign → Term
leaf s = Node s Absent Absent

abbrev pub row : List Term → Term
row [] = Absent
row (t ∷ ts) = Node sign.More t (row ts)

-- a part that may be missing
abbrev pub optional : Option Term → Term
optional None = Absent
optional (Some t) = t

-- a row, or labels, with one more at the end
abbrev pub appended : Term → Term → Term
appended Absent last = last
appended (Node s t rest) last = Node s t (appended rest last)

abbrev pub with_item : Term → Term → Term
with_item ts t = appended ts (Node sign.More t Absent)

-- ---- how a term is stored as a list: its parts, and then its sign

abbrev pub signs : Term → List (Option Sign) → List (Option Sign)
signs Absent rest = None ∷ rest
signs (Node s a b) rest = signs a (signs b (Some s ∷ rest))

abbrev pub stacked : Sign → List Term → List Term
stacked s (b ∷ a ∷ stack) = Node s a b ∷ stack
stacked s stack = []

abbrev pub read_back : List (Option Sign) → List Term → List Term
read_back [] stack = stack
read_back (None ∷ rest) stack = read_back rest (Absent ∷ stack)
read_back (Some s ∷ rest) stack = read_back rest (stacked s stack)

pub reads_back : (t : Term) (rest : List (Option Sign)) (stack : List Term)
    → read_back (signs t rest) stack ≡ read_back rest (t ∷ stack)
reads_back Absent rest stack = refl
reads_back (Node s a b) rest stack =
    reads_back a (signs b (Some s ∷ rest)) stack ∙ reads_back b (Some s ∷ rest) (a ∷ stack)

abbrev pub first_or_absent : List Term → Term
first_or_absent [] = Absent
first_or_absent (t ∷ ts) = t

pub is_read_back : (t : Term) → first_or_absent (read_back (signs t []) []) ≡ t
is_read_back t = ap first_or_absent (reads_back t [] [])

abbrev pub term_code : Coded Sign → Coded Term
term_code c = code_by (List (Option Sign)) (coded_list (coded_option c))
    (λ t. signs t []) (λ s. first_or_absent (read_back s [])) is_read_back
