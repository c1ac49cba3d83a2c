-- Trees of expressions and statements, without places in memory. A node has a label and two parts. A row of nodes is a
-- chain of parts, with `More` before each item.
use Rattle.std.specs.Prelude.{◌≡◌, ℕ, ◌+◌, List, [], ◌∷◌, Option, Some, None, refl}
use Rattle.std.proofs.Common.{◌∙◌, ap}
use Rattle.std.specs.Coded.{Coded, code_by, coded_list, coded_option}
use Rattle.sed_units.specs.declared.label.Label.{Label}
use Rattle.sed_units.specs.declared.label.Label.TheVariants as label

pub data Tree : Type 0 where
  Absent : Tree
  Part : Label → Tree → Tree → Tree

abbrev pub row : List Tree → Tree
row [] = Absent
row (t ∷ ts) = Part label.More t (row ts)

-- the items of a row
abbrev pub row_items : Tree → List Tree
row_items (Part label.More t rest) = t ∷ row_items rest
row_items tree = []

abbrev pub optional : Option Tree → Tree
optional None = Absent
optional (Some t) = t

abbrev pub tree_size : Tree → ℕ
tree_size Absent = 0
tree_size (Part l a b) = tree_size a + tree_size b + 1

-- how a tree is stored as a list: each label behind its parts
abbrev pub labels : Tree → List (Option Label) → List (Option Label)
labels Absent rest = None ∷ rest
labels (Part l a b) rest = labels a (labels b (Some l ∷ rest))

abbrev pub joined : Label → List Tree → List Tree
joined l [] = []
joined l (b ∷ []) = []
joined l (b ∷ a ∷ stack) = Part l a b ∷ stack

abbrev pub built : List (Option Label) → List Tree → List Tree
built [] stack = stack
built (None ∷ s) stack = built s (Absent ∷ stack)
built (Some l ∷ s) stack = built s (joined l stack)

pub built_again : (t : Tree) (rest : List (Option Label)) (stack : List Tree)
    → built (labels t rest) stack ≡ built rest (t ∷ stack)
built_again Absent rest stack = refl
built_again (Part l a b) rest stack = built_again a (labels b (Some l ∷ rest)) stack
    ∙ built_again b (Some l ∷ rest) (a ∷ stack)

abbrev pub top : List Tree → Tree
top [] = Absent
top (t ∷ ts) = t

pub top_again : (t : Tree) → top (built (labels t []) []) ≡ t
top_again t = ap top (built_again t [] [])

abbrev pub tree_code : Coded Label → Coded Tree
tree_code c = code_by (List (Option Label)) (coded_list (coded_option c)) (λ t. labels t []) (λ s. top (built s []))
    top_again
