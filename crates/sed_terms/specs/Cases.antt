-- Labels of a `switch`, each with the block behind it.
use Rattle.std.specs.Prelude.{List, [], ◌∷◌}
use Rattle.sed_typed.specs.declared.statement.Label.{Label}
use Rattle.sed_terms.specs.declared.sign.Sign.TheVariants as sign
use Rattle.sed_terms.specs.Term.{Term, Absent, Node, row}

-- a label without a block has nothing in its place, and a block without a label stands as an item
abbrev pub cases_row : List Label → List Term → Term
cases_row [] ts = row ts
cases_row (l ∷ ls) [] = Node (sign.Label l) Absent (cases_row ls [])
cases_row (l ∷ ls) (t ∷ ts) = Node (sign.Label l) t (cases_row ls ts)
