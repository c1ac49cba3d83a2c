-- An item is smaller than its row.
use Rattle.std.proofs.Common.{◌≡◌, ℕ, zero, suc, ◌<◌, List, [], ◌∷◌, length, get_or, ap, arith}
use Rattle.sed_units.specs.Tree.{Tree, row, tree_size}

pub row_falls : (ts : List Tree) (i : ℕ) (t : Tree) → i < length ts → t ≡ get_or ts i t →
    tree_size t < tree_size (row ts)
row_falls [] i t h e = absurd (omega arith)
row_falls (x ∷ xs) zero t h e = let s : tree_size t ≡ tree_size x = ap tree_size e in omega arith
row_falls (x ∷ xs) (suc i) t h e = let l : i < length xs = omega arith in omega (arith, row_falls xs i t l e)
