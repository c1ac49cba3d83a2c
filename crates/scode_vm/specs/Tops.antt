-- What stands on top of a stack of cells.
use Rattle.std.specs.Prelude.{Bool, if◌then◌else◌, List, [], ◌∷◌}
use Rattle.scode_cells.specs.declared.cell.Cell.{Cell}
use Rattle.scode_cells.specs.declared.cell.Cell.TheVariants as cell

abbrev pub IsInt : Cell → Type 0
IsInt (cell.Int n) = Unit {0}
IsInt c = ⊥

abbrev pub IsLong : Cell → Type 0
IsLong (cell.Long n) = Unit {0}
IsLong c = ⊥

abbrev pub IsBool : Cell → Type 0
IsBool (cell.Bool t) = Unit {0}
IsBool c = ⊥

abbrev pub Top : (Cell → Type 0) → List Cell → Type 0
Top P [] = ⊥
Top P (c ∷ cs) = P c

-- the topmost cell, and the one below it
abbrev pub TopTwo : (Cell → Type 0) → (Cell → Type 0) → List Cell → Type 0
TopTwo P Q [] = ⊥
TopTwo P Q (c ∷ cs) = P c × Top Q cs

abbrev pub truth_cell : Bool → Cell
truth_cell b = cell.Bool (if b then 1 else 0)
