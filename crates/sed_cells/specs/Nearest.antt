-- Which method a call runs: a virtual one is found by the name of the method that is named.
use Rattle.std.specs.Prelude.{ℕ, ◌≡◌, List, map, slice_get, IfSome, Option, Vec}
use Rattle.std.specs.declared.alloc.Global.{Global}
use Rattle.std.specs.Option.{option_and_then}
use Rattle.sed_typed.specs.declared.program.Program.{Program}
use Rattle.sed_typed.specs.Classes.{find}

-- the method that is nearest at or above a class, by the name of this one
abbrev pub nearest_of : Program → ℕ → ℕ → Option ℕ
nearest_of program class method = option_and_then (λ m. find program class m.name) (slice_get program.methods method)

-- the same for each method in turn
abbrev pub row_of : Program → ℕ → List (Option ℕ)
row_of program class = map (λ m. find program class m.name) program.methods

-- a row for each of the first classes
abbrev pub AreRows : Program → List (Vec (Option ℕ) Global) → Type 0
AreRows program rows = (class : ℕ) → IfSome (slice_get rows class) (λ row. row.items ≡ row_of program class)
