-- What is looked up for a root call, and what its argument is as a cell.
use Rattle.std.specs.Prelude.{ℕ, ◌≡◌, length, slice_get, Option, Some, None, Result, Ok}
use Rattle.std.specs.Option.{option_and_then}
use Rattle.sed_engine.specs.Stops.{Stop}
use Rattle.sed_engine.specs.Values.{Val, Nothing}
use Rattle.scode_image.specs.declared.image.Image.{Image}
use Rattle.scode_cells.specs.declared.cell.Cell.{Cell}
use Rattle.scode_state.specs.Cells.{plain_of}

-- what is asked for is there
abbrev pub IsFound : {A : Type 0} → Result A Stop → Type 0
IsFound {A} r = (v : A) × (r ≡ Ok v)

-- how many places the table of a class has
abbrev pub table_length : Image → ℕ → Option ℕ
table_length image class = option_and_then (λ c. Some (length c.table)) (slice_get image.classes class)

-- the value that an argument is: nothing where there is none, else that of a cell that leads to no block
abbrev pub argument_seen : Option Cell → Option Val
argument_seen None = Some Nothing
argument_seen (Some c) = plain_of c
