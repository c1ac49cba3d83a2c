-- The kinds of the cells on a stack, as a list.
use Rattle.std.specs.Prelude.{List, [], ◌∷◌}
use Rattle.scode_image.specs.declared.image.ImageKind.{ImageKind}
use Rattle.scode_entries.specs.declared.cells.Below.{Below}
use Rattle.scode_entries.specs.declared.cells.Below.TheVariants.{Nothing, Cell'}

abbrev pub kinds_on : Below → List ImageKind
kinds_on Nothing = []
kinds_on (Cell' k p below) = k ∷ kinds_on below
