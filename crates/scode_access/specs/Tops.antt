-- What stands on top of a stack of cells.
use Rattle.scode_cells.specs.declared.cell.Cell.{Cell}
use Rattle.scode_cells.specs.declared.cell.Cell.TheVariants as cell

-- a reference to an object, which may be null
abbrev pub IsObject : Cell → Type 0
IsObject (cell.Object b offset class) = Unit {0}
IsObject cell.Null = Unit {0}
IsObject c = ⊥

-- a reference to a Str, to a text, or null
abbrev pub IsText : Cell → Type 0
IsText (cell.Str b offset size) = Unit {0}
IsText (cell.Text n) = Unit {0}
IsText cell.Null = Unit {0}
IsText c = ⊥
