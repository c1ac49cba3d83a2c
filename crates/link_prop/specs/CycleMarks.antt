-- The marks that a cycle and a begin may set.
use Rattle.std.specs.Prelude.{ℕ}
use Rattle.node_table.specs.declared.marks.Parts.{Parts}
use Rattle.node_table.specs.Marks.{value_parts}

-- c and r of any component
abbrev pub values_of_any : ℕ → Parts
values_of_any id = value_parts
