-- How many components there may be, and how many children of one.
use Rattle.std.specs.Prelude.{ℕ}
use Rattle.sed_value.specs.declared.limits.TheConstants.{MOST_COMPONENTS, MOST_CHILDREN}

abbrev pub most_components : ℕ
most_components = MOST_COMPONENTS

abbrev pub most_children : ℕ
most_children = MOST_CHILDREN
