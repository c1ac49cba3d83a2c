-- What a row holds.
use Rattle.std.specs.Prelude.{ℕ, List, [], ◌∷◌, ◌++◌, map}
use Rattle.rows.specs.declared.row.Row.{Row}

-- its fields: the inputs, and then what is wanted of them
abbrev pub fields_of : Row → List (List ℕ)
fields_of row = map (λ v. v.items) row.inputs.items ++ row.wanted.items ∷ []
