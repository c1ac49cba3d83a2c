-- What an acknowledgement of more messages means, however long it is.
use Rattle.std.specs.Prelude.{ℕ, List, [], ◌∷◌, slice_index}

-- its first four bytes: those that are missing are 0, and those past the fourth say nothing
abbrev pub first_four : List ℕ → List ℕ
first_four bytes = slice_index bytes 0 ∷ slice_index bytes 1 ∷ slice_index bytes 2 ∷ slice_index bytes 3 ∷ []
