-- How many cells frames need.
use Rattle.std.specs.Prelude.{ℕ, ◌≡◌, ◌+◌, ◌≤◌, List, length, slice_get, Some}
use Rattle.scode_image.specs.declared.image.ImageMethod.{ImageMethod}

-- there are cells enough for a frame of each of these methods
abbrev pub HaveCells : List ImageMethod → ℕ → Type 0
HaveCells methods most = (number : ℕ) (m : ImageMethod) → slice_get methods number ≡ Some m
    → length m.locals + m.stack ≤ most
