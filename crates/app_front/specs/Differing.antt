-- The first place at which two lists of kits differ.
use Rattle.std.specs.Prelude.{ℕ, ◌≡◌, ◌≢◌, ◌<◌, ◌≤◌, List, length, slice_get}
use Rattle.sed_value.specs.declared.kit.KitRef.{KitRef}

-- as far as this place they are the same
abbrev pub AreSameTo : List KitRef → List KitRef → ℕ → Type 0
AreSameTo file kits n = (k : ℕ) → k < n → slice_get file k ≡ slice_get kits k

pub record IsFirstDifference (file kits : List KitRef) (place : ℕ) : Type 0 where
  pub before : AreSameTo file kits place
  pub differ : slice_get file place ≢ slice_get kits place
  pub within : place ≤ length file
