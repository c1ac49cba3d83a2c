-- What is left where the first bytes of one class more are gone over.
use Rattle.std.specs.Prelude.{◌≡◌, ℕ, ◌+◌, Bool, true, false, List, length, slice_get, Some}
use Rattle.std.specs.Global.{Vec}
use Rattle.scode_image.specs.declared.image.Image.{Image}
use Rattle.scode_image.specs.declared.image.ImageClass.{ImageClass}
use Rattle.scode_fields.specs.Rows.{HasRow}
use Rattle.scode_fields.specs.Stages.{contents_fit, first_bytes_fit}

pub record HasOneMore (image : Image) (rows : List (List ℕ)) (places : List ℕ) (rows_then : List (List ℕ))
    (places_then : List ℕ) (class : ℕ) : Type 0 where
  pub count : length rows_then ≡ length rows + 1
  pub places_long : length places_then ≡ length places
  pub others : (other : ℕ) → HasRow image rows places other → HasRow image rows_then places_then other
  pub own : HasRow image rows_then places_then class
  pub fit : (c : ImageClass) → slice_get image.classes class ≡ Some c → contents_fit image c ≡ true

abbrev pub Fitted : Image → List (List ℕ) → List ℕ → List (List ℕ) → List ℕ → ℕ → Bool → Type 0
Fitted image rows places rows_then places_then class true = HasOneMore image rows places rows_then places_then class
Fitted image rows places rows_then places_then class false = first_bytes_fit image ≡ false

-- of the vectors before and after
abbrev pub Left : Image → Vec (List ℕ) → Vec (List ℕ) → Vec ℕ → Vec ℕ → ℕ → Bool → Type 0
Left image rows rows_then places places_then class fit =
    Fitted image rows.items places.items rows_then.items places_then.items class fit
