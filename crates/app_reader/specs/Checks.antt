-- Parts of what has to hold of the rows of a file.
use Rattle.std.specs.Prelude.{ℕ, ◌≡◌, ◌<◌, IfSome, List, [], map as map_list, slice_get, Some}
use Rattle.std.specs.List.{IsDistinct}
use Rattle.std.specs.Option.{option_map_or}
use Rattle.std.specs.Str.{bytes_eq}
use Rattle.sed_engine.specs.Code.{Meaning}
use Rattle.app_front.specs.declared.rows.FileRow.{FileRow}
use Rattle.app_reader.specs.FormedFile.{IsAppRow, IsOtherRow}

-- the first row is the App's, and no other is
pub record AreKinds (m : Meaning) (rows : List FileRow) : Type 0 where
  pub app : IfSome (slice_get rows 0) (IsAppRow m)
  pub others : (place : ℕ) → 0 < place → IfSome (slice_get rows place) (IsOtherRow m)

-- the name of the row at a place
abbrev pub name_at : List FileRow → ℕ → List ℕ
name_at rows place = option_map_or (λ (r : FileRow). r.name) (slice_get rows place) []

-- the rows at the places of each list have names that differ
abbrev pub SiblingsDiffer : List FileRow → List (List ℕ) → Type 0
SiblingsDiffer rows lists = (k : ℕ) (list : List ℕ) → slice_get lists k ≡ Some list
    → IsDistinct bytes_eq (map_list (name_at rows) list)
