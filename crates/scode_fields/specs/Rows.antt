-- Rows that tell of each byte of data how great it may be at most.
use Rattle.std.specs.Prelude.{◌≡◌, ℕ, ◌+◌, ◌<◌, ◌≤◌, ◌&&◌, nat_le, Bool, true, List, [], drop, length, min}
use Rattle.std.specs.Prelude.{slice_index_or, slice_set}
use Rattle.std.specs.List.{list_all, zip}
use Rattle.scode_image.specs.declared.image.Image.{Image}
use Rattle.scode_image.specs.declared.image.ImageField.{ImageField}
use Rattle.scode_code.specs.TableRules.{field_fits, field_width, n_is_of_form, object_fits}
use Rattle.scode_fields.specs.Words.{object_width}

-- of a limit and a byte
abbrev pub is_under : ℕ × ℕ → Bool
is_under pair = nat_le pair.1 pair.0

abbrev pub below : List ℕ → List ℕ → Bool
below row bytes = list_all is_under (zip row bytes)

abbrev pub lowered : List ℕ → ℕ → ℕ → List ℕ
lowered row at most = slice_set row at (min (slice_index_or row at 0) most)

-- bytes, and so many of them at least
pub record Spans (size : ℕ) (bytes : List ℕ) : Type 0 where
  pub small : (k : ℕ) → slice_index_or bytes k 0 ≤ 255
  pub long : size ≤ length bytes

-- a row that is lowered tells what a test asks, too
pub record Lowers (old new : List ℕ) (test : List ℕ → Bool) : Type 0 where
  pub long : length new ≡ length old
  pub is : (bytes : List ℕ) → Spans (length old) bytes → below new bytes ≡ (below old bytes && test bytes)

-- the same of limits that stand from a byte on
abbrev pub LowersFrom : List ℕ → List ℕ → List ℕ → ℕ → Type 0
LowersFrom old new mosts from = Lowers old new (λ bytes. below mosts (drop from bytes))

-- a row tells just what a test asks
pub record Tells (row : List ℕ) (test : List ℕ → Bool) : Type 0 where
  pub is : (bytes : List ℕ) → Spans (length row) bytes → below row bytes ≡ test bytes

-- ---- fields

-- a field lies in data of a size, and its n is of its form
pub record IsLaid (image : Image) (size : ℕ) (f : ImageField) : Type 0 where
  pub within : f.offset + field_width image f ≤ size
  pub of_form : n_is_of_form f ≡ true

abbrev pub AreLaid : Image → ℕ → List ImageField → Type 0
AreLaid image size fields = (i : ℕ) (d : ImageField) → i < length fields → IsLaid image size (slice_index_or fields i d)

-- the row of a class, where objects are gone into as deep as there are rows, or deeper
abbrev pub row_at : List (List ℕ) → List ℕ → ℕ → List ℕ
row_at rows places class = slice_index_or rows (slice_index_or places class 0) []

pub record HasRow (image : Image) (rows : List (List ℕ)) (places : List ℕ) (class : ℕ) : Type 0 where
  pub there : slice_index_or places class 0 < length rows
  pub long : length (row_at rows places class) ≡ object_width image class
  pub tells : (depth : ℕ) → length rows ≤ depth → Tells (row_at rows places class) (object_fits depth image class)

abbrev pub HasFieldRow : Image → List (List ℕ) → List ℕ → ImageField → Type 0
HasFieldRow image rows places f = f.form ≡ 8 → HasRow image rows places f.n

abbrev pub HaveRows : Image → List (List ℕ) → List ℕ → List ImageField → Type 0
HaveRows image rows places fields = (i : ℕ) (d : ImageField) → i < length fields
    → HasFieldRow image rows places (slice_index_or fields i d)

abbrev pub field_test : ℕ → Image → ImageField → List ℕ → Bool
field_test depth image f bytes = field_fits (object_fits depth image) bytes f

abbrev pub fields_test : ℕ → Image → List ImageField → List ℕ → Bool
fields_test depth image fields bytes = list_all (field_fits (object_fits depth image) bytes) fields

-- a row that is lowered tells of a field too, and of fields, where objects are gone into so deep or deeper
abbrev pub LowersByField : Image → ℕ → List ℕ → List ℕ → ImageField → Type 0
LowersByField image least old new f = (depth : ℕ) → least ≤ depth → Lowers old new (field_test depth image f)

abbrev pub LowersByFields : Image → ℕ → List ℕ → List ℕ → List ImageField → Type 0
LowersByFields image least old new fields = (depth : ℕ) → least ≤ depth
    → Lowers old new (fields_test depth image fields)

-- a row tells just of fields
abbrev pub TellsFields : Image → ℕ → List ℕ → List ImageField → Type 0
TellsFields image least row fields = (depth : ℕ) → least ≤ depth → Tells row (fields_test depth image fields)

-- each class has its row
abbrev pub AllHaveRows : Image → List (List ℕ) → List ℕ → Type 0
AllHaveRows image rows places = (class : ℕ) → class < length image.classes → HasRow image rows places class
