-- A walk over the classes that comes to each behind those that it leads to.
use Rattle.std.specs.Prelude.{◌≡◌, ℕ, ◌-◌, ◌<◌, ◌≤◌, ◌==◌, ◌&&◌, ◌||◌, Bool, true, false, List, length, not, slice_get}
use Rattle.std.specs.Prelude.{slice_index_or, Option, Some, None}
use Rattle.std.specs.List.{list_any, count_by}
use Rattle.std.specs.Option.{option_map_or}
use Rattle.scode_image.specs.declared.image.Image.{Image}
use Rattle.scode_image.specs.declared.image.ImageField.{ImageField}
use Rattle.scode_code.specs.Tables.{class_fields}
use Rattle.scode_code.specs.TableRules.{all_classes, base_stands_before, holds_no_holder, leads_within}

abbrev pub is_told : List Bool → ℕ → Bool
is_told told class = slice_index_or told class false

-- ---- steps

-- a class leads to that of an object field, and to its base
abbrev pub steps_to : Image → ℕ → ℕ → Bool
steps_to image from to =
    list_any (λ f. (f.form == 8) && (f.n == to)) (class_fields image from)
    || option_map_or (λ c. c.base == to) (slice_get image.classes from) false

-- it leads to one in a step and at most so many more
pub record Comes (image : Image) (more from to : ℕ) : Type 0 where
  pub by : ℕ
  pub steps : steps_to image from by ≡ true
  pub leads : leads_within more image to by ≡ true

-- a class that leads back to itself
pub record IsCircle (image : Image) : Type 0 where
  pub class : ℕ
  pub there : class < length image.classes
  pub round : Comes image (length image.classes) class class

-- bases stand before, and no class has the number that says of one that there is none
pub record AreBased (image : Image) : Type 0 where
  pub before : all_classes image base_stands_before ≡ true
  pub few : length image.classes ≤ 65535

-- ---- an order

-- it stands among the first so many
pub record Stands (order : List ℕ) (count class : ℕ) : Type 0 where
  pub place : ℕ
  pub before : place < count
  pub is : slice_index_or order place 0 ≡ class

-- what a class leads to stands before it
pub record IsInOrder (image : Image) (order : List ℕ) : Type 0 where
  pub there : (k : ℕ) → k < length order → slice_index_or order k 0 < length image.classes
  pub behind : (k class : ℕ) → k < length order → steps_to image (slice_index_or order k 0) class ≡ true
      → class < length image.classes → Stands order k class

-- and all of them stand there
pub record IsOrder (image : Image) (order : List ℕ) : Type 0 where
  pub in_order : IsInOrder image order
  pub all : (class : ℕ) → class < length image.classes → Stands order (length order) class
  pub few : length order ≤ length image.classes

-- an order, or none where a class holds itself
abbrev pub IsOrderOf : Image → Option (List ℕ) → Type 0
IsOrderOf image (Some order) = IsOrder image order
IsOrderOf image None = all_classes image (holds_no_holder image) ≡ false

-- ---- how far the walk is

-- how many classes are not begun
abbrev pub unseen : List Bool → ℕ
unseen begun = count_by not begun

-- the classes that are done stand in order
pub record IsWalk (image : Image) (begun done : List Bool) (order : List ℕ) : Type 0 where
  pub begun_long : length begun ≡ length image.classes
  pub done_long : length done ≡ length image.classes
  pub in_order : IsInOrder image order
  pub stand : (class : ℕ) → is_told done class ≡ true → Stands order (length order) class
  pub few : length order ≡ count_by (λ b. b) done

-- a class is within the walk while it is begun and not done; the walk goes on without a change to these
pub record GoesOn (opened closed opened_then closed_then : List Bool) : Type 0 where
  pub fewer : unseen opened_then ≤ unseen opened
  pub begun : (class : ℕ) → is_told opened class ≡ true → is_told opened_then class ≡ true
  pub done : (class : ℕ) → is_told closed class ≡ true → is_told closed_then class ≡ true
  pub within : (class : ℕ) → is_told opened_then class ≡ true → is_told closed_then class ≡ false
      → is_told opened class ≡ true
  pub stays : (class : ℕ) → is_told opened class ≡ true → is_told closed class ≡ false
      → is_told closed_then class ≡ false

-- the classes within the walk lead to this one
abbrev pub IsOnWay : Image → List Bool → List Bool → ℕ → Type 0
IsOnWay image begun done class = (within : ℕ) → is_told begun within ≡ true → is_told done within ≡ false
    → Comes image (length image.classes - unseen begun) within class

-- a class is done, if it is there
abbrev pub IsDone : Image → List Bool → ℕ → Type 0
IsDone image done class = class < length image.classes → is_told done class ≡ true

-- the same of the class of an object field
abbrev pub IsFieldOnWay : Image → List Bool → List Bool → ImageField → Type 0
IsFieldOnWay image begun done f = f.form ≡ 8 → IsOnWay image begun done f.n

abbrev pub IsFieldDone : Image → List Bool → ImageField → Type 0
IsFieldDone image done f = f.form ≡ 8 → IsDone image done f.n

-- and of those of fields
abbrev pub AreOnWay : Image → List Bool → List Bool → List ImageField → Type 0
AreOnWay image begun done fields = (i : ℕ) (d : ImageField) → i < length fields
    → IsFieldOnWay image begun done (slice_index_or fields i d)

abbrev pub AreDone : Image → List Bool → List ImageField → Type 0
AreDone image done fields = (i : ℕ) (d : ImageField) → i < length fields
    → IsFieldDone image done (slice_index_or fields i d)
