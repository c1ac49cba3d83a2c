-- Names for parts of the rule's definitions.
use Rattle.std.specs.Prelude.{ℕ, ◌+◌, ◌-◌, ◌*◌, ◌==◌, ◌&&◌, ◌||◌, nat_le, not, Bool, true, false, if◌then◌else◌, List}
use Rattle.std.specs.Prelude.{filter, length, slice_get, slice_index_or, sum_by, nat_lt, Some, ◌≡◌, ◌<◌}
use Rattle.std.specs.List.{list_all, range_with_len}
use Rattle.std.specs.Option.{option_and_then, option_map_or}
use Rattle.sed_value.specs.SlotType.{width_of}
use Rattle.sed_typed.specs.Sizes.{value_size}
use Rattle.sed_wire.specs.Number.{number_of}
use Rattle.scode_image.specs.declared.image.Image.{Image}
use Rattle.scode_image.specs.declared.image.ImageClass.{ImageClass}
use Rattle.scode_image.specs.declared.image.ImageField.{ImageField}
use Rattle.scode_image.specs.declared.image.ImageSlot.{ImageSlot}
use Rattle.scode_code.specs.Contents.{bytes_at}
use Rattle.scode_code.specs.Tables.{primitive_of, slot_form}
use Rattle.scode_code.specs.TableRules.{field_width, fields_lie_apart, has_class, may_be_inline, n_is_of_form, none_or}
use Rattle.scode_code.specs.TableRules.{numbers_in_kit, object_fields_are_there, objects_may_be_inline}

-- ---- fields

abbrev pub object_is_there : Image → ImageField → Bool
object_is_there image f = not (f.form == 8) || has_class image f.n

abbrev pub object_may_be_inline : Image → ImageField → Bool
object_may_be_inline image f =
    not (f.form == 8) || none_or (option_and_then (λ c. Some (may_be_inline c)) (slice_get image.classes f.n))

abbrev pub array_width : ℕ → ℕ → ℕ
array_width form count = count * width_of (primitive_of (form - 8))

abbrev pub object_width : Image → ℕ → ℕ
object_width image class = option_map_or (λ c. length c.contents) (slice_get image.classes class) 0

-- ends before a place
abbrev pub ends_by : ℕ → ℕ → ℕ → Bool
ends_by offset width place = nat_le (offset + width) place

abbrev pub lies_within : Image → ℕ → ImageField → Bool
lies_within image size f = nat_le (f.offset + field_width image f) size

abbrev pub are_of_class_and_count : Image → List ImageField → Bool
are_of_class_and_count image fields =
    object_fields_are_there image fields
    && objects_may_be_inline image fields
    && list_all n_is_of_form fields

-- fields without their first bytes
abbrev pub fields_are_laid : Image → ℕ → List ImageField → Bool
fields_are_laid image size fields = are_of_class_and_count image fields && fields_lie_apart image size fields

abbrev pub has_width : Image → ImageField → Bool
has_width image f = nat_le 1 (field_width image f)

-- ---- bytes that fields take

abbrev pub is_taken : List Bool → ℕ → Bool
is_taken taken at = slice_index_or taken at false

abbrev pub are_free : List Bool → ℕ → ℕ → Bool
are_free taken from count = list_all (λ at. not (is_taken taken at)) (range_with_len from count)

-- from one to another, beside those that were
pub record AreTaken (old new : List Bool) (from to : ℕ) : Type 0 where
  pub long : length new ≡ length old
  pub is : (at : ℕ) → is_taken new at ≡ ((nat_le from at && nat_lt at to) || is_taken old at)

-- each byte of an array of bools is at most 2
abbrev pub bools_fit : ℕ → List ℕ → ℕ → Bool
bools_fit n bytes offset = list_all (λ i. nat_le (number_of (bytes_at bytes (offset + i) 1)) 2) (range_with_len 0 n)

-- ---- limits

-- the bytes of a slot's value as it is written out
abbrev pub slot_value_size : ImageSlot → ℕ
slot_value_size s = value_size (slot_form s)

abbrev pub is_config : ImageSlot → Bool
is_config s = nat_le s.form 7 && (s.config == 1)

-- the bytes of a slot's value, among the values that the application file keeps, or among the others
abbrev pub counted : Bool → ImageSlot → ℕ
counted true s = if is_config s then slot_value_size s else 0
counted false s = if is_config s then 0 else slot_value_size s

abbrev pub values_size : Bool → List ImageSlot → ℕ
values_size config slots = sum_by (counted config) slots

abbrev pub kits_keep_limits : Image → Bool
kits_keep_limits image =
    list_all (λ kit. nat_le (length (numbers_in_kit image kit)) 64) (range_with_len 0 (length image.kits))

-- the limits of a class but for the sizes of its values
abbrev pub counts_keep_limits : Image → ℕ → ImageClass → Bool
counts_keep_limits image class c =
    nat_le (length c.contents) 65535
    && nat_le (length c.slots) 64
    && nat_le (length c.table) 255
    && nat_le (length (filter (λ m. m.class == class) image.methods)) 60

-- how many methods a class declares
abbrev pub declared : Image → ℕ → ℕ
declared image class = length (filter (λ m. m.class == class) image.methods)

-- told of each class
pub record AreCounts (counts : List ℕ) (image : Image) : Type 0 where
  pub is : (class : ℕ) → class < length image.classes → slice_index_or counts class 0 ≡ declared image class

abbrev pub kits_are_few : Image → Bool
kits_are_few image =
    nat_le (length image.kits) 16
    && kits_keep_limits image
    && nat_le (length image.texts) 4096
    && nat_le (length image.static_bytes) 65535
