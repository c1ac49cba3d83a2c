-- Slots of images, and the fields behind them.
use Rattle.std.specs.Prelude.{ℕ, ◌==◌, ◌&&◌, ◌||◌, not, nat_le, Bool, if◌then◌else◌, length, slice_get}
use Rattle.std.specs.Prelude.{Option}
use Rattle.std.specs.List.{list_all}
use Rattle.std.specs.Option.{option_and_then}
use Rattle.sed_value.specs.Names.{is_kit_name, is_word}
use Rattle.sed_value.specs.declared.slot_type.SlotType.{SlotType}
use Rattle.sed_value.specs.declared.slot_type.SlotType.TheVariants.{Prim, Buf}
use Rattle.sed_typed.specs.Contents.{Path}
use Rattle.sed_engine.specs.Values.{Component}
use Rattle.scode_image.specs.declared.image.Image.{Image}
use Rattle.scode_image.specs.declared.image.ImageClass.{ImageClass}
use Rattle.scode_image.specs.declared.image.ImageField.{ImageField}
use Rattle.scode_image.specs.declared.image.ImageKit.{ImageKit}
use Rattle.scode_image.specs.declared.image.ImageSlot.{ImageSlot}
use Rattle.scode_code.specs.Tables.{form_of, primitive_of}
use Rattle.scode_mem.specs.declared.block.Block.{Block}
use Rattle.scode_mem.specs.Blocks.{Held}
use Rattle.scode_state.specs.Stands.{StandsAt}

-- ---- what a schema can tell

-- a kit, a slot and a class with names of their forms, and with numbers that a schema has room for
abbrev pub may_be_kit : ImageKit → Bool
may_be_kit k = is_kit_name k.name

abbrev pub is_buf : ℕ → Bool
is_buf form = form == 7

abbrev pub may_be_slot : ImageSlot → Bool
may_be_slot s = is_word s.name && (not (is_buf s.form) || nat_le s.n 128)

abbrev pub may_be_class : ImageClass → Bool
may_be_class c = is_word c.name && list_all may_be_slot c.slots && nat_le (length c.contents) 65535

-- ---- slots and their fields

-- a slot of a class
abbrev pub slot_at : Image → ℕ → ℕ → Option ImageSlot
slot_at image class n = option_and_then (λ c. slice_get c.slots n) (slice_get image.classes class)

-- the field that a property has
abbrev pub field_of : ImageSlot → ImageField
field_of s = record { offset = s.place; form = s.form; n = s.n }

-- a field that a property may have: a primitive, or a Buf of at most 128 bytes
abbrev pub is_held : ImageField → Bool
is_held f = nat_le f.form 5 || (is_buf f.form && nat_le f.n 128)

-- the type of the property
abbrev pub type_of : ImageField → SlotType
type_of f = if is_buf f.form then Buf f.n else Prim (primitive_of f.form)

-- in the block of a live object a field stands at its offset
pub record IsPart (image : Image) (h : Held) (b : Block) (f : ImageField) : Type 0 where
  pub class : ℕ
  pub path : Path
  pub stands : StandsAt image class Component path h b f.offset (form_of f)
