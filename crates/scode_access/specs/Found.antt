-- What instructions find in blocks.
use Rattle.std.specs.Prelude.{ℕ, ◌≡◌, ◌+◌, ◌*◌, ◌<◌, ◌≤◌, ◌^◌, Some, None}
use Rattle.sed_value.specs.declared.slot_type.Primitive.{Primitive}
use Rattle.sed_value.specs.SlotType.{width_of}
use Rattle.sed_typed.specs.declared.program.FieldForm.{FieldForm}
use Rattle.sed_typed.specs.declared.program.FieldForm.TheVariants as form
use Rattle.sed_typed.specs.Contents.{value_at}
use Rattle.sed_engine.specs.declared.call.Place.{Place}
use Rattle.sed_engine.specs.State.{State}
use Rattle.sed_engine.specs.Steps.{inside}
use Rattle.sed_engine.specs.Values.{Spot}
use Rattle.scode_image.specs.declared.image.ImageField.{ImageField}
use Rattle.scode_code.specs.Fields.{Setting, buf_at, buf_number, field_at, fields_at}
use Rattle.scode_code.specs.Tables.{field_number, form_of}
use Rattle.scode_mem.specs.declared.block.Block.{Block}
use Rattle.scode_mem.specs.Blocks.{HasBytes, Held}
use Rattle.scode_cells.specs.declared.cell.Cell.{Cell}
use Rattle.scode_cells.specs.declared.cell.Cell.TheVariants as cell
use Rattle.scode_state.specs.References.{block_of}
use Rattle.scode_state.specs.Stands.{HasBuf, StandsAt, contents_in}
use Rattle.scode_state.specs.Values.{part_width}
use Rattle.scode_vm.specs.Seen.{spot_in, val_of}
use Rattle.scode_vm.specs.Doings.{EndsTyped}
use Rattle.scode_access.specs.Tops.{IsObject}
use Rattle.scode_access.specs.Within.{IsGround}

-- where a part of a form stands in a block: its bytes are there
pub record Standing (w : Setting) (place : Place) (h : Held) (b : Block) (at : ℕ) (spot : Spot) (f : FieldForm)
    : Type 0 where
  pub block : b ≡ block_of place spot.base
  pub stands : StandsAt w.image w.class spot.base spot.path h b at f
  pub has : HasBytes h b at (part_width w.image f)
  pub reach : at + part_width w.image f < 2 ^ 16

-- the field of an object whose reference is a cell
pub record FieldFound (w : Setting) (place : Place) (h : Held) (b : Block) (start class : ℕ) (to : ImageField)
    : Type 0 where
  pub spot : Spot
  pub leads : spot_in w place (cell.Object b start class) ≡ Some spot
  pub number : ℕ
  pub found : field_number (fields_at w spot) to.form to.offset to.n ≡ Some number
  pub standing : Standing w place h b (start + to.offset) (inside spot number) (form_of to)

-- and the Buf at an offset of it, with its room
pub record BufFound (w : Setting) (place : Place) (h : Held) (b : Block) (start class offset : ℕ) : Type 0 where
  pub spot : Spot
  pub leads : spot_in w place (cell.Object b start class) ≡ Some spot
  pub number : ℕ
  pub found : buf_number (fields_at w spot) offset ≡ Some number
  pub room : ℕ
  pub standing : Standing w place h b (start + offset) (inside spot number) (form.Buf room)

-- ---- what the laws say

-- what leads to a field is a reference to an object
abbrev pub FieldsAreOfObjects : Type 0
FieldsAreOfObjects = (w : Setting) (place : Place) (c : Cell) (form offset n : ℕ) (s : State)
    → EndsTyped (field_at w (val_of w place c) form offset n s).result → IsObject c

abbrev pub FieldsAreFound : Type 0
FieldsAreFound = (w : Setting) (place : Place) (h : Held) (b : Block) (start class : ℕ) (to : ImageField) (s : State)
    → IsGround w place h
    → EndsTyped (field_at w (val_of w place (cell.Object b start class)) to.form to.offset to.n s).result
    → FieldFound w place h b start class to

abbrev pub BufsAreOfObjects : Type 0
BufsAreOfObjects = (w : Setting) (place : Place) (c : Cell) (offset : ℕ) (s : State)
    → EndsTyped (buf_at w (val_of w place c) offset s).result → IsObject c

abbrev pub BufsAreFound : Type 0
BufsAreFound = (w : Setting) (place : Place) (h : Held) (b : Block) (start class offset : ℕ) (s : State)
    → IsGround w place h → EndsTyped (buf_at w (val_of w place (cell.Object b start class)) offset s).result
    → BufFound w place h b start class offset

-- an element of an array stands in it
abbrev pub ElementsStand : Type 0
ElementsStand = (w : Setting) (place : Place) (h : Held) (b : Block) (at : ℕ) (spot : Spot) (p : Primitive) (n i : ℕ)
    → IsGround w place h → Standing w place h b at spot (form.Array p n) → i < n
    → Standing w place h b (at + i * width_of p) (inside spot i) (form.Prim p)

-- a Buf has no more bytes than there is room for, and all of them stand there
abbrev pub BufsAreWhole : Type 0
BufsAreWhole = (w : Setting) (place : Place) (h : Held) (b : Block) (at : ℕ) (spot : Spot) (n : ℕ)
    → Standing w place h b at spot (form.Buf n) → HasBuf h b at n

-- the cell that says of a part where it stands leads to it; and a Str has some bytes, and at most 255
abbrev pub ObjectsAreLedTo : Type 0
ObjectsAreLedTo = (w : Setting) (place : Place) (h : Held) (b : Block) (at class : ℕ) (spot : Spot) → IsGround w place h
    → Standing w place h b at spot (form.Object (record { 0 = class }))
    → spot_in w place (cell.Object b at class) ≡ Some spot

abbrev pub StrsAreLedTo : Type 0
StrsAreLedTo = (w : Setting) (place : Place) (h : Held) (b : Block) (at size : ℕ) (spot : Spot) → IsGround w place h
    → Standing w place h b at spot (form.Str size)
    → (1 ≤ size) × (size ≤ 255) × (spot_in w place (cell.Str b at size) ≡ Some spot)

-- a reference to a Str that leads somewhere leads to one that stands there; and at an object no value stands
abbrev pub StrsAreFound : Type 0
StrsAreFound = (w : Setting) (place : Place) (h : Held) (b : Block) (at size : ℕ) (spot : Spot) → IsGround w place h
    → spot_in w place (cell.Str b at size) ≡ Some spot → Standing w place h b at spot (form.Str size)

abbrev pub ObjectsAreNotRead : Type 0
ObjectsAreNotRead = (w : Setting) (place : Place) (h : Held) (b : Block) (at class : ℕ) (spot : Spot)
    → IsGround w place h → spot_in w place (cell.Object b at class) ≡ Some spot
    → value_at (contents_in w.image w.class spot.base h (block_of place spot.base)) spot.path ≡ None
