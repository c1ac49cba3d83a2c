-- The reference that a cell is, on the component that a root call is made on.
use Rattle.std.specs.Prelude.{ℕ, ◌==◌, if◌then◌else◌, Option, Some, None}
use Rattle.std.specs.Option.{option_and_then, option_map}
use Rattle.sed_engine.specs.Values.{Base, Component, Statics, Spot}
use Rattle.sed_engine.specs.declared.call.Place.{Place}
use Rattle.scode_image.specs.declared.image.Image.{Image}
use Rattle.scode_image.specs.declared.image.ImageField.{ImageField}
use Rattle.scode_code.specs.Parts.{Reference, ref_of}
use Rattle.scode_mem.specs.declared.block.Block.{Block}
use Rattle.scode_mem.specs.declared.block.Block.TheVariants as block
use Rattle.scode_cells.specs.declared.cell.Cell.{Cell}
use Rattle.scode_cells.specs.declared.cell.Cell.TheVariants as cell

-- the block of a base: that of the component, which is live at this place, or the static one
abbrev pub block_of : Place → Base → Block
block_of place Component = block.Live place
block_of place Statics = block.Statics

-- and the base of a block; of another component there is none
abbrev pub base_of : Place → Block → Option Base
base_of place (block.Live p) = if p.0 == place.0 then Some Component else None
base_of place block.Statics = Some Statics

abbrev pub reference_to : Place → Block → ImageField → Option Reference
reference_to place b to = option_map (λ base. record { base = base; to = to }) (base_of place b)

-- an object is of form 8 and its class, a Str of form 6 and its size
abbrev pub reference_of : Place → Cell → Option Reference
reference_of place (cell.Object b offset class) = reference_to place b (record { offset = offset; form = 8; n = class })
reference_of place (cell.Str b offset size) = reference_to place b (record { offset = offset; form = 6; n = size })
reference_of place c = None

-- where a cell leads that is a reference, if it leads anywhere
abbrev pub leads_to : Image → ℕ → Place → Cell → Option Spot
leads_to image class place c = option_and_then (ref_of image class) (reference_of place c)
