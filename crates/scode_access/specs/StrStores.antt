-- What stands in a Str that may be changed.
use Rattle.std.specs.Prelude.{ℕ, ◌≡◌, List, length, Some}
use Rattle.sed_value.specs.declared.value.Value.TheVariants as kept
use Rattle.sed_typed.specs.declared.program.FieldForm.TheVariants as form
use Rattle.sed_typed.specs.Contents.{value_at}
use Rattle.sed_engine.specs.declared.call.Place.{Place}
use Rattle.sed_engine.specs.Values.{Spot}
use Rattle.scode_code.specs.Fields.{Setting}
use Rattle.scode_mem.specs.declared.block.Block.{Block}
use Rattle.scode_mem.specs.Blocks.{Held, bytes_at, bytes_of}
use Rattle.scode_state.specs.Stands.{contents_in}
use Rattle.scode_access.specs.Found.{Standing}

-- a Str is as many bytes of its block as its size says, and they are what the block holds at its path
pub record StrHeld (w : Setting) (h : Held) (b : Block) (at size : ℕ) (spot : Spot) : Type 0 where
  pub bytes : List ℕ
  pub are : bytes_of h b ≡ Some bytes
  pub long : length (bytes_at bytes at size) ≡ size
  pub value : value_at (contents_in w.image w.class spot.base h b) spot.path ≡ Some (kept.Buf (bytes_at bytes at size))

abbrev pub StrsHoldBytes : Type 0
StrsHoldBytes = (w : Setting) (place : Place) (h : Held) (b : Block) (at size : ℕ) (spot : Spot)
    → Standing w place h b at spot (form.Str size) → StrHeld w h b at size spot
