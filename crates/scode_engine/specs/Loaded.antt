-- The objects that the blocks of a pool are, and what is true of them between root calls.
use Rattle.std.specs.Prelude.{ℕ, ◌≡◌, map, IfSome}
use Rattle.std.specs.FinMap as finite
use Rattle.sed_value.specs.Mapped.{map_values}
use Rattle.sed_typed.specs.Contents.{Contents}
use Rattle.sed_engine.specs.declared.call.Place.{Place}
use Rattle.sed_engine.specs.Code.{Object, Places}
use Rattle.sed_engine.specs.Fits.{Fits}
use Rattle.sed_engine.specs.Root.{RootEnd}
use Rattle.sed_engine.specs.Values.{Component, Statics}
use Rattle.sed_engine.specs.Whole.{IsObject}
use Rattle.scode_image.specs.declared.image.Image.{Image}
use Rattle.scode_code.specs.Contents.{held, statics_held}
use Rattle.scode_code.specs.Faults.{IsVerified}
use Rattle.scode_code.specs.Image.{meaning_of}
use Rattle.scode_mem.specs.declared.block.Block.TheVariants as block
use Rattle.scode_mem.specs.Blocks.{Held, Kept}
use Rattle.scode_state.specs.Stands.{BlocksFit, KeepsBlocks, contents_in}

-- ---- objects

-- the object that a live block is
abbrev pub object_in : Image → Kept → Object
object_in image k = record { class = k.class; contents = held image k.class k.bytes }

-- the live places, with the object at each
abbrev pub live_of : Image → Held → Places
live_of image h = map_values (object_in image) h.live

-- what the static block holds
abbrev pub statics_of : Image → Held → Contents
statics_of image h = statics_held image h.statics

-- ---- between root calls

-- The image breaks no rule, new blocks begin as its classes say, all blocks fit, each live one is an object of a class
-- of which components are made, and the static one is as its fields say.
pub record IsLoaded (image : Image) (h : Held) : Type 0 where
  pub verified : IsVerified image
  pub firsts : h.firsts ≡ map (λ c. c.contents) image.classes
  pub blocks : BlocksFit image h
  pub objects : (place : ℕ) → IfSome (finite.get (live_of image h) place) (IsObject (meaning_of image))
  pub statics : Fits (meaning_of image).fields (meaning_of image).static_fields (meaning_of image).initial_statics
      (statics_of image h)

-- ---- root calls

-- A root call on an object of a class at a place left these blocks: its own and the static one hold what the call
-- leaves, and the others are as they were.
pub record IsLeftBy (image : Image) (class : ℕ) (place : Place) (e : RootEnd) (old new : Held) : Type 0 where
  pub keeps : KeepsBlocks image place old new
  pub contents : contents_in image class Component new (block.Live place) ≡ e.contents
  pub statics : contents_in image class Statics new block.Statics ≡ e.statics
