-- Parts of the blocks of a pool, and what writing them does to all that the blocks hold.
use Rattle.std.specs.Prelude.{ℕ, ◌≡◌, ◌≢◌, ◌+◌, ◌≤◌, true, List, [], length, Option, Some, IsSomeAnd}
use Rattle.std.specs.FinMap as finite
use Rattle.std.specs.Option.{option_map, option_map_or}
use Rattle.sed_value.specs.declared.value.Value.{Value}
use Rattle.sed_typed.specs.declared.program.FieldForm.{FieldForm}
use Rattle.sed_typed.specs.Contents.{Contents, Path, with_value}
use Rattle.sed_wire.specs.Number.{number_of}
use Rattle.sed_engine.specs.declared.call.Place.{Place}
use Rattle.sed_engine.specs.Values.{Base, Component, Statics}
use Rattle.scode_image.specs.declared.image.Image.{Image}
use Rattle.scode_code.specs.Parts.{part_of}
use Rattle.scode_code.specs.TableRules.{tables_agree}
use Rattle.scode_mem.specs.declared.block.Block.{Block}
use Rattle.scode_mem.specs.declared.block.Block.TheVariants as block
use Rattle.scode_mem.specs.Blocks.{Held, bytes_at, bytes_of}
use Rattle.scode_state.specs.Values.{BufsFit, held_in, size_in}

-- a block is the static one, or that of a live component of this class
abbrev pub IsBlock : Held → ℕ → Base → Block → Type 0
IsBlock h class Component (block.Live p) = IsSomeAnd (finite.get h.live p.0) (λ k. k.class ≡ class)
IsBlock h class Statics block.Statics = Unit {0}
IsBlock h class Component block.Statics = ⊥
IsBlock h class Statics (block.Live p) = ⊥

-- it has as many bytes as it begins with, and each Buf in it is within its room
pub record BlockFits (image : Image) (class : ℕ) (base : Base) (h : Held) (b : Block) : Type 0 where
  pub bytes : List ℕ
  pub are : bytes_of h b ≡ Some bytes
  pub whole : length bytes ≡ size_in image class base
  pub fit : BufsFit image class base bytes

-- all blocks do
abbrev pub BlocksFit : Image → Held → Type 0
BlocksFit image h = (class : ℕ) (base : Base) (b : Block) → IsBlock h class base b → BlockFits image class base h b

-- what a block holds by path; a place that is not live holds nothing
abbrev pub contents_in : Image → ℕ → Base → Held → Block → Contents
contents_in image class base h b = option_map_or (held_in image class base) (bytes_of h b) []

-- Of the blocks that there were, the component's own and the static one may hold something else now. All others are as
-- they were, none came or went, and all fit on.
pub record KeepsBlocks (image : Image) (place : Place) (old new : Held) : Type 0 where
  pub fit : BlocksFit image new
  pub others : (b : Block) → b ≢ block.Live place → b ≢ block.Statics → bytes_of new b ≡ bytes_of old b
  pub classes : (q : ℕ) → option_map (λ k. k.class) (finite.get new.live q)
      ≡ option_map (λ k. k.class) (finite.get old.live q)
  pub firsts : new.firsts ≡ old.firsts
  pub limit : new.limit ≡ old.limit

-- in a block a part of this offset and form stands at a path
pub record StandsAt (image : Image) (class : ℕ) (base : Base) (path : Path) (h : Held) (b : Block) (offset : ℕ)
    (f : FieldForm) : Type 0 where
  pub agree : tables_agree image ≡ true
  pub blocks : BlocksFit image h
  pub block : IsBlock h class base b
  pub part : part_of image class base path ≡ Some (offset, f)

-- a block holds another value at a path; all else is as it was, and all blocks fit
pub record IsStored (image : Image) (class : ℕ) (base : Base) (path : Path) (old new : Held) (b : Block) (v : Value)
    : Type 0 where
  pub contents : contents_in image class base new b ≡ with_value (contents_in image class base old b) path v
  pub others : (other : Block) → other ≢ b → bytes_of new other ≡ bytes_of old other
  pub classes : (place : ℕ) → option_map (λ k. k.class) (finite.get new.live place)
      ≡ option_map (λ k. k.class) (finite.get old.live place)
  pub firsts : new.firsts ≡ old.firsts
  pub limit : new.limit ≡ old.limit
  pub blocks : BlocksFit image new

-- a block has a Buf at an offset that has at most so many bytes: all of them stand there
pub record HasBuf (h : Held) (b : Block) (offset most : ℕ) : Type 0 where
  pub bytes : List ℕ
  pub are : bytes_of h b ≡ Some bytes
  pub few : number_of (bytes_at bytes offset 2) ≤ most
  pub there : offset + 2 + number_of (bytes_at bytes offset 2) ≤ length bytes
