-- What one instruction does to frames of cells and to the blocks of a pool, and when it may be done.
use Rattle.std.specs.Prelude.{ℕ, ℤ, ◌≡◌, true, length, Result}
use Rattle.sed_engine.specs.declared.call.Place.{Place}
use Rattle.sed_engine.specs.declared.trap.Trap.{Trap}
use Rattle.sed_engine.specs.Values.{Component}
use Rattle.scode_image.specs.declared.image.Image.{Image}
use Rattle.scode_code.specs.Fields.{Setting}
use Rattle.scode_code.specs.TableRules.{tables_agree}
use Rattle.scode_mem.specs.declared.block.Block.TheVariants as block
use Rattle.scode_mem.specs.Blocks.{Held}
use Rattle.scode_state.specs.Stands.{BlocksFit, IsBlock}
pub use Rattle.scode_state.specs.Stands.{KeepsBlocks}
use Rattle.scode_cells.specs.Frames.{Frames, IsRunning, running}
use Rattle.scode_vm.specs.Doings.{Doing, HasRoom, IsTypedOn, ending, point_from, reached}
use Rattle.scode_vm.specs.Seen.{machine_seen, shared_seen}

abbrev pub setting : Image → ℕ → Setting
setting image class = record { image = image; class = class }

-- a root call on a live object of the setting's class, of an image whose tables agree, among blocks that fit
pub record IsGround (w : Setting) (place : Place) (h : Held) : Type 0 where
  pub agree : tables_agree w.image ≡ true
  pub fit : BlocksFit w.image h
  pub block : IsBlock h w.class Component (block.Live place)

-- In some root call on this image, with these blocks, it ends by a value or a trap, and there is room for what it
-- leaves.
pub record MayDoIn (f : Doing) (image : Image) (s : Frames) (h : Held) : Type 0 where
  pub runs : IsRunning s
  pub class : ℕ
  pub place : Place
  pub turns : ℕ
  pub moment : ℤ
  pub ground : IsGround (setting image class) place h
  pub typed : IsTypedOn f (setting image class) place (shared_seen (setting image class) place h turns moment) s
  pub room : HasRoom s.most (length (running s).locals)
      (ending f (setting image class) place s (shared_seen (setting image class) place h turns moment)).result

-- In every root call on this image, with these blocks, in which it is typed, it leads to these frames, or to this trap,
-- and to the blocks that there are now; and a frame runs on, with as much room.
pub record DoesIn (f : Doing) (image : Image) (old : Frames) (before : Held) (result : Result (Unit {0}) Trap)
    (new : Frames) (after : Held) : Type 0 where
  pub leads : (class : ℕ) (place : Place) (turns : ℕ) (moment : ℤ) → IsGround (setting image class) place before
      → IsTypedOn f (setting image class) place (shared_seen (setting image class) place before turns moment) old
      → reached (setting image class) place result new (shared_seen (setting image class) place after turns moment)
      ≡ point_from
      (machine_seen (setting image class) place old (shared_seen (setting image class) place before turns moment))
      (ending f (setting image class) place old (shared_seen (setting image class) place before turns moment))
  pub keeps : (class : ℕ) (place : Place) (turns : ℕ) (moment : ℤ) → IsGround (setting image class) place before
      → IsTypedOn f (setting image class) place (shared_seen (setting image class) place before turns moment) old
      → KeepsBlocks image place before after
  pub runs : IsRunning new
  pub most : new.most ≡ old.most

-- of what does not look at the image itself: on some image, and on each
abbrev pub MayDoInSome : Doing → Frames → Held → Type 0
MayDoInSome f s h = (image : Image) × MayDoIn f image s h

abbrev pub DoesInEach : Doing → Frames → Held → Result (Unit {0}) Trap → Frames → Held → Type 0
DoesInEach f old before result new after = (image : Image) → DoesIn f image old before result new after
