-- What a root call on a live object leaves.
use Rattle.std.specs.Prelude.{◌≡◌, []}
use Rattle.sed_value.specs.declared.value.Value.{Value}
use Rattle.sed_engine.specs.declared.call.CallEnd.{CallEnd}
use Rattle.sed_engine.specs.declared.call.Root.{Root}
use Rattle.sed_engine.specs.Asked.{MayAsk}
use Rattle.scode_code.specs.Faults.{IsVerified}
use Rattle.scode_code.specs.Image.{code_of}
use Rattle.scode_mem.specs.Blocks.{Held}
use Rattle.scode_sound.specs.Rooted.{root_end_of}
use Rattle.scode_cells.specs.Frames.{Frames}
use Rattle.scode_vm.specs.Doings.{HasCells}
use Rattle.scode_access.specs.Within.{IsGround}
use Rattle.scode_engine.specs.AtWork.{Rooted, Running, setting_of}
use Rattle.scode_engine.specs.Loaded.{IsLeftBy}
use Rattle.scode_engine.specs.RootCall.{question_of}

-- This root may be asked with this argument: the image is verified, the object live, all blocks fit, there are cells
-- enough, and no frame runs yet.
pub record IsReady (q : Rooted) (which : Root) (argument : Value) (r : Running) : Type 0 where
  pub verified : IsVerified q.image
  pub ground : IsGround (setting_of q) q.place r.blocks
  pub cells : HasCells q.image r.cells.most
  pub idle : r.cells.frames ≡ []
  pub asked : MayAsk (code_of q.image) (question_of q r which argument)

-- It ends as the definition has it, and leaves what that leaves; no frame runs.
pub record IsAnswered (q : Rooted) (which : Root) (argument : Value) (old : Running) (end : CallEnd) (cells : Frames)
    (blocks : Held) : Type 0 where
  pub end_is : end ≡ (root_end_of q.image (question_of q old which argument)).end
  pub left : IsLeftBy q.image q.class q.place (root_end_of q.image (question_of q old which argument)) old.blocks
      blocks
  pub cells_are : cells ≡ old.cells
