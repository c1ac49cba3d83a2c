-- What an event makes of the disk: nothing where it begins no save; and what a crash leaves where it begins one.
use Rattle.std.specs.Prelude.{◌≡◌, ◌⊎◌, ℕ, not, IsTrue, if◌then◌else◌, List, [], ◌∷◌, ◌++◌, Option, Some}
use Rattle.std.specs.Prelude.{None}
use Rattle.sed_outside.specs.Cause.{HasCause}
use Rattle.disk_model.specs.Disk.{During, Image, MarksUp, Meaning as DiskMeaning}
use Rattle.app_save.specs.Run.{IsRun, Saves}
use Rattle.app_save.specs.Store.{Opens as OpensTo}
use Rattle.sed_engine.specs.Code.{Meaning}
use Rattle.comp_tree.specs.Application.{Application}
use Rattle.app_file.specs.Opens.{Opens}
use Rattle.app_file.specs.Text.{app_text}
use Rattle.node_events.specs.Saving.{Save}

-- the image is a whole store with slots of so many bytes, and has the payload of some image that a crash could leave at
-- the start: so it opens to whatever application that one opens to
pub record OpensAsBefore (m : Meaning) (limit slot : ℕ) (start : DiskMeaning) (image : Image) : Type 0 where
  pub payload : List ℕ
  pub opens : OpensTo slot image payload
  pub before : Image
  pub left : start.leaves start.now before
  pub opened : OpensTo slot before payload
  pub same : (a : Application) → Opens m limit before a → Opens m limit image a

-- the image opens as before, or to what is kept by the save
abbrev pub OpensAsSaved : Meaning → ℕ → ℕ → Application → DiskMeaning → Image → Type 0
OpensAsSaved m limit slot kept start image = OpensAsBefore m limit slot start image ⊎ Opens m limit image kept

-- a save was begun: one mark, the last thing of all, where it was acknowledged, and else none; a crash at any moment
-- of it leaves an image that opens as before or to what is kept, and once it was acknowledged to what is kept; the file
-- that is attached stays; the disk's count of faults rose where it was not acknowledged, and else stayed; and a run of
-- saves goes on by it
pub record IsSaved {D : Type 0} (meaning : D → DiskMeaning) (m : Meaning) (slot : ℕ) (save : Save) (old new : D)
    : Type 0 where
  pub marks : MarksUp (meaning old) (meaning new) (if save.acknowledged then 1 else 0)
  pub moments : IsTrue (meaning old).tells
      → During (meaning old) (meaning new)
      (OpensAsSaved m save.application.components.limit slot save.application (meaning old))
  pub saved : IsTrue (meaning old).tells → IsTrue save.acknowledged
      → (image : Image) → (meaning new).leaves (meaning new).now image
      → Opens m save.application.components.limit image save.application
  pub attached : (meaning new).attached ≡ (meaning old).attached
  pub cause : HasCause (meaning old).faults (meaning new).faults (IsTrue (not save.acknowledged))
  pub run : IsTrue (meaning old).tells → IsTrue (meaning old).tells_marks
      → (start : D) (opened : List ℕ) (saves : Saves) → IsRun slot opened saves (meaning start) (meaning old)
      → IsRun slot opened (saves ++ (app_text m save.application, save.acknowledged) ∷ []) (meaning start) (meaning new)

-- the disk is the same where no save is begun
abbrev pub OnDisk : {D : Type 0} → (D → DiskMeaning) → Meaning → ℕ → Option Save → D → D → Type 0
OnDisk meaning m slot None old new = new ≡ old
OnDisk meaning m slot (Some save) old new = IsSaved meaning m slot save old new
