-- What saving an application comes to.
use Rattle.std.specs.Prelude.{◌≡◌, ℕ, true, false, not, IsTrue, if◌then◌else◌, is_ok, List, [], ◌∷◌, ◌++◌, Option, Some}
use Rattle.std.specs.Prelude.{None, Result, Ok, Err, OnOk}
use Rattle.sed_outside.specs.Cause.{HasCause}
use Rattle.disk_model.specs.Disk.{During, MarksUp, Meaning as DiskMeaning}
use Rattle.app_save.specs.Run.{IsRun, Saves}
use Rattle.app_save.specs.Saving.{AllOpen, OpensAsBegun}
use Rattle.app_save.specs.declared.refusal.SaveRefusal.{SaveRefusal}
use Rattle.app_save.specs.declared.refusal.SaveRefusal.TheVariants.{Full}
use Rattle.sed_value.specs.declared.refusal.Refusal.TheVariants.{SaveDevice, StoreFull}
use Rattle.sed_engine.specs.Code.{Meaning}
use Rattle.comp_tree.specs.Application.{Application}
use Rattle.comp_tree.specs.Parts.{Kept}
use Rattle.sox_msg.specs.Answered.{Answered, refused}
use Rattle.node_events.specs.Mishap.{Mishap, disk_failed, nothing_wrong}
use Rattle.node_events.specs.Saving.{Save, saved}

-- the save that has begun: none where the text is longer than a slot
abbrev pub begun : {T : Type 0} → Meaning → Application → Result T SaveRefusal → Option Save
begun m a (Ok done) = Some (record { application = Kept m a; acknowledged = true })
begun m a (Err Full) = None
begun m a (Err refusal) = Some (record { application = Kept m a; acknowledged = false })

-- what is replied to it, and what has gone wrong
abbrev pub reply_to : {T : Type 0} → Result T SaveRefusal → Answered
reply_to (Ok done) = saved
reply_to (Err Full) = refused StoreFull
reply_to (Err refusal) = refused SaveDevice

abbrev pub mishap_in : {T : Type 0} → Result T SaveRefusal → Mishap
mishap_in (Ok done) = nothing_wrong
mishap_in (Err Full) = nothing_wrong
mishap_in (Err refusal) = disk_failed

-- a text was saved, or the disk failed it
pub record IsTextSaved {T D : Type 0} (meaning : D → DiskMeaning) (slot : ℕ) (text : List ℕ)
    (result : Result T SaveRefusal)
    (old new : D) : Type 0 where
  pub marks : MarksUp (meaning old) (meaning new) (if is_ok result then 1 else 0)
  pub moments : IsTrue (meaning old).tells → During (meaning old) (meaning new) (OpensAsBegun slot text (meaning old))
  pub saved : IsTrue (meaning old).tells → OnOk result (AllOpen slot text (meaning new))
  pub attached : (meaning new).attached ≡ (meaning old).attached
  pub cause : HasCause (meaning old).faults (meaning new).faults (IsTrue (not (is_ok result)))
  pub run : IsTrue (meaning old).tells → IsTrue (meaning old).tells_marks
      → (start : D) (opened : List ℕ) (saves : Saves) → IsRun slot opened saves (meaning start) (meaning old)
      → IsRun slot opened (saves ++ (text, is_ok result) ∷ []) (meaning start) (meaning new)

-- and where it was too long, nothing was asked of the disk
abbrev pub SavesText : {T D : Type 0} → (D → DiskMeaning) → ℕ → List ℕ → Result T SaveRefusal → D → D → Type 0
SavesText {T} meaning slot text (Ok done) old new = IsTextSaved {T = T} meaning slot text (Ok done) old new
SavesText {T} meaning slot text (Err Full) old new = new ≡ old
SavesText {T} meaning slot text (Err refusal) old new = IsTextSaved {T = T} meaning slot text (Err refusal) old new
