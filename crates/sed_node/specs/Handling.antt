-- What handling an entry of a record does: the event that it comes to, done.
use Rattle.std.specs.Prelude.{◌≡◌, ◌≤◌, ℕ, Bool, IsTrue, List, [], ◌∷◌, length, ⊤}
use Rattle.sed_outside.specs.Cause.{Rose}
use Rattle.disk_model.specs.Disk.{Elapses, Meaning as DiskMeaning}
use Rattle.app_save.specs.Run.{Saves}
use Rattle.sed_engine.specs.declared.engine.Engine.{Ghosts}
use Rattle.sed_engine.specs.Code.{Meaning}
use Rattle.app_file.specs.Reading.{IsFile}
use Rattle.app_file.specs.Text.{app_text}
use Rattle.replay_log.specs.Entry.{Entry}
use Rattle.dasp_session.specs.Outbox.{Datagram, Sends}
use Rattle.node_events.specs.Handling.{wrong_in}
use Rattle.node_events.specs.Mishap.{MayHappen, is_no_memory}
use Rattle.node_events.specs.Node.{Node, Setup}
use Rattle.node_events.specs.Running.{Event, IsEvent, comes, one_event, passes}
use Rattle.node_events.specs.Saving.{Save}
use Rattle.sed_node.specs.Doing.{is_heard_to_add}
use Rattle.sed_node.specs.OnDisk.{IsSaved}
use Rattle.sed_node.specs.Standing.{StandsFor}
use Rattle.sed_node.specs.declared.kept.Kept.{Kept}

-- the saves that began were done on a disk, one after another; where none began it is as it was
abbrev pub AreSaved : {D : Type 0} → (D → DiskMeaning) → Meaning → ℕ → List Save → D → D → Type 0
AreSaved meaning m slot [] old new = new ≡ old
AreSaved {D} meaning m slot (save ∷ saves) old new =
    (middle : D) × IsSaved meaning m slot save old middle × Elapses (meaning old) (meaning middle)
    × AreSaved meaning m slot saves middle new

-- its text is a file of what was saved
abbrev pub IsFileOf : Meaning → Save → Type 0
IsFileOf m save = IsFile m save.application.components.limit (app_text m save.application) save.application

abbrev pub AreFiles : Meaning → List Save → Type 0
AreFiles m [] = ⊤
AreFiles m (save ∷ saves) = IsFileOf m save × AreFiles m saves

-- nothing but an add wanted memory
abbrev pub AddsAlone : Event → Type 0
AddsAlone (comes from heard mishap) = IsTrue (is_no_memory mishap) → IsTrue (is_heard_to_add heard)
AddsAlone (passes moment) = ⊤

-- under a setup and a code, which may be fixed or not, an entry was handled as the event that it comes to: the disk's
-- faults were counted before and after it
pub record Handles {E D : Type 0} (g : Ghosts E) (meaning : D → DiskMeaning) (fixed : Bool) (m : Meaning) (s : Setup)
    (new : Kept E) (n : Node) (entry : Entry) (traps : ℕ) (sent : List Datagram) (before after : D) : Type 0 where
  pub event : Event
  pub is_event : IsEvent entry event
  pub may : MayHappen fixed (Rose (meaning before).faults (meaning after).faults) (wrong_in event)
  pub adds_alone : AddsAlone event
  pub stands : StandsFor g new (one_event m s n event).node
  pub sends : Sends (one_event m s n event).sent [] sent
  pub few : length sent ≤ 496
  pub disk : AreSaved meaning m s.slot (one_event m s n event).saves before after
  pub files : AreFiles m (one_event m s n event).saves
  pub traps_are : traps ≡ (one_event m s n event).counts.traps

-- the text of each save, and whether it was acknowledged
abbrev pub texts_of : Meaning → List Save → Saves
texts_of m [] = []
texts_of m (save ∷ saves) = (app_text m save.application, save.acknowledged) ∷ texts_of m saves
