-- The saves of events on the disk.
use Rattle.std.proofs.Common.{◌≡◌, ◌≤◌, ◌∙◌, ℕ, Bool, true, List, [], ◌∷◌, ◌++◌, refl, sym, ap, subst}
use Rattle.std.proofs.Common.{append_assoc, arith}
use Rattle.std.specs.Prelude.{IsTrue, Option, Some, None}
use Rattle.std.specs.List.{All}
use Rattle.disk_model.specs.Disk.{Elapses, Meaning as DiskMeaning}
use Rattle.app_save.specs.Run.{IsRun, Saves}
use Rattle.sed_engine.specs.Code.{Meaning}
use Rattle.sed_engine.specs.Whole.{IsWhole}
use Rattle.comp_tree.specs.Application.{Application}
use Rattle.comp_tree.specs.Parts.{Kept}
use Rattle.comp_tree.specs.Whole.{Whole}
use Rattle.app_file.specs.Reading.{IsFile}
use Rattle.app_file.specs.Text.{app_text}
use Rattle.node_events.specs.Node.{Node, Setup}
use Rattle.node_events.specs.Running.{Event, IsSavedIn, listed, run}
use Rattle.node_events.specs.Saving.{Save}
use Rattle.sed_node.specs.Handling.{AreFiles, AreSaved, IsFileOf, texts_of}
use Rattle.sed_node.specs.OnDisk.{OnDisk}

pub listed_saved : {D : Type 0} (meaning : D → DiskMeaning) (m : Meaning) (slot : ℕ) (save : Option Save) (old new : D)
    → OnDisk meaning m slot save old new → Elapses (meaning old) (meaning new)
    → AreSaved meaning m slot (listed save) old new
listed_saved meaning m slot None old new on time = on
listed_saved meaning m slot (Some save) old new on time = (new, on, time, refl)

-- the disk's count of faults never falls
pub faults_later : {D : Type 0} (meaning : D → DiskMeaning) (m : Meaning) (slot : ℕ) (save : Option Save) (old new : D)
    → OnDisk meaning m slot save old new → (meaning old).faults ≤ (meaning new).faults
faults_later {D} meaning m slot None old new on =
    subst (λ (disk : D). (meaning old).faults ≤ (meaning disk).faults) (sym on) (omega arith)
faults_later meaning m slot (Some save) old new on = on.cause.later

-- the file that is attached stays
pub attached_stays : {D : Type 0} (meaning : D → DiskMeaning) (m : Meaning) (slot : ℕ) (save : Option Save)
    (old new : D) → OnDisk meaning m slot save old new → (meaning new).attached ≡ (meaning old).attached
attached_stays meaning m slot None old new on = ap (λ disk. (meaning disk).attached) on
attached_stays meaning m slot (Some save) old new on = on.attached

-- in a run of one event nothing comes before it
only_first : (event : Event) (before : List Event) (other : Event) (later : List Event)
    → event ∷ [] ≡ before ++ other ∷ later → before ≡ []
only_first event [] other later e = refl
only_first event (x ∷ []) other later e = absurd cc
only_first event (x ∷ y ∷ before) other later e = absurd cc

-- the save of one event is of what is kept of a whole application, and so its text is a file of that
module _ (m : Meaning) (s : Setup) (n : Node) (event : Event)
    (file : IsWhole m → Whole m n.application
    → IsFile m n.application.components.limit (app_text m n.application) (Kept m n.application))
    (text : IsWhole m → Whole m n.application → app_text m (Kept m n.application) ≡ app_text m n.application)
    (code : IsWhole m) (whole : Whole m n.application) where
  of_kept : IsFileOf m (let save : Save = record { application = Kept m n.application; acknowledged = true } in save)
  of_kept = subst (λ (payload : List ℕ). IsFile m n.application.components.limit payload (Kept m n.application))
      (sym (text code whole)) (file code whole)

  of_saved : (save : Save) → IsSavedIn m s n (event ∷ []) save → IsFileOf m save
  of_saved save saved =
      subst (λ (a : Application). IsFile m a.components.limit (app_text m a) a)
      (sym (saved.kept ∙ ap (λ (events : List Event). Kept m (run m s n events).node.application)
      (only_first event saved.before saved.event saved.later saved.parted)))
      of_kept

  pub files_of_one : (save : Option Save) → All (IsSavedIn m s n (event ∷ [])) (listed save ++ [])
      → AreFiles m (listed save)
  files_of_one None all = tt {0}
  files_of_one (Some save) all = (of_saved save (all 0 save (omega arith)), tt {0})

append_none : (xs : Saves) → xs ++ [] ≡ xs
append_none [] = refl
append_none (x ∷ xs) = ap (λ (rest : Saves). x ∷ rest) (append_none xs)

-- a run of saves goes on by those that were done
module _ {D : Type 0} (meaning : D → DiskMeaning) (m : Meaning) (slot : ℕ) (start : D) (opened : List ℕ) where
  pub saved_go_on : (saves : List Save) (old new : D) (earlier : Saves) → AreSaved meaning m slot saves old new
      → IsTrue (meaning old).tells → IsTrue (meaning old).tells_marks
      → IsRun slot opened earlier (meaning start) (meaning old)
      → IsRun slot opened (earlier ++ texts_of m saves) (meaning start) (meaning new)
  saved_go_on [] old new earlier are told told_marks so_far =
      subst (λ (saves : Saves). IsRun slot opened saves (meaning start) (meaning new)) (sym (append_none earlier))
      (subst (λ (disk : D). IsRun slot opened earlier (meaning start) (meaning disk)) (sym are) so_far)
  saved_go_on (save ∷ saves) old new earlier are told told_marks so_far =
      let one : List ℕ × Bool = (app_text m save.application, save.acknowledged) in
      subst (λ (all : Saves). IsRun slot opened all (meaning start) (meaning new))
      (append_assoc earlier (one ∷ []) (texts_of m saves))
      (saved_go_on saves are.0 new (earlier ++ one ∷ []) are.3 (are.2.told ∙ told) (are.2.told_marks ∙ told_marks)
      (are.1.run told told_marks start opened earlier so_far))
