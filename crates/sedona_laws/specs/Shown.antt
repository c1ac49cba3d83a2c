-- What `show` shows.
use Rattle.std.specs.Prelude.{◌≡◌, ℕ, IsTrue, List, Option, Ok}
use Rattle.sed_typed.specs.declared.program.Program.{Program as TheProgram}
use Rattle.sed_outside.specs.Sink.{PutsFront, with_text}
use Rattle.sed_outside.specs.declared.files.Files.{Ghosts as FileGhosts}
use Rattle.disk_model.specs.Disk.{Image, Meaning as Disk}
use Rattle.app_save.specs.Saving.{SinceSync}
use Rattle.sed_engine.specs.Program.{meaning_of}
use Rattle.comp_tree.specs.Application.{Application}
use Rattle.app_file.specs.Opens.{Opens}
use Rattle.printed_app.specs.Application.{application_text}
use Rattle.sed_outside.specs.Reads.{HasReads}
use Rattle.sed_check.specs.Loading.{KitsLoaded}

-- What was put shows this application: its text with status 0, and a front of it where the sink failed. It is the one
-- that the store's file opens to, and from the sync of the opening on every image that a crash may leave opens to it.
pub record Shows (program : TheProgram) (limit : ℕ) (before after : Option (List ℕ)) (status : ℕ)
    (disk disk_now : Disk) (a : Application) : Type 0 where
  pub front : PutsFront before after (application_text (meaning_of program) a)
  pub whole : status ≡ 0 → after ≡ with_text before (application_text (meaning_of program) a)
  pub opens : IsTrue disk.tells → Opens (meaning_of program) limit disk.content a
  pub since : IsTrue disk.tells → IsTrue disk.tells_syncs → SinceSync disk disk_now
      (λ image. Opens (meaning_of program) limit image a)
  pub left : IsTrue disk.tells → (image : Image) → disk_now.leaves disk_now.now image
      → Opens (meaning_of program) limit image a

-- So it is with the application that the store opens to over the program of the kits.
abbrev pub ShowsKept : {S : Type 0} → FileGhosts S → List (List ℕ) → ℕ → S → S → Disk → Disk
    → Option (List ℕ) → Option (List ℕ) → ℕ → Type 0
ShowsKept F names limit files files_now disk disk_now before after status =
    HasReads F files files_now (λ reads. (program : TheProgram) × KitsLoaded names reads (Ok program)
    × (a : Application) × Shows program limit before after status disk disk_now a)

-- The store's file opens to no application over the program of the kits.
abbrev pub OpensToNone : {S : Type 0} → FileGhosts S → List (List ℕ) → ℕ → S → S → Disk → Type 0
OpensToNone F names limit files files_now disk =
    HasReads F files files_now (λ reads. (program : TheProgram) × KitsLoaded names reads (Ok program)
    × ((a : Application) → Opens (meaning_of program) limit disk.content a → ⊥))
