-- What a command writes into a file, and what that does to the files.
use Rattle.std.specs.Prelude.{◌≡◌, ℕ, List, [], ◌∷◌, ◌++◌, Option, Some, None, IsSome}
use Rattle.sed_outside.specs.Cause.{HasCause}
use Rattle.sed_outside.specs.Files.{KeepsCounts, KeepsOthers, WritesFile}
use Rattle.sed_outside.specs.declared.files.Files.{Ghosts as FileGhosts}
use Rattle.disk_model.specs.declared.disk.Disk.{Ghosts as DiskGhosts}
use Rattle.sed_outside.specs.Reads.{HasReads}
use Rattle.sedona_cli.specs.Outside.{Ask, Writes, Wrote, Written, Unwritten, HasAsks, of_reads}

-- ---- the files before and after

-- Bytes were written into the file of a name, which holds them where that was done and else may hold any. Each other
-- file stays, and so do the counts of failed reads.
pub record IsWritten {S : Type 0} (F : FileGhosts S) (name bytes : List ℕ) (how : Wrote) (old new : S) : Type 0 where
  pub told : how ≡ Written → WritesFile (F.known new) name bytes
  pub others : KeepsOthers (F.known old) (F.known new) name
  pub cause : HasCause (F.failed_writes old name) (F.failed_writes new name) (how ≡ Unwritten)
  pub counts : KeepsCounts (IsSome (F.known old)) (F.failed_writes old) (F.failed_writes new) name (how ≡ Unwritten)
  pub reads : F.failed_reads new ≡ F.failed_reads old

-- No file was written; or the file of a name was, once.
pub data HasWrite {S : Type 0} (F : FileGhosts S) (name : List ℕ) (old new : S) (Holds : List Ask
    → Type 0) : Type 0 where
  nothing : new ≡ old → Holds [] → HasWrite F name old new Holds
  once : (bytes : List ℕ) (how : Wrote) → IsWritten F name bytes how old new → Holds (Writes name bytes how ∷ [])
      → HasWrite F name old new Holds

-- Files were read, and then the file of a name was written, once, or none was.
abbrev pub HasOutput : {S : Type 0} → FileGhosts S → List ℕ → S → S → (List Ask → Type 0) → Type 0
HasOutput {S} F name files files_now Holds = (middle : S) × HasReads F files middle (λ reads.
    HasWrite F name middle files_now (λ writes. Holds (of_reads reads ++ writes)))

-- This was asked of files and of a disk by a command with this output file: without one no file changes, and with one
-- no other does, and the disk is left.
abbrev pub AsksOf : {S T : Type 0} → FileGhosts S → DiskGhosts T → Option (List ℕ) → S → S → T → T → (List Ask → Type 0)
    → Type 0
AsksOf F D None files files_now disk disk_now Holds = HasAsks F D files files_now disk disk_now Holds
AsksOf F D (Some name) files files_now disk disk_now Holds =
    (disk_now ≡ disk) × HasOutput F name files files_now Holds
