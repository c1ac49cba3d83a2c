-- Which files a command writes, and which stay.
use Rattle.std.specs.Prelude.{◌≡◌, ℕ, List, [], ◌∷◌, Option, Some, None, IsSome, Contains}
use Rattle.std.specs.List.{flat_map}
use Rattle.sed_outside.specs.Cause.{Rose}
use Rattle.sed_outside.specs.Files.{KeepsCounts, KeepsOthers}
use Rattle.sed_outside.specs.declared.files.Files.{Ghosts as FileGhosts}
use Rattle.sedona_cli.specs.Outside.{Ask, Reads, Writes, Attaches, Makes, Opens, Binds, Runs, Wrote, Written, Unwritten}
use Rattle.sedona_cli.specs.Outside.{Withheld}

-- ---- which files

-- the names of the files that are written
abbrev pub written_of : Ask → List (List ℕ)
written_of (Reads read) = []
written_of (Writes name bytes how) = name ∷ []
written_of (Attaches name done) = []
written_of (Makes slot payload how) = []
written_of (Opens how) = []
written_of (Binds port done) = []
written_of (Runs ran) = []

abbrev pub written_in : List Ask → List (List ℕ)
written_in asks = flat_map written_of asks

-- the names of the writes that failed
abbrev pub unwritten_by : List ℕ → Wrote → List (List ℕ)
unwritten_by name Written = []
unwritten_by name Unwritten = name ∷ []
unwritten_by name Withheld = []

abbrev pub unwritten_of : Ask → List (List ℕ)
unwritten_of (Reads read) = []
unwritten_of (Writes name bytes how) = unwritten_by name how
unwritten_of (Attaches name done) = []
unwritten_of (Makes slot payload how) = []
unwritten_of (Opens how) = []
unwritten_of (Binds port done) = []
unwritten_of (Runs ran) = []

abbrev pub unwritten_in : List Ask → List (List ℕ)
unwritten_in asks = flat_map unwritten_of asks

-- no count of failed writes of a file rose that is written
abbrev pub DidNotFailToWrite : (List ℕ → ℕ) → (List ℕ → ℕ) → List Ask → Type 0
DidNotFailToWrite before now asks =
    (name : List ℕ) → Contains (written_in asks) name → Rose (before name) (now name) → ⊥

-- ---- what stays

-- no file changes but the output file
abbrev pub KeepsFiles : {S : Type 0} → FileGhosts S → Option (List ℕ) → S → S → Type 0
KeepsFiles F None old new = F.known new ≡ F.known old
KeepsFiles F (Some name) old new = KeepsOthers (F.known old) (F.known new) name

-- no count of failed writes moves but that of the output file; those of files that tell nothing may move with it
abbrev pub KeepsWrites : {S : Type 0} → FileGhosts S → Option (List ℕ) → S → S → Type 0
KeepsWrites F None old new = F.failed_writes new ≡ F.failed_writes old
KeepsWrites F (Some name) old new = KeepsCounts (IsSome (F.known old)) (F.failed_writes old) (F.failed_writes new) name
    (Rose (F.failed_writes old name) (F.failed_writes new name))
