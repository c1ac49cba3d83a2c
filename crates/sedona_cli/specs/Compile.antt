-- What `compile` comes to, and what it leaves.
use Rattle.std.specs.Prelude.{ℕ, List, Result, Ok}
use Rattle.sed_typed.specs.declared.program.Program.{Program as TheProgram}
use Rattle.sed_outside.specs.Files.{WritesFile}
use Rattle.sed_outside.specs.declared.files.Files.{Ghosts as FileGhosts}
use Rattle.scode_compile.specs.Compiled.{IsImageOf}
use Rattle.sed_outside.specs.Steps.{AndThen}
use Rattle.sed_outside.specs.Reads.{HasReads}
use Rattle.sedona_cli.specs.declared.refusal.Refusal.{Refusal}
use Rattle.sedona_cli.specs.Outside.{Ask}
use Rattle.sedona_cli.specs.Steps.{AfterKits, FileWritten, KitsGenerated}

-- The text of a verified image that carries the program is written into the file of a name.
abbrev pub ImageWritten : List ℕ → TheProgram → List Ask → Result (List ℕ) Refusal → Type 0
ImageWritten out program asks end = (bytes : List ℕ) × IsImageOf program bytes × FileWritten out bytes asks end

abbrev pub CompileComes : List ℕ → List (List ℕ) → List Ask → Result (List ℕ) Refusal → Type 0
CompileComes out names = AndThen (AfterKits names) (ImageWritten out)

-- What it leaves once it is done: where the files tell what they hold, the output file has exactly the bytes of an
-- image that carries the program of what the files gave.
abbrev pub LeavesImage : {S : Type 0} → FileGhosts S → List ℕ → List (List ℕ) → S → S → Type 0
LeavesImage {S} F out names files files_now = (middle : S) × HasReads F files middle (λ reads. (program : TheProgram)
    × KitsGenerated names reads (Ok program)
    × ((bytes : List ℕ) × IsImageOf program bytes × WritesFile (F.known files_now) out bytes))
