-- A node that is booted from the image of kits, beside the same node run over the kits.
use Rattle.std.specs.Prelude.{◌≡◌, ◌⊎◌, ℕ, List, ◌∷◌, ◌++◌, Some, IsSomeAnd, Ok}
use Rattle.sed_typed.specs.declared.program.Program.{Program as TheProgram}
use Rattle.sed_engine.specs.Program.{meaning_of}
use Rattle.sed_outside.specs.Cause.{Rose}
use Rattle.sed_outside.specs.Reads.{AreGiven, HasReads}
use Rattle.sed_outside.specs.Steps.{Read}
use Rattle.sed_outside.specs.declared.files.Files.{Ghosts as FileGhosts}
use Rattle.sed_outside.specs.declared.clock.Clock.{Ghosts as ClockGhosts}
use Rattle.sed_outside.specs.declared.link.Link.{Ghosts as LinkGhosts}
use Rattle.sed_outside.specs.declared.sink.Sink.{Ghosts as SinkGhosts}
use Rattle.disk_model.specs.declared.disk.Disk.{Ghosts as DiskGhosts}
use Rattle.scode_compile.specs.Compiled.{IsImageOf}
use Rattle.sedona_words.specs.Command.{OfKits, Run, RunAsked}
use Rattle.sedona_cli.specs.declared.refusal.Refusal.TheVariants.{FileFault}
use Rattle.sedona_cli.specs.Does.{Does}
use Rattle.sedona_cli.specs.Given.{Given}
use Rattle.sedona_cli.specs.Lines.{line_of}
use Rattle.sedona_cli.specs.Outside.{of_reads}
use Rattle.sedona_cli.specs.Puts.{Puts}
use Rattle.sedona_cli.specs.Run.{RunInputsRead, RunsKept}
use Rattle.sedona_cli.specs.Steps.{KitsGenerated}
use Rattle.sedona_cli.specs.World.{World}

-- The files tell what they hold, before and now, and the file of this name holds now what it held before.
abbrev pub SameFile : {S : Type 0} → FileGhosts S → List ℕ → S → S → Type 0
SameFile F name before now =
    IsSomeAnd (F.known before) (λ was. IsSomeAnd (F.known now) (λ is. is name ≡ was name))

-- the same node and run, with the code of kits
abbrev pub over_kits : List (List ℕ) → RunAsked → RunAsked
over_kits names asked = record asked { node = record asked.node { code = OfKits names } }

-- From these files on the kits were read, and came to a program: this holds of the reads and of the program.
abbrev pub ReadsKits : {S : Type 0} → FileGhosts S → List (List ℕ) → S → (List Read → TheProgram → Type 0) → Type 0
ReadsKits {S} F names files Holds = (middle : S) × HasReads F files middle (λ kit_reads. (program : TheProgram)
    × KitsGenerated names kit_reads (Ok program) × Holds kit_reads program)

-- How a node was run from an image of this program. It read the text of that image first, and then these others: the
-- users and the secret. What they gave is what the reads of the kits give with the same others behind them, to the same
-- node over the kits; its code is what the program means. The run is one of the node over the kits.
pub record RunsProgram {U V T W : Type 0} (L : LinkGhosts U) (C : ClockGhosts V) (D : DiskGhosts T) (O : SinkGhosts W)
    (out : List ℕ) (names : List (List ℕ)) (asked : RunAsked) (kit_reads : List Read) (program : TheProgram)
    (reads : List Read) (sink sink_now : W) (status : ℕ) (link link_now : U) (clock clock_now : V) (disk disk_now : T)
    : Type 0 where
  pub text : List ℕ
  pub is_image : IsImageOf program text
  pub others : List Read
  pub reads_are : reads ≡ (record { name = out; gave = Some text }) ∷ others
  pub given : Given
  pub code : given.code ≡ meaning_of program
  pub booted : RunInputsRead asked.node (of_reads reads) (Ok given)
  pub as_run : RunInputsRead (over_kits names asked).node (of_reads (kit_reads ++ others)) (Ok given)
  pub runs : RunsKept D L C (over_kits names asked) given (O.text sink) (O.text sink_now) status link link_now
      clock clock_now disk disk_now

-- `boot` ran the program that `compile` had read of the kits, from the world `made` on.
abbrev pub BootsKits : {S U V T W : Type 0} → FileGhosts S → LinkGhosts U → ClockGhosts V → DiskGhosts T → SinkGhosts W
    → List ℕ → List (List ℕ) → RunAsked → World S U V T W → World S U V T W → World S U V T W → ℕ → Type 0
BootsKits F L C D O out names asked made old new status =
    ReadsKits F names made.files (λ kit_reads program. HasReads F old.files new.files (λ reads.
    RunsProgram L C D O out names asked kit_reads program reads old.sink new.sink status
    old.link new.link old.clock new.clock old.disk new.disk))

-- The file of a name could not be read: its count of failed reads rose, and its line was put.
pub record IsUnread {S W : Type 0} (F : FileGhosts S) (O : SinkGhosts W) (name : List ℕ) (files files_now : S)
    (sink sink_now : W) (status : ℕ) : Type 0 where
  pub number : status ≡ 3
  pub rose : Rose (F.failed_reads files name) (F.failed_reads files_now name)
  pub line : Puts (O.text sink) (O.text sink_now) (O.faults sink) (O.faults sink_now) (line_of (FileFault name))

-- Where the files still give what `compile` read of the kits, `boot` did what `run` does over the kits; or it could not
-- read its image.
abbrev pub DoesAsRun : {S U V T W : Type 0} → FileGhosts S → LinkGhosts U → ClockGhosts V → DiskGhosts T → SinkGhosts W
    → List ℕ → List (List ℕ) → RunAsked → World S U V T W → World S U V T W → World S U V T W → ℕ → Type 0
DoesAsRun F L C D O out names asked made old new status =
    ReadsKits F names made.files (λ kit_reads program. AreGiven (F.known old.files) kit_reads
    → IsUnread F O out old.files new.files old.sink new.sink status
    ⊎ Does F L C D O (Run (over_kits names asked)) old new status)
