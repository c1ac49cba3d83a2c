-- What the program answers.
use Rattle.std.specs.Prelude.{◌≡◌, ℕ, IsTrue, List, [], ◌∷◌, MatchBool, Option, Some, None, Result, Ok, Err}
use Rattle.sed_typed.specs.declared.program.Program.{Program as TheProgram}
use Rattle.sed_outside.specs.Cause.{Rose}
use Rattle.sed_outside.specs.Sink.{with_text, PutsFront}
use Rattle.sed_outside.specs.declared.files.Files.{Ghosts as FileGhosts}
use Rattle.sed_outside.specs.declared.clock.Clock.{Ghosts as ClockGhosts}
use Rattle.sed_outside.specs.declared.link.Link.{Ghosts as LinkGhosts}
use Rattle.disk_model.specs.Disk.{Meaning, Keeps, MarksUp}
use Rattle.disk_model.specs.declared.disk.Disk.{Ghosts as DiskGhosts}
use Rattle.sed_outside.specs.Steps.{AndThen}
use Rattle.sed_cycles.specs.Cycles.{text_after}
use Rattle.sedona_cli.specs.declared.refusal.Refusal.{Refusal}
use Rattle.sed_engine.specs.Program.{meaning_of}
use Rattle.sedona_words.specs.Command.{Command, Cycles, Check, Compile, Gen, New, Replay, Run, Show, store_of}
use Rattle.sedona_cli.specs.Compile.{CompileComes, LeavesImage}
use Rattle.sedona_cli.specs.Gen.{GenComes, LeavesRecord}
use Rattle.sedona_cli.specs.Lines.{line_of, memory_line}
use Rattle.sedona_cli.specs.New.{LeavesNew, NewComes}
use Rattle.sedona_cli.specs.Puts.{Puts}
use Rattle.sedona_cli.specs.Replay.{ReplayComes, ReplayStops}
use Rattle.sedona_cli.specs.Run.{AsksLive, RanBy, RunComes}
use Rattle.sedona_cli.specs.Show.{ShowComes}
use Rattle.sedona_cli.specs.Outside.{Ask, Spares}
use Rattle.sedona_cli.specs.Refusals.{is_want}
use Rattle.sedona_cli.specs.Status.{number_of, status_of}
use Rattle.sedona_cli.specs.Words.{command_asked}
use Rattle.sedona_cli.specs.Steps.{AfterKits, AfterText, Prints, done_text}

-- ---- what a command comes to

-- The outside is asked, step by step, and it ends with the text that is printed, or with the first refusal.
abbrev pub Comes : Command → List Ask → Result (List ℕ) Refusal → Type 0
Comes (Cycles file count) =
    AndThen (AfterText file) (λ (program : TheProgram). Prints (text_after (meaning_of program) count))
Comes (Check names) = AndThen (AfterKits names) (λ (program : TheProgram). Prints done_text)
Comes (Compile out names) = CompileComes out names
Comes (New names store slot) = NewComes names store slot
Comes (Show names store limit) = ShowComes names store limit
Comes (Replay asked file) = ReplayComes asked file
Comes (Run asked) = RunComes asked
Comes (Gen asked) = GenComes asked

-- These put their text when all else is done.
abbrev pub PutsAtOnce : Command → Type 0
PutsAtOnce (Cycles file count) = Unit {0}
PutsAtOnce (Check names) = Unit {0}
PutsAtOnce (Compile out names) = Unit {0}
PutsAtOnce (New names store slot) = Unit {0}
PutsAtOnce (Show names store limit) = Unit {0}
PutsAtOnce (Replay asked file) = ⊥
PutsAtOnce (Run asked) = Unit {0}
PutsAtOnce (Gen asked) = Unit {0}

-- The others put it piece by piece as they go on, and stop where the sink fails: this was put before, and a front of
-- that.
abbrev pub ComesUntil : Command → List Ask → List ℕ → List ℕ → Type 0
ComesUntil (Cycles file count) asks put last = ⊥
ComesUntil (Check names) asks put last = ⊥
ComesUntil (Compile out names) asks put last = ⊥
ComesUntil (New names store slot) asks put last = ⊥
ComesUntil (Show names store limit) asks put last = ⊥
ComesUntil (Replay asked file) asks put last = ReplayStops asked file asks put last
ComesUntil (Run asked) asks put last = ⊥
ComesUntil (Gen asked) asks put last = ⊥

-- So it comes, or memory was wanted, at any point: then nothing of a store was written, no file was, and no other name
-- attached.
abbrev pub OrWants : {X : Type 0} → Option (List ℕ) → (List Ask → Result X Refusal → Type 0)
    → List Ask → Result X Refusal → Type 0
OrWants store step asks (Ok value) = step asks (Ok value)
OrWants store step asks (Err refusal) = MatchBool (is_want refusal) (Spares store asks) (step asks (Err refusal))

abbrev pub ComesOrWants : Command → List Ask → Result (List ℕ) Refusal → Type 0
ComesOrWants command = OrWants (store_of command) (Comes command)

-- the refusal that it ends with, if it ends so
abbrev pub refusal_by : Result (List ℕ) Refusal → Option Refusal
refusal_by (Ok text) = None
refusal_by (Err refusal) = Some refusal

-- where the words ask for a command, this holds of it
abbrev pub OnCommand : List (List ℕ) → (Command → Type 0) → Type 0
OnCommand words P = (command : Command) → command_asked words ≡ Some command → P command

-- ---- how it is answered

-- The status that a command is answered with, and what is put: its text, with status 0; a front of that text, with
-- status 8, where the sink failed, which has stopped what was yet to come where the text is put piece by piece; the
-- line of a refusal, with the refusal's status; and, free, want of memory.
pub data IsAnswer (command : Command) (asks : List Ask) (before after : Option (List ℕ))
    (faults_before faults_after : ℕ)
    (status : ℕ) : Type 0 where
  done : (text : List ℕ) → Comes command asks (Ok text) → status ≡ 0 → after ≡ with_text before text
      → faults_after ≡ faults_before → IsAnswer command asks before after faults_before faults_after status
  unput : (text : List ℕ) → Comes command asks (Ok text) → PutsAtOnce command → status ≡ 8
      → Rose faults_before faults_after → PutsFront before after text
      → IsAnswer command asks before after faults_before faults_after status
  stopped : (put last : List ℕ) → ComesUntil command asks put last → status ≡ 8 → Rose faults_before faults_after
      → PutsFront (with_text before put) after last
      → IsAnswer command asks before after faults_before faults_after status
  refused : (refusal : Refusal) → Comes command asks (Err refusal) → status ≡ number_of (status_of refusal)
      → Puts before after faults_before faults_after (line_of refusal)
      → IsAnswer command asks before after faults_before faults_after status
  wanted : Spares (store_of command) asks → status ≡ 7 → Puts before after faults_before faults_after memory_line
      → IsAnswer command asks before after faults_before faults_after status

-- ---- what a command leaves

-- What a command leaves of a disk that it must not change: what a read gives, what a crash may leave, and no mark more.
pub record SparesDisk (old new : Meaning) : Type 0 where
  pub keeps : IsTrue old.tells → Keeps old new
  pub marks : MarksUp old new 0

-- What a command leaves once all was done, with status 0, or 8 where only its text could not be put. What `replay`,
-- `run` and `boot` leave stands with what they show.
abbrev pub Leaves : {S T : Type 0} → FileGhosts S → DiskGhosts T → Command → S → S → T → T → Type 0
Leaves F D (Cycles file count) files files_now disk disk_now = disk_now ≡ disk
Leaves F D (Check names) files files_now disk disk_now = disk_now ≡ disk
Leaves F D (Compile out names) files files_now disk disk_now = LeavesImage F out names files files_now
Leaves F D (New names store slot) files files_now disk disk_now =
    LeavesNew F names slot files files_now (D.meaning disk) (D.meaning disk_now)
Leaves F D (Show names store limit) files files_now disk disk_now = SparesDisk (D.meaning disk) (D.meaning disk_now)
Leaves F D (Replay asked file) files files_now disk disk_now = Unit {0}
Leaves F D (Run asked) files files_now disk disk_now = Unit {0}
Leaves F D (Gen asked) files files_now disk disk_now = LeavesRecord F asked files files_now

abbrev pub at_store : List ℕ
at_store = 0 ∷ 4 ∷ 5 ∷ 8 ∷ 10 ∷ []

-- What was asked of the link and the clock, by command: without a port nothing, and with one what `run` and `boot` ask
-- of them, and where it was done, what they leave.
abbrev pub AsksLiveOf : {S T U V : Type 0} → FileGhosts S → DiskGhosts T
    → LinkGhosts U → ClockGhosts V → Command → S → S
    → U → U → V → V → T → T → Option (List ℕ) → Option (List ℕ) → ℕ → Type 0
AsksLiveOf F D L C (Run asked) files files_now link link_now clock clock_now disk disk_now before after status =
    AsksLive L C asked.port status link link_now clock clock_now
    (RanBy F D L C asked files files_now link link_now clock clock_now disk disk_now before after status)
AsksLiveOf F D L C command files files_now link link_now clock clock_now disk disk_now before after status =
    (link_now ≡ link) × (clock_now ≡ clock)
