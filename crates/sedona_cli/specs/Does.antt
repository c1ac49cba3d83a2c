-- What a command does, and what is done where the words are none.
use Rattle.std.specs.Prelude.{◌≡◌, ℕ, true, List, [], ◌∷◌, Option}
use Rattle.sed_outside.specs.declared.files.Files.{Ghosts as FileGhosts}
use Rattle.sed_outside.specs.declared.clock.Clock.{Ghosts as ClockGhosts}
use Rattle.sed_outside.specs.declared.link.Link.{Ghosts as LinkGhosts}
use Rattle.sed_outside.specs.declared.sink.Sink.{Ghosts as SinkGhosts}
use Rattle.disk_model.specs.declared.disk.Disk.{Ghosts as DiskGhosts}
use Rattle.sedona_words.specs.Command.{Command, output_of}
use Rattle.sedona_cli.specs.Lines.{memory_line, usage_line}
use Rattle.sedona_cli.specs.Program.{AsksLiveOf, IsAnswer, Leaves}
use Rattle.sedona_cli.specs.Puts.{IsOneOf, Puts}
use Rattle.sedona_cli.specs.Words.{is_run}
use Rattle.sedona_cli.specs.World.{World}
use Rattle.sedona_cli.specs.Writing.{AsksOf}

-- A command, from one world to another, with a status: what it asked of the files and of the disk and how it is
-- answered for it, by what it comes to; what it leaves, once all was done; and what it asked of the link and the clock,
-- and where it ran on them, how. The command says which row of each of the three that is.
pub record Does {S U V T W : Type 0} (F : FileGhosts S) (L : LinkGhosts U) (C : ClockGhosts V) (D : DiskGhosts T)
    (O : SinkGhosts W) (command : Command) (old new : World S U V T W) (status : ℕ) : Type 0 where
  pub answered : AsksOf F D (output_of command) old.files new.files old.disk new.disk (λ asks.
      IsAnswer command asks (O.text old.sink) (O.text new.sink) (O.faults old.sink) (O.faults new.sink) status)
  pub leaves : IsOneOf (0 ∷ 8 ∷ []) status → Leaves F D command old.files new.files old.disk new.disk
  pub live : AsksLiveOf F D L C command old.files new.files old.link new.link old.clock new.clock old.disk new.disk
      (O.text old.sink) (O.text new.sink) status

-- How words outside the table are answered: with 1, and the line that says so; or, where clap reads the words and takes
-- memory for it, with 7 and the line of that.
pub data IsUsage (words : List (List ℕ)) (before after : Option (List ℕ)) (faults_before faults_after status : ℕ)
    : Type 0 where
  usage : status ≡ 1 → Puts before after faults_before faults_after usage_line
      → IsUsage words before after faults_before faults_after status
  no_memory : is_run words ≡ true → status ≡ 7 → Puts before after faults_before faults_after memory_line
      → IsUsage words before after faults_before faults_after status

-- They are answered so, and nothing is asked of the outside but the sink.
pub record DoesNothing {S U V T W : Type 0} (O : SinkGhosts W) (words : List (List ℕ)) (old new : World S U V T W)
    (status : ℕ) : Type 0 where
  pub answered : IsUsage words (O.text old.sink) (O.text new.sink) (O.faults old.sink) (O.faults new.sink) status
  pub files : new.files ≡ old.files
  pub link : new.link ≡ old.link
  pub clock : new.clock ≡ old.clock
  pub disk : new.disk ≡ old.disk
