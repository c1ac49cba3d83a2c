-- What `gen` comes to, and what it leaves.
use Rattle.std.specs.Prelude.{◌≡◌, ℕ, List, None, IsSome, Result, Ok, Err}
use Rattle.sed_typed.specs.declared.program.Program.{Program as TheProgram}
use Rattle.sed_engine.specs.Program.{meaning_of}
use Rattle.sed_outside.specs.Files.{WritesFile}
use Rattle.sed_outside.specs.declared.files.Files.{Ghosts as FileGhosts}
use Rattle.dasp_session.specs.declared.user.User.{User}
use Rattle.dasp_session.specs.UsersFile.{credential_of}
use Rattle.record_making.specs.Spec.{IsRecordOf}
use Rattle.sed_outside.specs.Steps.{AndThen, Decides}
use Rattle.sed_outside.specs.Reads.{HasReads}
use Rattle.sedona_cli.specs.declared.generating.RecordInputs.{RecordInputs}
use Rattle.sedona_cli.specs.declared.refusal.Refusal.{Refusal}
use Rattle.sedona_cli.specs.declared.refusal.Refusal.TheVariants.{BadUsers}
use Rattle.sedona_words.specs.Command.{RecordAsked}
use Rattle.sedona_cli.specs.Outside.{Ask, of_reads}
use Rattle.sedona_cli.specs.Steps.{AfterKits, AfterSecret, AfterUsers, FileWritten}

-- A user of this name is among the users, who are given; or the users are refused.
abbrev pub IsAmong : List ℕ → List User → Result (List User) Refusal → Type 0
IsAmong user users (Ok found) = (found ≡ users) × IsSome (credential_of users user)
IsAmong user users (Err refusal) = (refusal ≡ BadUsers) × (credential_of users user ≡ None)

-- the users of a users file, with this one among them
abbrev pub UsersWith : List ℕ → List ℕ → List Ask → Result (List User) Refusal → Type 0
UsersWith file user = AndThen (AfterUsers file) (λ (users : List User). Decides (IsAmong user users))

-- What a record is generated from is read: the kits are loaded, the users file is read and the user looked for, and the
-- secret file is read.
abbrev pub RecordInputsRead : RecordAsked → List Ask → Result RecordInputs Refusal → Type 0
RecordInputsRead asked =
    AndThen (AfterKits asked.kits) (λ (program : TheProgram).
    AndThen (UsersWith asked.users asked.user) (λ (users : List User).
    AndThen (AfterSecret asked.secret) (λ (secret : List ℕ).
    Decides (λ end. end ≡ Ok (record { program = program; users = users; secret = secret })))))

-- the bytes are the record that is asked for, generated from these
abbrev pub IsRecordFrom : RecordAsked → RecordInputs → List ℕ → Type 0
IsRecordFrom asked inputs bytes =
    IsRecordOf (meaning_of inputs.program) inputs.users asked.user inputs.secret asked.numbers bytes

-- The record is written into the output file.
abbrev pub RecordWritten : RecordAsked → RecordInputs → List Ask → Result (List ℕ) Refusal → Type 0
RecordWritten asked inputs asks end =
    (bytes : List ℕ) × IsRecordFrom asked inputs bytes × FileWritten asked.out bytes asks end

abbrev pub GenComes : RecordAsked → List Ask → Result (List ℕ) Refusal → Type 0
GenComes asked = AndThen (RecordInputsRead asked) (RecordWritten asked)

-- What it leaves once it is done: where the files tell what they hold, the output file has exactly the bytes of the
-- record of what the files gave.
abbrev pub LeavesRecord : {S : Type 0} → FileGhosts S → RecordAsked → S → S → Type 0
LeavesRecord {S} F asked files files_now = (middle : S) × HasReads F files middle (λ reads. (inputs : RecordInputs)
    × RecordInputsRead asked (of_reads reads) (Ok inputs)
    × ((bytes : List ℕ) × IsRecordFrom asked inputs bytes × WritesFile (F.known files_now) asked.out bytes))
