-- What `new` comes to, and what it leaves.
use Rattle.std.specs.Prelude.{ℕ, IsTrue, List, Result, Ok}
use Rattle.sed_typed.specs.declared.program.Program.{Program as TheProgram}
use Rattle.sed_outside.specs.declared.files.Files.{Ghosts as FileGhosts}
use Rattle.disk_model.specs.Disk.{Meaning, MarksUp}
use Rattle.sed_engine.specs.Program.{meaning_of}
use Rattle.app_writer.specs.Alone.{AllNew, text_alone}
use Rattle.sed_outside.specs.Steps.{AndThen}
use Rattle.sed_outside.specs.Reads.{HasReads}
use Rattle.sed_check.specs.Loading.{KitsLoaded}
use Rattle.sedona_cli.specs.declared.refusal.Refusal.{Refusal}
use Rattle.sedona_cli.specs.Outside.{Ask}
use Rattle.sedona_cli.specs.Steps.{AfterKits, Prints, done_text}
use Rattle.sedona_cli.specs.Store.{Measured, StoreAttached, StoreMade}

-- the bytes of data that an application may have, where the words say no others
abbrev pub most_data : ℕ
most_data = 4194304

-- the text of the App alone over a program
abbrev pub text_of : TheProgram → List ℕ
text_of program = text_alone (meaning_of program) most_data

-- With a program: the slot is measured, the store attached, the store made, and `ok` printed.
unfoldable pub NewOf : List ℕ → ℕ → TheProgram → List Ask → Result (List ℕ) Refusal → Type 0
NewOf store slot program =
    AndThen (Measured slot (text_of program)) (λ (fits : Unit {0}).
    AndThen (StoreAttached store) (λ (attached : Unit {0}).
    AndThen (StoreMade slot (text_of program)) (λ (made : Unit {0}).
    Prints done_text)))

-- The kits are loaded first.
abbrev pub NewComes : List (List ℕ) → List ℕ → ℕ → List Ask → Result (List ℕ) Refusal → Type 0
NewComes names store slot = AndThen (AfterKits names) (NewOf store slot)

-- What it leaves once it is done: one mark was made, and every image that a crash from then on may leave is a store
-- with slots of exactly so many bytes that opens to the App alone over the program that was loaded.
pub record LeavesNew {S : Type 0} (F : FileGhosts S) (names : List (List ℕ)) (slot : ℕ) (files files_now : S)
    (disk disk_now : Meaning) : Type 0 where
  pub mark : MarksUp disk disk_now 1
  pub store : IsTrue disk.tells → HasReads F files files_now (λ reads. (program : TheProgram)
      × KitsLoaded names reads (Ok program) × AllNew slot (meaning_of program) most_data disk_now)
