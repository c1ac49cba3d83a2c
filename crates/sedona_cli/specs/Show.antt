-- What `show` comes to, and what it shows.
use Rattle.std.specs.Prelude.{◌≡◌, ℕ, List, MatchBool, Result, Ok, Err}
use Rattle.sed_typed.specs.declared.program.Program.{Program as TheProgram}
use Rattle.sed_engine.specs.Code.{Meaning}
use Rattle.sed_engine.specs.Program.{meaning_of}
use Rattle.comp_tree.specs.Application.{Application}
use Rattle.printed_app.specs.Application.{application_text}
use Rattle.sed_outside.specs.Steps.{AndThen}
use Rattle.sedona_cli.specs.declared.refusal.Refusal.{Refusal}
use Rattle.sedona_cli.specs.Outside.{Ask}
use Rattle.sedona_cli.specs.Steps.{AfterKits, Prints}
use Rattle.sedona_cli.specs.Refusals.{is_want}
use Rattle.sedona_cli.specs.Store.{AppRead, IsRead, StoreAttached, StoreOpened}

-- With a program: the store is attached and opened, its payload read as an application, and that is printed.
unfoldable pub ShowOf : List ℕ → ℕ → TheProgram → List Ask → Result (List ℕ) Refusal → Type 0
ShowOf store limit program =
    AndThen (StoreAttached store) (λ (attached : Unit {0}).
    AndThen StoreOpened (λ (payload : List ℕ).
    AndThen (AppRead (meaning_of program) limit payload) (λ (application : Application).
    Prints (application_text (meaning_of program) application))))

-- The kits are loaded first.
abbrev pub ShowComes : List (List ℕ) → List ℕ → ℕ → List Ask → Result (List ℕ) Refusal → Type 0
ShowComes names store limit = AndThen (AfterKits names) (ShowOf store limit)

-- the text of the application in a payload over a code, or why it is none; or memory was wanted
abbrev pub PrintedOrWants : Meaning → ℕ → List ℕ → Result (List ℕ) Refusal → Type 0
PrintedOrWants code limit payload (Ok text) =
    (a : Application) × IsRead code limit payload (Ok a) × (text ≡ application_text code a)
PrintedOrWants code limit payload (Err refusal) =
    MatchBool (is_want refusal) (Unit {0}) (IsRead code limit payload (Err refusal))
