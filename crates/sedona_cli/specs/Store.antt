-- What is done with a store, step by step.
use Rattle.std.specs.Prelude.{◌≡◌, ◌⊎◌, ◌≤◌, ◌<◌, ℕ, true, false, List, [], ◌∷◌, length, MatchBool, Result, Ok, Err}
use Rattle.sed_typed.specs.Spelled.{CanBeTold}
use Rattle.sed_engine.specs.Code.{Meaning}
use Rattle.sed_engine.specs.Whole.{HasTables}
use Rattle.comp_tree.specs.Application.{Application}
use Rattle.app_file.specs.Reading.{IsReadAs, Reading, no_file, wrong_kits, over_limit, file}
use Rattle.sed_outside.specs.Steps.{Decides}
use Rattle.sedona_cli.specs.declared.refusal.Refusal.{Refusal}
use Rattle.sedona_cli.specs.declared.refusal.Refusal.TheVariants.{SlotTooSmall, DeviceFault, StoreExists, NoStore}
use Rattle.sedona_cli.specs.declared.refusal.Refusal.TheVariants.{NoApplication, WrongKits, OverLimit}
use Rattle.sedona_cli.specs.Refusals.{is_want}
use Rattle.sedona_cli.specs.Outside.{Ask, Attaches, Makes, Opens, Whole, NotEmpty, Failed, Found, NotAStore, Unread}
use Rattle.sedona_cli.specs.Outside.{Unheld}

-- A slot of so many bytes has room for a text, or needs so many and has fewer.
abbrev pub IsMeasured : ℕ → List ℕ → Result (Unit {0}) Refusal → Type 0
IsMeasured slot text (Ok done) = length text ≤ slot
IsMeasured slot text (Err refusal) = (refusal ≡ SlotTooSmall (length text) slot) × (slot < length text)

abbrev pub Measured : ℕ → List ℕ → List Ask → Result (Unit {0}) Refusal → Type 0
Measured slot text = Decides (IsMeasured slot text)

-- The store of a name is attached, or the disk fails.
abbrev pub StoreAttached : List ℕ → List Ask → Result (Unit {0}) Refusal → Type 0
StoreAttached name asks (Ok done) = asks ≡ Attaches name true ∷ []
StoreAttached name asks (Err refusal) = (asks ≡ Attaches name false ∷ []) × (refusal ≡ DeviceFault)

-- In the file that is attached a store is made, with slots of so many bytes and this payload; or the file is not empty,
-- or the disk fails.
abbrev pub StoreMade : ℕ → List ℕ → List Ask → Result (Unit {0}) Refusal → Type 0
StoreMade slot payload asks (Ok done) = asks ≡ Makes slot payload Whole ∷ []
StoreMade slot payload asks (Err refusal) =
    ((asks ≡ Makes slot payload NotEmpty ∷ []) × (refusal ≡ StoreExists))
    ⊎ ((asks ≡ Makes slot payload Failed ∷ []) × (refusal ≡ DeviceFault))

-- The file that is attached is opened: the payload of its newest slot; or it is no store, or the disk fails.
abbrev pub StoreOpened : List Ask → Result (List ℕ) Refusal → Type 0
StoreOpened asks (Ok payload) = asks ≡ Opens (Found payload) ∷ []
StoreOpened asks (Err refusal) =
    ((asks ≡ Opens NotAStore ∷ []) × (refusal ≡ NoStore)) ⊎ ((asks ≡ Opens Unread ∷ []) × (refusal ≡ DeviceFault))

-- So it is, or memory was wanted for the payload.
abbrev pub OpenedOrWants : List Ask → Result (List ℕ) Refusal → Type 0
OpenedOrWants asks (Ok payload) = StoreOpened asks (Ok payload)
OpenedOrWants asks (Err refusal) =
    MatchBool (is_want refusal) (asks ≡ Opens Unheld ∷ []) (StoreOpened asks (Err refusal))

-- the payload that an opening gave, without the size of a slot before it
abbrev pub payload_of : Result (ℕ × List ℕ) Refusal → Result (List ℕ) Refusal
payload_of (Ok found) = Ok found.1
payload_of (Err refusal) = Err refusal

-- what a payload that is read as this is: an application, or why it is none
abbrev pub application_in : Reading → Result Application Refusal
application_in no_file = Err NoApplication
application_in (wrong_kits place in_file in_kits) = Err (WrongKits place in_file in_kits)
application_in (over_limit which) = Err (OverLimit which)
application_in (file application) = Ok application

-- A payload is read as the file of an application over a code, with at most so many bytes of data. The code is one of
-- whose classes a file can tell, as that of each program that is loaded and of each image that breaks no rule.
pub record IsRead (code : Meaning) (limit : ℕ) (payload : List ℕ) (end : Result Application Refusal) : Type 0 where
  pub tables : HasTables code
  pub told : CanBeTold code.schema
  pub reading : Reading
  pub is_read : IsReadAs code limit payload reading
  pub end_is : end ≡ application_in reading

abbrev pub AppRead : Meaning → ℕ → List ℕ → List Ask → Result Application Refusal → Type 0
AppRead code limit payload = Decides (IsRead code limit payload)
