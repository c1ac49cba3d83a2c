-- What the files and the disk are told to answer, and how a command then follows.
use Rattle.std.specs.Prelude.{◌≡◌, ◌≢◌, ℕ, true, IsTrue, List, [], ◌∷◌, length, Contains, Result, Ok, Err}
use Rattle.std.specs.List.{flat_map}
use Rattle.std.specs.Option.{option_map_or}
use Rattle.sed_outside.specs.Cause.{Rose}
use Rattle.disk_model.specs.Disk.{Image, Meaning}
use Rattle.app_save.specs.Store.{Opens as IsOpen}
use Rattle.sed_outside.specs.Steps.{Read}
use Rattle.sedona_cli.specs.declared.refusal.Refusal.{Refusal}
use Rattle.sedona_cli.specs.Puts.{IsOneOf}
use Rattle.sedona_cli.specs.Outside.{Ask, Reads, Writes, Written, Attaches, Makes, Opens, Binds, Runs, Made, Whole}
use Rattle.sedona_cli.specs.Outside.{NotEmpty, Failed, Opened, Found, NotAStore, Unread, Unheld, IsNoStore}
use Rattle.sedona_cli.specs.Status.{number_of, status_of}

-- ---- what must come

-- the names of the files that these reads gave
abbrev pub given_name : Read → List (List ℕ)
given_name read = option_map_or (λ text. read.name ∷ []) read.gave []

-- no count of failed reads of a file rose that these reads gave
abbrev pub DidNotFail : (List ℕ → ℕ) → (List ℕ → ℕ) → List Read → Type 0
DidNotFail before now reads =
    (name : List ℕ) → Contains (flat_map given_name reads) name → Rose (before name) (now name) → ⊥

-- A disk that holds this answers so, where it does not fail: a name is attached, a store is made in an empty file
-- alone, and one is opened where there is a whole one, to the payload of its newest slot.
abbrev pub HowMade : Image → Made → Type 0
HowMade content Whole = length content ≡ 0
HowMade content NotEmpty = length content ≢ 0
HowMade content Failed = ⊥

abbrev pub HowOpened : Image → Opened → Type 0
HowOpened content (Found payload) = (S : ℕ) × IsOpen S content payload
HowOpened content NotAStore = IsNoStore content
HowOpened content Unread = ⊥
HowOpened content Unheld = ⊥

-- A write is told to be done, and a port to be taken. Behind the making of a store nothing is told, nor behind a run.
abbrev pub AreToldOf : Meaning → List Ask → Type 0
AreToldOf disk [] = Unit {0}
AreToldOf disk (Reads read ∷ asks) = AreToldOf disk asks
AreToldOf disk (Writes name bytes how ∷ asks) = (how ≡ Written) × AreToldOf disk asks
AreToldOf disk (Attaches name was_done ∷ asks) = (was_done ≡ true) × AreToldOf disk asks
AreToldOf disk (Makes slot payload how ∷ asks) = IsTrue disk.tells × HowMade disk.content how × (asks ≡ [])
AreToldOf disk (Opens how ∷ asks) = IsTrue disk.tells × HowOpened disk.content how × AreToldOf disk asks
AreToldOf disk (Binds port was_done ∷ asks) = (was_done ≡ true) × AreToldOf disk asks
AreToldOf disk (Runs ran ∷ asks) = asks ≡ []

-- How what a command comes to is answered: a text with status 0, or with 8 where the sink's count moved; a refusal with
-- its status. Want of memory may come in the place of each.
abbrev pub Follows : ℕ → ℕ → Result (List ℕ) Refusal → ℕ → Type 0
Follows faults_before faults_after (Ok text) status =
    ((Rose faults_before faults_after → ⊥) → IsOneOf (0 ∷ 7 ∷ []) status)
    × ((faults_after ≡ faults_before → ⊥) → IsOneOf (8 ∷ 7 ∷ []) status)
Follows faults_before faults_after (Err refusal) status = IsOneOf (number_of (status_of refusal) ∷ 7 ∷ []) status
