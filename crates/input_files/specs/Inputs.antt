-- Input files are read: the users file, the secret file, the record and the image.
use Rattle.std.specs.Prelude.{◌≡◌, ◌⊎◌, ◌≤◌, ◌<◌, ℕ, List, length, take, Result, Ok, Err}
use Rattle.sed_outside.specs.Steps.{Read, Decides, AndThen}
use Rattle.sed_outside.specs.Reads.{TextOf}
use Rattle.dasp_session.specs.declared.user.User.{User}
use Rattle.dasp_session.specs.UsersFile.{IsUsersFile}
use Rattle.replay_log.specs.Entry.{Entry}
use Rattle.replay_log.specs.Record.{IsRecord, IsRefusedAt}
use Rattle.scode_image.specs.declared.image.Image.{Image}
use Rattle.scode_image.specs.Grammar.{FaultsAt, IsImage}
use Rattle.scode_code.specs.Breaks.{BreaksNone, IsFirstBroken}
use Rattle.scode_code.specs.Faults.{Broken}
use Rattle.input_files.specs.declared.refusal.InputRefusal.{InputRefusal}
use Rattle.input_files.specs.declared.refusal.InputRefusal.TheVariants.{FileFault, BadUsers, ShortSecret, BadRecord}
use Rattle.input_files.specs.declared.refusal.InputRefusal.TheVariants.{BadImage, BrokenRule}

-- The file of a name is read. Where the read fails it ends with that file's fault; else its text decides.
abbrev pub InputRead : {X : Type 0} → (List ℕ → Result X InputRefusal → Type 0) → List ℕ
    → List Read → Result X InputRefusal → Type 0
InputRead Holds name = AndThen (TextOf name (FileFault name)) (λ text. Decides (Holds text))

-- ---- the users file

-- The text is the users file of these users, or it is none.
abbrev pub AreUsersOf : List ℕ → Result (List User) InputRefusal → Type 0
AreUsersOf text (Ok users) = IsUsersFile users text
AreUsersOf text (Err refusal) = (refusal ≡ BadUsers) × ((users : List User) → IsUsersFile users text → ⊥)

-- The users file of this name is read.
unfoldable pub UsersRead : List ℕ → List Read → Result (List User) InputRefusal → Type 0
UsersRead = InputRead AreUsersOf

-- ---- the secret file

-- The secret is the first 20 bytes of the text, or there are fewer.
abbrev pub IsSecretOf : List ℕ → Result (List ℕ) InputRefusal → Type 0
IsSecretOf text (Ok secret) = (20 ≤ length text) × (secret ≡ take 20 text)
IsSecretOf text (Err refusal) = (refusal ≡ ShortSecret) × (length text < 20)

-- The secret file of this name is read.
unfoldable pub SecretRead : List ℕ → List Read → Result (List ℕ) InputRefusal → Type 0
SecretRead = InputRead IsSecretOf

-- ---- the record

-- The bytes are the record of some entries.
abbrev pub HasEntries : List ℕ → Type 0
HasEntries bytes = (entries : List Entry) × IsRecord bytes entries

-- The text is a record, and is given as it stands; or it is none, for a cause at a place.
abbrev pub IsRecordOf : List ℕ → Result (List ℕ) InputRefusal → Type 0
IsRecordOf text (Ok bytes) = (bytes ≡ text) × HasEntries text
IsRecordOf text (Err refusal) = (at : ℕ) × (refusal ≡ BadRecord at) × IsRefusedAt text at

-- The record of this name is read.
unfoldable pub RecordRead : List ℕ → List Read → Result (List ℕ) InputRefusal → Type 0
RecordRead = InputRead IsRecordOf

-- ---- the image

-- The image breaks no rule, and is given as it stands; or this is the first rule that it breaks.
abbrev pub IsChecked : Image → Result Image InputRefusal → Type 0
IsChecked image (Ok code) = (code ≡ image) × BreaksNone image
IsChecked image (Err refusal) =
    (broken : Broken) × IsFirstBroken image broken × (refusal ≡ BrokenRule broken.method broken.at broken.rule)

-- The text is that of an image, which is checked.
abbrev pub IsOfImage : List ℕ → Result Image InputRefusal → Type 0
IsOfImage text end = (image : Image) × IsImage text image × IsChecked image end

-- The text is no image, for a fault at a place.
abbrev pub IsNoImage : List ℕ → InputRefusal → Type 0
IsNoImage text refusal = (at : ℕ) × FaultsAt text at × (refusal ≡ BadImage at)

-- The text is that of an image that breaks no rule; or it is that of one that breaks one, or no image.
abbrev pub IsCodeOf : List ℕ → Result Image InputRefusal → Type 0
IsCodeOf text (Ok code) = IsOfImage text (Ok code)
IsCodeOf text (Err refusal) = IsNoImage text refusal ⊎ IsOfImage text (Err refusal)

-- The image of this name is read.
unfoldable pub CodeRead : List ℕ → List Read → Result Image InputRefusal → Type 0
CodeRead = InputRead IsCodeOf
