-- What the laws of loadings and of input files say of the steps of a command.
use Rattle.std.proofs.Common.{◌≡◌, ℕ, List, [], Result, Ok, Err, refl, ap, sym}
use Rattle.sed_typed.specs.declared.program.Program.{Program}
use Rattle.dasp_session.specs.declared.user.User.{User}
use Rattle.scode_image.specs.declared.image.Image.{Image}
use Rattle.sed_outside.specs.Steps.{Read, Agree}
use Rattle.sed_outside.specs.Reads.{failed_names}
use Rattle.input_files.specs.Inputs.{CodeRead, RecordRead, SecretRead, UsersRead}
use Rattle.input_files.specs.Refusals.{failed_in as inputs_failed_in, failed_of as inputs_failed}
use Rattle.input_files.specs.declared.refusal.InputRefusal.{InputRefusal}
use Rattle.sed_check.specs.Refusals.{AreAlike}
use Rattle.sedona_cli.specs.declared.refusal.Refusal.{Refusal}
use Rattle.sedona_laws.specs.Agree.{AgreeOn, failed_by}
use Rattle.sedona_cli.specs.Outside.{Ask, reads_in}
use Rattle.sedona_cli.specs.Program.{refusal_by}
use Rattle.sedona_cli.specs.Refusals.{failed_of, of_inputs}
use Rattle.sedona_laws.proofs.Alike.{FilesOne, ReadsAlike}
use Rattle.input_files.specs.declared.refusal.InputRefusal.TheVariants as inputs

-- ---- commands

-- a command has one end
abbrev pub HasOneEnd : (List Ask → Result (List ℕ) Refusal → Type 0) → Type 0
HasOneEnd step = (asks others : List Ask) (end other : Result (List ℕ) Refusal) → AgreeOn asks others
    → step asks end → step others other → refusal_by end ≡ refusal_by other

-- its end tells the reads that failed
abbrev pub TellsFailed : (List Ask → Result (List ℕ) Refusal → Type 0) → Type 0
TellsFailed step = (asks : List Ask) (end : Result (List ℕ) Refusal) → step asks end → failed_names (reads_in asks) ≡ failed_by end

-- ---- loadings

-- a loading has one end, and the programs that it ends with are alike
abbrev pub LoadsOne : (List Read → Result Program Refusal → Type 0) → Type 0
LoadsOne step = ReadsAlike step AreAlike

-- it tells the reads that failed
abbrev pub failed_load : Result Program Refusal → List (List ℕ)
failed_load (Ok program) = []
failed_load (Err refusal) = failed_of refusal

abbrev pub LoadTells : (List Read → Result Program Refusal → Type 0) → Type 0
LoadTells step = (reads : List Read) (end : Result Program Refusal) → step reads end → failed_names reads ≡ failed_load end

-- ---- input files

-- an input has one end
abbrev pub InputOne : {X : Type 0} → (List Read → Result X InputRefusal → Type 0) → Type 0
InputOne {X} step = (reads others : List Read) (end other : Result X InputRefusal) → step reads end → step others other → Agree reads others → (reads ≡ others) × (end ≡ other)

abbrev pub InputTells : {X : Type 0} → (List Read → Result X InputRefusal → Type 0) → Type 0
InputTells {X} step = (reads : List Read) (end : Result X InputRefusal) → step reads end → failed_names reads ≡ inputs_failed_in end

pub record InputsOne : Type 0 where
  pub users : (name : List ℕ) → InputOne {X = List User} (UsersRead name)
  pub secret : (name : List ℕ) → InputOne {X = List ℕ} (SecretRead name)
  pub record_text : (name : List ℕ) → InputOne {X = List ℕ} (RecordRead name)
  pub code : (name : List ℕ) → InputOne {X = Image} (CodeRead name)

pub record InputsTell : Type 0 where
  pub users : (name : List ℕ) → InputTells {X = List User} (UsersRead name)
  pub secret : (name : List ℕ) → InputTells {X = List ℕ} (SecretRead name)
  pub record_text : (name : List ℕ) → InputTells {X = List ℕ} (RecordRead name)
  pub code : (name : List ℕ) → InputTells {X = Image} (CodeRead name)

same_value : {X : Type 0} (x y : X) → ◌≡◌ {A = Result X InputRefusal} (Ok x) (Ok y) → x ≡ y
same_value x y same = cc

same_input : {X : Type 0} (a b : InputRefusal) → ◌≡◌ {A = Result X InputRefusal} (Err a) (Err b) → a ≡ b
same_input a b same = cc

apart : {X : Type 0} (x : X) (a : InputRefusal) → ◌≡◌ {A = Result X InputRefusal} (Ok x) (Err a) → ⊥
apart x a same = cc

-- as a step of a command
pub input_one : {X : Type 0} (step : List Read → Result X InputRefusal → Type 0) → InputOne step → FilesOne of_inputs step (λ (x y : X). x ≡ y)
input_one step one reads others (Ok x) (Ok y) h k agree =
    let same = one reads others (Ok x) (Ok y) h k agree in
    (same.0, same_value x y same.1)
input_one {X} step one reads others (Err a) (Err b) h k agree =
    let same = one reads others (Err a) (Err b) h k agree in
    (same.0, ap of_inputs (same_input {X = X} a b same.1))
input_one step one reads others (Ok x) (Err b) h k agree = absurd (apart x b (one reads others (Ok x) (Err b) h k agree).1)
input_one step one reads others (Err a) (Ok y) h k agree = absurd (apart y a (sym (one reads others (Err a) (Ok y) h k agree).1))

pub failed_inputs : (r : InputRefusal) → inputs_failed r ≡ failed_of (of_inputs r)
failed_inputs (inputs.FileFault file) = refl
failed_inputs inputs.BadUsers = refl
failed_inputs inputs.ShortSecret = refl
failed_inputs (inputs.BadRecord at) = refl
failed_inputs (inputs.BadImage at) = refl
failed_inputs (inputs.BrokenRule method at rule) = refl
failed_inputs inputs.Memory = refl
