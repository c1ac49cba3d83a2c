-- What reads have to do with the files: the texts that they gave, and the counts of failed reads.
use Rattle.std.specs.Prelude.{◌≡◌, ℕ, ◌≤◌, Bool, true, false, List, [], ◌∷◌, length, Contains, Option, Some, None}
use Rattle.std.specs.Prelude.{IfSome, IsSome, IsSomeAnd, MatchOption, Result, Ok, Err}
use Rattle.std.specs.Option.{option_map_or}
use Rattle.std.specs.List.{flat_map}
use Rattle.sed_outside.specs.Cause.{Rose}
use Rattle.sed_outside.specs.Files.{Contents, IsUnreadable, largest_file}
use Rattle.sed_outside.specs.declared.files.Files.{Ghosts}
use Rattle.sed_outside.specs.declared.files.FileFault.{FileFault}
use Rattle.sed_outside.specs.declared.files.FileFault.TheVariants.{Failed, Memory}
use Rattle.sed_outside.specs.Steps.{Read}

-- The file of this name is read. Where the read fails it ends with this refusal.
abbrev pub TextOf : {E : Type 0} → List ℕ → E → List Read → Result (List ℕ) E → Type 0
TextOf name failed reads (Ok text) = reads ≡ (record { name = name; gave = Some text }) ∷ []
TextOf name failed reads (Err refusal) = (reads ≡ (record { name = name; gave = None }) ∷ []) × (refusal ≡ failed)

-- it is want of memory
abbrev pub is_want : FileFault → Bool
is_want Failed = false
is_want Memory = true

-- A text that a read of this name gave: it is not too large, and where the files tell what they hold it is the
-- file's.
pub record IsGiven (known : Option Contents) (name text : List ℕ) : Type 0 where
  pub small : length text ≤ largest_file
  pub told : IfSome known (λ files. files name ≡ Some text)

abbrev pub AreGiven : Option Contents → List Read → Type 0
AreGiven known [] = Unit {0}
AreGiven known (read ∷ reads) = MatchOption read.gave (Unit {0}) (IsGiven known read.name) × AreGiven known reads

-- the names of the reads that failed
abbrev pub failed_name : Read → List (List ℕ)
failed_name read = option_map_or (λ text. []) read.gave (read.name ∷ [])

abbrev pub failed_names : List Read → List (List ℕ)
failed_names reads = flat_map failed_name reads

-- How the counts of failed reads moved as reads of these names failed and others did not: no count falls; that of
-- each of these names rose; where none failed none moved; and files that tell what they hold move the counts of no
-- other names.
pub record CountsMoved (Told : Type 0) (before now : List ℕ → ℕ) (failed : List (List ℕ)) : Type 0 where
  pub later : (name : List ℕ) → before name ≤ now name
  pub rose : (name : List ℕ) → Contains failed name → Rose (before name) (now name)
  pub steady : failed ≡ [] → (name : List ℕ) → now name ≡ before name
  pub apart : Told → (name : List ℕ) → (Contains failed name → ⊥) → now name ≡ before name

-- From these files to those some reads were made, of which this holds. No file changed, and no count of failed
-- writes.
pub record HasReads {T : Type 0} (F : Ghosts T) (before now : T) (Holds : List Read → Type 0) : Type 0 where
  pub reads : List Read
  pub given : AreGiven (F.known before) reads
  pub counts : CountsMoved (IsSome (F.known before)) (F.failed_reads before) (F.failed_reads now) (failed_names reads)
  pub holds : Holds reads
  pub files : F.known now ≡ F.known before
  pub writes : F.failed_writes now ≡ F.failed_writes before

-- ---- where the files tell what they hold

-- A read gives the file's text, or fails where no read gives it.
abbrev pub IsTold : Contents → Read → Type 0
IsTold files read = MatchOption read.gave (IsUnreadable (files read.name)) (λ text. files read.name ≡ Some text)

abbrev pub AreTold : Contents → List Read → Type 0
AreTold files [] = Unit {0}
AreTold files (read ∷ reads) = IsTold files read × AreTold files reads

-- It is told that the files hold what gives these reads.
abbrev pub AreKnown : Option Contents → List Read → Type 0
AreKnown known reads = IsSomeAnd known (λ files. AreTold files reads)
