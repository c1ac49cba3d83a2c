-- Why an input file is refused, and how a step that reads one ends.
use Rattle.std.specs.Prelude.{◌≡◌, ◌⊎◌, ℕ, Bool, true, false, List, [], ◌∷◌, Result, Ok, Err}
use Rattle.input_files.specs.declared.refusal.InputRefusal.{InputRefusal}
use Rattle.input_files.specs.declared.refusal.InputRefusal.TheVariants.{FileFault, BadUsers, ShortSecret, BadRecord}
use Rattle.input_files.specs.declared.refusal.InputRefusal.TheVariants.{BadImage, BrokenRule, Memory}

-- it is want of memory
abbrev pub is_want : InputRefusal → Bool
is_want (FileFault file) = false
is_want BadUsers = false
is_want ShortSecret = false
is_want (BadRecord at) = false
is_want (BadImage at) = false
is_want (BrokenRule method at rule) = false
is_want Memory = true

-- the names of the reads that failed, by the refusal, and by how it ended
abbrev pub failed_of : InputRefusal → List (List ℕ)
failed_of (FileFault file) = file ∷ []
failed_of BadUsers = []
failed_of ShortSecret = []
failed_of (BadRecord at) = []
failed_of (BadImage at) = []
failed_of (BrokenRule method at rule) = []
failed_of Memory = []

abbrev pub failed_in : {X : Type 0} → Result X InputRefusal → List (List ℕ)
failed_in (Ok value) = []
failed_in (Err refusal) = failed_of refusal

-- The file could not be read.
abbrev pub IsFileFault : {X : Type 0} → Result X InputRefusal → Type 0
IsFileFault (Ok value) = ⊥
IsFileFault (Err (FileFault file)) = Unit {0}
IsFileFault (Err BadUsers) = ⊥
IsFileFault (Err ShortSecret) = ⊥
IsFileFault (Err (BadRecord at)) = ⊥
IsFileFault (Err (BadImage at)) = ⊥
IsFileFault (Err (BrokenRule method at rule)) = ⊥
IsFileFault (Err Memory) = ⊥

-- It ends as the other does, or the file could not be read.
abbrev pub EndsAs : {X : Type 0} → Result X InputRefusal → Result X InputRefusal → Type 0
EndsAs end other = (other ≡ end) ⊎ IsFileFault other
