-- An input file that is read, and what its text decides.
use Rattle.std.proofs.Common.{◌≡◌, List, ℕ, Result, Ok, Err, subst}
use Rattle.sed_outside.specs.declared.files.Files.{Ghosts}
use Rattle.sed_outside.specs.Steps.{Decides, UnlessFree}
use Rattle.sed_outside.specs.Reads.{HasReads, TextOf}
use Rattle.sed_outside.proofs.Joining.{stops_then, decides_then}
use Rattle.input_files.specs.declared.refusal.InputRefusal.{InputRefusal}
use Rattle.input_files.specs.declared.refusal.InputRefusal.TheVariants.{FileFault}
use Rattle.input_files.specs.Refusals.{is_want}
use Rattle.input_files.specs.Inputs.{InputRead}

-- the file is read, and its text decides
pub input_read : {T X : Type 0} (F : Ghosts T) (a b : T) (Holds : List ℕ → Result X InputRefusal → Type 0) (name text given : List ℕ) (end : Result X InputRefusal)
    → HasReads F a b (λ reads. TextOf name (FileFault name) reads (Ok text)) → given ≡ text → UnlessFree is_want (Holds given) end
    → HasReads F a b (λ reads. UnlessFree is_want (InputRead Holds name reads) end)
input_read F a b Holds name text given end gave same holds =
    decides_then F a b is_want (TextOf name (FileFault name)) Holds text end gave
    (subst (λ (t : List ℕ). UnlessFree is_want (Holds t) end) same holds)

-- it cannot be read
pub input_stops : {T X : Type 0} (F : Ghosts T) (a b : T) (Holds : List ℕ → Result X InputRefusal → Type 0) (name : List ℕ) (refusal : InputRefusal)
    → HasReads F a b (λ reads. UnlessFree is_want (TextOf name (FileFault name) reads) (Err refusal))
    → HasReads F a b (λ reads. UnlessFree is_want (InputRead Holds name reads) (Err refusal))
input_stops F a b Holds name refusal gave =
    stops_then F a b is_want (TextOf name (FileFault name)) (λ text. Decides (Holds text)) refusal gave
