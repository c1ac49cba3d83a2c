-- What a call that reads an input file leaves.
use Rattle.std.proofs.Common.{◌≡◌, ℕ, List, [], ◌∷◌, Some, None, Result, Ok, Err, refl, sym, subst, ◌∙◌, inl, inr, arith}
use Rattle.std.specs.Prelude.{◌≢◌, Contains, Option}
use Rattle.sed_outside.specs.Cause.{Rose}
use Rattle.sed_outside.specs.Files.{Contents}
use Rattle.sed_outside.specs.declared.files.Files.{Ghosts}
use Rattle.sed_outside.specs.Steps.{Read, UnlessFree, Agree}
use Rattle.sed_outside.specs.Reads.{HasReads, AreGiven, AreKnown, failed_names}
use Rattle.sed_outside.proofs.One.{IsOne, told_agree}
use Rattle.input_files.specs.declared.refusal.InputRefusal.{InputRefusal}
use Rattle.input_files.specs.declared.refusal.InputRefusal.TheVariants.{FileFault, BadUsers, ShortSecret, BadRecord, BadImage, BrokenRule, Memory}
use Rattle.input_files.specs.Refusals.{is_want, IsFileFault, EndsAs, failed_in}

-- How a step ends: what the same reads give is one, and its refusal tells the reads that failed.
pub record Ends {X : Type 0} (step : List Read → Result X InputRefusal → Type 0) : Type 0 where
  pub one : IsOne step
  pub failed : (reads : List Read) (end : Result X InputRefusal) → step reads end → failed_names reads ≡ failed_in end

agrees : (known : Option Contents) (made told : List Read) → AreGiven known made → failed_names made ≡ [] → AreKnown known told → Agree made told
agrees (Some files) made told given done are = told_agree files made told given done are
agrees None made told given done are = absurd are

pub comes : {T X : Type 0} (F : Ghosts T) (a b : T) (step : List Read → Result X InputRefusal → Type 0) (ends : Ends step) (r : Result X InputRefusal)
    → HasReads F a b (λ reads. UnlessFree is_want (step reads) r) → (told : List Read) (end : Result X InputRefusal) → AreKnown (F.known a) told → step told end
    → UnlessFree is_want (EndsAs end) r
comes {T} {X} F a b step ends r has told end known is = by_end r has.holds where
  same : (e : Result X InputRefusal) → failed_in e ≡ [] → step has.reads e → e ≡ end
  same e none held = (ends.one has.reads told e end held is (agrees (F.known a) has.reads told has.given (ends.failed has.reads e held ∙ none) known)).1

  by_end : (e : Result X InputRefusal) → UnlessFree is_want (step has.reads) e → UnlessFree is_want (EndsAs end) e
  by_end (Ok value) held = inl (same (Ok value) refl held)
  by_end (Err (FileFault file)) held = inr tt
  by_end (Err BadUsers) held = inl (same (Err BadUsers) refl held)
  by_end (Err ShortSecret) held = inl (same (Err ShortSecret) refl held)
  by_end (Err (BadRecord at)) held = inl (same (Err (BadRecord at)) refl held)
  by_end (Err (BadImage at)) held = inl (same (Err (BadImage at)) refl held)
  by_end (Err (BrokenRule method at rule)) held = inl (same (Err (BrokenRule method at rule)) refl held)
  by_end (Err Memory) held = tt

pub fault_rose : {T X : Type 0} (F : Ghosts T) (a b : T) (step : List Read → Result X InputRefusal → Type 0) (ends : Ends step) (r : Result X InputRefusal)
    → HasReads F a b (λ reads. UnlessFree is_want (step reads) r) → (file : List ℕ) → r ≡ Err (FileFault file) → Rose (F.failed_reads a file) (F.failed_reads b file)
fault_rose {T} {X} F a b step ends r has file is =
    let held : step has.reads (Err (FileFault file)) = subst (λ (e : Result X InputRefusal). UnlessFree is_want (step has.reads) e) is has.holds in
    let names : failed_names has.reads ≡ file ∷ [] = ends.failed has.reads (Err (FileFault file)) held in
    has.counts.rose file (subst (λ (ns : List (List ℕ)). Contains ns file) (sym names) (0, omega arith, refl))

pub fault_comes : {T X : Type 0} (F : Ghosts T) (a b : T) (step : List Read → Result X InputRefusal → Type 0) (ends : Ends step) (r : Result X InputRefusal)
    → HasReads F a b (λ reads. UnlessFree is_want (step reads) r) → (file : List ℕ) → F.failed_reads b file ≢ F.failed_reads a file → UnlessFree is_want IsFileFault r
fault_comes {T} {X} F a b step ends r has file moved = by_end r has.holds where
  still : (e : Result X InputRefusal) → failed_in e ≡ [] → step has.reads e → ⊥
  still e none held = moved (has.counts.steady (ends.failed has.reads e held ∙ none) file)

  by_end : (e : Result X InputRefusal) → UnlessFree is_want (step has.reads) e → UnlessFree is_want IsFileFault e
  by_end (Ok value) held = absurd (still (Ok value) refl held)
  by_end (Err (FileFault f)) held = tt
  by_end (Err BadUsers) held = absurd (still (Err BadUsers) refl held)
  by_end (Err ShortSecret) held = absurd (still (Err ShortSecret) refl held)
  by_end (Err (BadRecord at)) held = absurd (still (Err (BadRecord at)) refl held)
  by_end (Err (BadImage at)) held = absurd (still (Err (BadImage at)) refl held)
  by_end (Err (BrokenRule method at rule)) held = absurd (still (Err (BrokenRule method at rule)) refl held)
  by_end (Err Memory) held = tt
