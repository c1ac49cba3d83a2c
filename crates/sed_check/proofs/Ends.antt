-- What a call that loads a program leaves.
use Rattle.std.proofs.Common.{◌≡◌, ℕ, List, [], ◌∷◌, Option, Some, None, Result, Ok, Err, refl, sym, subst, ◌∙◌, inl, inr, arith}
use Rattle.std.specs.Prelude.{◌≢◌, Contains}
use Rattle.sed_outside.specs.Cause.{Rose}
use Rattle.sed_outside.specs.Files.{Contents}
use Rattle.sed_outside.specs.declared.files.Files.{Ghosts}
use Rattle.sed_outside.specs.Steps.{Read, UnlessFree, Agree}
use Rattle.sed_outside.specs.Reads.{HasReads, AreGiven, AreKnown, failed_names}
use Rattle.sed_outside.proofs.One.{told_agree}
use Rattle.sed_typed.specs.declared.program.Program.{Program}
use Rattle.sed_check.specs.declared.refusal.KitsRefusal.{KitsRefusal}
use Rattle.sed_check.specs.declared.refusal.KitsRefusal.TheVariants.{FileFault, Refused, Rule, Memory}
use Rattle.sed_check.specs.Refusals.{is_want, HasRefusalOf, IsFileFault, EndsAs, failed_in}

-- How a load ends: what the same reads give is one, and its refusal tells the reads that failed.
pub record Ends (step : List Read → Result Program KitsRefusal → Type 0) : Type 0 where
  pub one : (reads others : List Read) (end other : Result Program KitsRefusal) → step reads end → step others other → Agree reads others
      → (reads ≡ others) × HasRefusalOf end other
  pub failed : (reads : List Read) (end : Result Program KitsRefusal) → step reads end → failed_names reads ≡ failed_in end

agrees : (known : Option Contents) (made told : List Read) → AreGiven known made → failed_names made ≡ [] → AreKnown known told → Agree made told
agrees (Some files) made told given done are = told_agree files made told given done are
agrees None made told given done are = absurd are

pub comes : {T : Type 0} (F : Ghosts T) (a b : T) (step : List Read → Result Program KitsRefusal → Type 0) (ends : Ends step) (r : Result Program KitsRefusal)
    → HasReads F a b (λ reads. UnlessFree is_want (step reads) r) → (told : List Read) (end : Result Program KitsRefusal) → AreKnown (F.known a) told → step told end
    → UnlessFree is_want (EndsAs end) r
comes F a b step ends r has told end known is = by_end r has.holds where
  same : (e : Result Program KitsRefusal) → failed_in e ≡ [] → step has.reads e → HasRefusalOf end e
  same e none held = sym (ends.one has.reads told e end held is (agrees (F.known a) has.reads told has.given (ends.failed has.reads e held ∙ none) known)).1

  by_end : (e : Result Program KitsRefusal) → UnlessFree is_want (step has.reads) e → UnlessFree is_want (EndsAs end) e
  by_end (Ok program) held = inl (same (Ok program) refl held)
  by_end (Err (FileFault file)) held = inr tt
  by_end (Err (Refused file why)) held = inl (same (Err (Refused file why)) refl held)
  by_end (Err (Rule file at rule)) held = inl (same (Err (Rule file at rule)) refl held)
  by_end (Err Memory) held = tt

pub fault_rose : {T : Type 0} (F : Ghosts T) (a b : T) (step : List Read → Result Program KitsRefusal → Type 0) (ends : Ends step) (r : Result Program KitsRefusal)
    → HasReads F a b (λ reads. UnlessFree is_want (step reads) r) → (file : List ℕ) → r ≡ Err (FileFault file) → Rose (F.failed_reads a file) (F.failed_reads b file)
fault_rose F a b step ends r has file is =
    let held : step has.reads (Err (FileFault file)) = subst (λ (e : Result Program KitsRefusal). UnlessFree is_want (step has.reads) e) is has.holds in
    let names : failed_names has.reads ≡ file ∷ [] = ends.failed has.reads (Err (FileFault file)) held in
    has.counts.rose file (subst (λ (ns : List (List ℕ)). Contains ns file) (sym names) (0, omega arith, refl))

pub fault_comes : {T : Type 0} (F : Ghosts T) (a b : T) (step : List Read → Result Program KitsRefusal → Type 0) (ends : Ends step) (r : Result Program KitsRefusal)
    → HasReads F a b (λ reads. UnlessFree is_want (step reads) r) → (file : List ℕ) → F.failed_reads b file ≢ F.failed_reads a file → UnlessFree is_want IsFileFault r
fault_comes F a b step ends r has file moved = by_end r has.holds where
  by_end : (e : Result Program KitsRefusal) → UnlessFree is_want (step has.reads) e → UnlessFree is_want IsFileFault e
  by_end (Ok program) held = absurd (moved (has.counts.steady (ends.failed has.reads (Ok program) held) file))
  by_end (Err (FileFault f)) held = tt
  by_end (Err (Refused f why)) held = absurd (moved (has.counts.steady (ends.failed has.reads (Err (Refused f why)) held) file))
  by_end (Err (Rule f at rule)) held = absurd (moved (has.counts.steady (ends.failed has.reads (Err (Rule f at rule)) held) file))
  by_end (Err Memory) held = tt
