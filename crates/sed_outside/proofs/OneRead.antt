-- The read of one file.
use Rattle.std.proofs.Common.{◌≡◌, ℕ, zero, suc, List, [], ◌∷◌, Some, None, Result, Ok, Err, refl, sym, subst, arith}
use Rattle.std.specs.Prelude.{Contains, IsSome, IsErrOf, OnOk}
use Rattle.sed_outside.specs.Cause.{Rose, HasCause}
use Rattle.sed_outside.specs.Files.{ReadsFile, KeepsCounts}
use Rattle.sed_outside.specs.declared.files.Files.{Ghosts}
use Rattle.sed_outside.specs.declared.files.FileFault.{FileFault}
use Rattle.sed_outside.specs.declared.files.FileFault.TheVariants.{Failed, Memory}
use Rattle.sed_outside.specs.Steps.{UnlessFree}
use Rattle.sed_outside.specs.Reads.{TextOf, HasReads, CountsMoved, is_want}

only_one : (name other : List ℕ) → Contains (name ∷ []) other → name ≡ other
only_one name other (zero, within, is) = is
only_one name other (suc k, within, is) = absurd (omega arith)

the_one : (name other : List ℕ) → other ≡ name → Contains (name ∷ []) other
the_one name other same = (0, omega arith, sym same)

in_none : (name : List ℕ) → Contains {X = List ℕ} [] name → ⊥
in_none name (k, within, is) = omega arith

-- the counts, where the read did not fail
kept : (Told Fails : Type 0) (before now : List ℕ → ℕ) (name : List ℕ) → (Fails → ⊥) → KeepsCounts Told before now name Fails → CountsMoved Told before now []
kept Told Fails before now name done keeps = record {
  later = keeps.later;
  rose = λ other there. absurd (in_none other there);
  steady = λ none other. keeps.steady done other;
  apart = λ told other out. keeps.steady done other;
}

-- and where it failed
moved : (Told Fails : Type 0) (before now : List ℕ → ℕ) (name : List ℕ) → Fails → HasCause (before name) (now name) Fails → KeepsCounts Told before now name Fails
    → CountsMoved Told before now (name ∷ [])
moved Told Fails before now name failed cause keeps = record {
  later = keeps.later;
  rose = λ other there. subst (λ n. Rose (before n) (now n)) (only_one name other there) (cause.failed failed);
  steady = λ none other. absurd (cc);
  apart = λ told other out. keeps.apart told other (λ same. out (the_one name other same));
}

-- the answer of a read that puts the text where nothing stood
abbrev pub answer : Result (Unit {0}) FileFault → List ℕ → Result (List ℕ) FileFault
answer (Ok done) text = Ok text
answer (Err fault) text = Err fault

-- what a call that reads one file does
pub of_call : {T : Type 0} (F : Ghosts T) (before now : T) (name start text : List ℕ) (r : Result (Unit {0}) FileFault) → start ≡ []
    → OnOk r (ReadsFile (F.known before) name start text)
    → F.known now ≡ F.known before → F.failed_writes now ≡ F.failed_writes before
    → HasCause (F.failed_reads before name) (F.failed_reads now name) (IsErrOf r Failed)
    → KeepsCounts (IsSome (F.known before)) (F.failed_reads before) (F.failed_reads now) name (IsErrOf r Failed)
    → HasReads F before now (λ reads. UnlessFree is_want (TextOf name Failed reads) (answer r text))
of_call F before now name start text (Ok done) empty ok files writes cause keeps =
    let reads : ReadsFile (F.known before) name [] text = subst (λ (s : List ℕ). ReadsFile (F.known before) name s text) empty ok in
    record {
      reads = (record { name = name; gave = Some text }) ∷ [];
      given = (record { small = reads.small; told = reads.told }, tt);
      counts = kept (IsSome (F.known before)) (IsErrOf {T = Unit {0}} (Ok done) Failed) (F.failed_reads before) (F.failed_reads now) name (λ (h : IsErrOf {T = Unit {0}} (Ok done) Failed). cc) keeps;
      holds = refl;
      files = files;
      writes = writes;
    }
of_call F before now name start text (Err Failed) empty ok files writes cause keeps = record {
  reads = (record { name = name; gave = None }) ∷ [];
  given = (tt, tt);
  counts = moved (IsSome (F.known before)) (IsErrOf {T = Unit {0}} (Err Failed) Failed) (F.failed_reads before) (F.failed_reads now) name refl cause keeps;
  holds = (refl, refl);
  files = files;
  writes = writes;
}
of_call F before now name start text (Err Memory) empty ok files writes cause keeps = record {
  reads = [];
  given = tt;
  counts = kept (IsSome (F.known before)) (IsErrOf {T = Unit {0}} (Err Memory) Failed) (F.failed_reads before) (F.failed_reads now) name (λ (h : IsErrOf {T = Unit {0}} (Err Memory) Failed). cc) keeps;
  holds = tt;
  files = files;
  writes = writes;
}
