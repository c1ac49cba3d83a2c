-- The steps of commands that end with the write of their output file, put together from what their calls did.
use Rattle.std.proofs.Common.{◌≡◌, ℕ, List, [], ◌∷◌, ◌++◌, None, Result, Ok, Err, refl, sym, subst, inl}
use Rattle.std.specs.Prelude.{IsErrOf, IsSome, OnOk}
use Rattle.std.proofs.lemmas.List.{append-nil}
use Rattle.sed_outside.specs.Cause.{HasCause}
use Rattle.sed_outside.specs.Files.{KeepsCounts, KeepsOthers, WritesFile}
use Rattle.sed_outside.specs.declared.files.Files.{Ghosts as FileGhosts}
use Rattle.sed_outside.specs.declared.files.FileFault.{FileFault as FileFailure}
use Rattle.sed_outside.specs.declared.files.FileFault.TheVariants.{Failed, Memory as NoMemory}
use Rattle.sed_outside.specs.Steps.{Read, AndThen, stops, goes_on, UnlessFree}
use Rattle.sed_outside.specs.Reads.{HasReads}
use Rattle.sed_outside.proofs.Joining.{same_reads}
use Rattle.sedona_cli.specs.declared.refusal.Refusal.{Refusal}
use Rattle.sedona_cli.specs.declared.refusal.Refusal.TheVariants.{Memory}
use Rattle.sedona_cli.specs.Outside.{Ask, Writes, Written, Unwritten, Withheld, Spares, of_reads}
use Rattle.sedona_cli.specs.Program.{OrWants}
use Rattle.sedona_cli.specs.Refusals.{is_want, of_write}
use Rattle.sedona_cli.specs.Steps.{FileWritten, done_text}
use Rattle.sedona_cli.specs.Writing.{HasOutput, HasWrite, nothing, once}
use Rattle.sedona_cli.proofs.Asking.{cause_as, reads_spare, spares_behind}
use Rattle.sedona_cli.proofs.Building.{match_both}
use Rattle.sedona_cli.proofs.WritingLast.{WritesLast}

-- how a write that ended so is answered
abbrev pub write_answer : List ℕ → List ℕ → Result (Unit {0}) FileFailure → Result (List ℕ) Refusal
write_answer name text (Ok u) = Ok text
write_answer name text (Err fault) = Err (of_write name fault)

counts_as : (Told : Type 0) (before now : List ℕ → ℕ) (name : List ℕ) (P Q : Type 0) → (P → Q) → KeepsCounts Told before now name P → KeepsCounts Told before now name Q
counts_as Told before now name P Q there kept = record { later = kept.later; by_one = kept.by_one; steady = λ none. kept.steady (λ p. none (there p)); apart = kept.apart }

pub write_call : {S : Type 0} (F : FileGhosts S) (a b : S) (name bytes text : List ℕ) (r : Result (Unit {0}) FileFailure) → text ≡ done_text → OnOk r (WritesFile (F.known b) name bytes)
    → KeepsOthers (F.known a) (F.known b) name → HasCause (F.failed_writes a name) (F.failed_writes b name) (IsErrOf r Failed)
    → KeepsCounts (IsSome (F.known a)) (F.failed_writes a) (F.failed_writes b) name (IsErrOf r Failed) → F.failed_reads b ≡ F.failed_reads a
    → HasWrite F name a b (λ asks. OrWants None (FileWritten name bytes) asks (write_answer name text r))
write_call F a b name bytes text (Ok u) done ok others cause counts reads =
    let r : Result (Unit {0}) FileFailure = Ok u in
    once bytes Written
    (record {
      told = λ same. ok;
      others = others;
      cause = cause_as _ _ (IsErrOf r Failed) (Written ≡ Unwritten) (λ (failed : IsErrOf r Failed). absurd (cc)) (λ (same : Written ≡ Unwritten). absurd (cc)) cause;
      counts = counts_as _ _ _ name (IsErrOf r Failed) (Written ≡ Unwritten) (λ (failed : IsErrOf r Failed). absurd (cc)) counts;
      reads = reads;
    }) (refl, done)
write_call F a b name bytes text (Err Failed) done ok others cause counts reads =
    let r : Result (Unit {0}) FileFailure = Err Failed in
    once bytes Unwritten
    (record {
      told = λ same. absurd (cc);
      others = others;
      cause = cause_as _ _ (IsErrOf r Failed) (Unwritten ≡ Unwritten) (λ (failed : IsErrOf r Failed). refl) (λ (same : Unwritten ≡ Unwritten). refl) cause;
      counts = counts_as _ _ _ name (IsErrOf r Failed) (Unwritten ≡ Unwritten) (λ (failed : IsErrOf r Failed). refl) counts;
      reads = reads;
    }) (refl, refl)
write_call F a b name bytes text (Err NoMemory) done ok others cause counts reads =
    let r : Result (Unit {0}) FileFailure = Err NoMemory in
    once bytes Withheld
    (record {
      told = λ same. absurd (cc);
      others = others;
      cause = cause_as _ _ (IsErrOf r Failed) (Withheld ≡ Unwritten) (λ (failed : IsErrOf r Failed). absurd (cc)) (λ (same : Withheld ≡ Unwritten). absurd (cc)) cause;
      counts = counts_as _ _ _ name (IsErrOf r Failed) (Withheld ≡ Unwritten) (λ (failed : IsErrOf r Failed). absurd (cc)) counts;
      reads = reads;
    }) (record { unwritten = refl; attached = inl refl })

write_ends : {S : Type 0} (F : FileGhosts S) (out : List ℕ) (b c : S) (P Q : List Ask → Type 0) → ((asks : List Ask) → P asks → Q asks) → HasWrite F out b c P → HasWrite F out b c Q
write_ends F out b c P Q map (nothing is held) = nothing is (map [] held)
write_ends F out b c P Q map (once bytes how is held) = once bytes how is (map (Writes out bytes how ∷ []) held)

-- the same asked
pub same_output : {T : Type 0} (F : FileGhosts T) (out : List ℕ) (a b : T) (P Q : List Ask → Type 0) → ((asks : List Ask) → P asks → Q asks) → HasOutput F out a b P → HasOutput F out a b Q
same_output F out a b P Q map (m, has) = (
  m,
  same_reads F a m (λ reads. HasWrite F out m b (λ writes. P (of_reads reads ++ writes))) (λ reads. HasWrite F out m b (λ writes. Q (of_reads reads ++ writes)))
      (λ reads held. write_ends F out m b (λ writes. P (of_reads reads ++ writes)) (λ writes. Q (of_reads reads ++ writes)) (λ writes p. map (of_reads reads ++ writes) p) held) has,
)

-- ---- what is read, and then the write

module _ {T X : Type 0} (F : FileGhosts T) (a b : T) where
  -- it is refused as its files are read
  pub unread_output : (out : List ℕ) (P : X → List ℕ → Type 0) (S : List Ask → Result X Refusal → Type 0) (r : Result X Refusal) (refusal : Refusal) → r ≡ Err refusal
      → HasReads F a b (λ reads. UnlessFree is_want (S (of_reads reads)) r) → HasOutput F out a b (λ asks. OrWants None (AndThen S (WritesLast out P)) asks (Err refusal))
  unread_output out P S r refusal is has = (
    b,
    same_reads F a b (λ reads. UnlessFree is_want (S (of_reads reads)) r) (λ reads. HasWrite F out b b (λ writes. OrWants None (AndThen S (WritesLast out P)) (of_reads reads ++ writes) (Err refusal)))
        (λ reads held. nothing refl (subst (λ (l : List Ask). OrWants None (AndThen S (WritesLast out P)) l (Err refusal)) (sym (append-nil (of_reads reads)))
        (match_both (is_want refusal) (Unit {0}) (S (of_reads reads) (Err refusal)) (Spares None (of_reads reads)) _ (λ any. reads_spare None reads) (λ h. stops refusal h refl)
        (subst (λ (e : Result X Refusal). UnlessFree is_want (S (of_reads reads)) e) is held)))) has,
  )

  -- memory is wanted behind that
  pub wanted_output : (out : List ℕ) (P : X → List ℕ → Type 0) (S : List Ask → Result X Refusal → Type 0) (R : List Read → Type 0) (refusal : Refusal) → refusal ≡ Memory → HasReads F a b R
      → HasOutput F out a b (λ asks. OrWants None (AndThen S (WritesLast out P)) asks (Err refusal))
  wanted_output out P S R refusal is has =
      subst (λ (r : Refusal). HasOutput F out a b (λ asks. OrWants None (AndThen S (WritesLast out P)) asks (Err r))) (sym is) (
        b,
        same_reads F a b R (λ reads. HasWrite F out b b (λ writes. OrWants None (AndThen S (WritesLast out P)) (of_reads reads ++ writes) (Err Memory)))
            (λ reads held. nothing refl (subst (λ (l : List Ask). Spares None l) (sym (append-nil (of_reads reads))) (reads_spare None reads))) has,
      )

-- the bytes are written, or the write fails
output_ends : {X : Type 0} (out : List ℕ) (P : X → List ℕ → Type 0) (S : List Ask → Result X Refusal → Type 0) (i : X) (bytes : List ℕ) (reads : List Read) (writes : List Ask) (end : Result (List ℕ) Refusal)
    → P i bytes → S (of_reads reads) (Ok i) → OrWants None (FileWritten out bytes) writes end → OrWants None (AndThen S (WritesLast out P)) (of_reads reads ++ writes) end
output_ends out P S i bytes reads writes (Ok text) is read held = goes_on (of_reads reads) writes i refl read (bytes, is, held)
output_ends out P S i bytes reads writes (Err r) is read held =
    match_both (is_want r) (Spares None writes) (FileWritten out bytes writes (Err r)) (Spares None (of_reads reads ++ writes)) _ (λ spared. spares_behind None reads writes spared)
    (λ put. goes_on (of_reads reads) writes i refl read (bytes, is, put)) held

pub written_output : {T X : Type 0} (F : FileGhosts T) (a b c : T) (out : List ℕ) (P : X → List ℕ → Type 0) (S : List Ask → Result X Refusal → Type 0) (r : Result X Refusal) (i : X) (bytes : List ℕ)
    (end : Result (List ℕ) Refusal) → r ≡ Ok i → HasReads F a b (λ reads. UnlessFree is_want (S (of_reads reads)) r) → P i bytes → HasWrite F out b c (λ asks. OrWants None (FileWritten out bytes) asks end)
    → HasOutput F out a c (λ asks. OrWants None (AndThen S (WritesLast out P)) asks end)
written_output {T} {X} F a b c out P S r i bytes end is has made put = (
  b,
  same_reads F a b (λ reads. UnlessFree is_want (S (of_reads reads)) r) (λ reads. HasWrite F out b c (λ writes. OrWants None (AndThen S (WritesLast out P)) (of_reads reads ++ writes) end))
      (λ reads held. write_ends F out b c (λ asks. OrWants None (FileWritten out bytes) asks end) (λ writes. OrWants None (AndThen S (WritesLast out P)) (of_reads reads ++ writes) end)
      (λ writes wrote. output_ends out P S i bytes reads writes end made (subst (λ (e : Result X Refusal). UnlessFree is_want (S (of_reads reads)) e) is held) wrote) put) has,
)
