-- What was asked by any command, with an output file or without one.
use Rattle.std.proofs.Common.{◌≡◌, ℕ, zero, suc, List, [], ◌∷◌, ◌++◌, Option, Some, None, refl, sym, ap, subst, ◌∙◌, arith}
use Rattle.std.specs.Prelude.{Contains, IsSome}
use Rattle.sed_outside.specs.Cause.{Rose}
use Rattle.sed_outside.specs.Files.{Contents, KeepsCounts, KeepsOthers}
use Rattle.sed_outside.specs.declared.files.Files.{Ghosts as FileGhosts}
use Rattle.disk_model.specs.declared.disk.Disk.{Ghosts as DiskGhosts}
use Rattle.sed_outside.specs.Steps.{Read}
use Rattle.sed_outside.specs.Reads.{AreGiven, CountsMoved, HasReads, failed_names}
use Rattle.sedona_cli.specs.Outside.{Ask, Writes, Wrote, Written, Unwritten, Withheld, AreAsked, of_reads, reads_in}
use Rattle.sedona_cli.specs.Writing.{AsksOf, HasWrite, IsWritten, once, nothing}
use Rattle.sedona_laws.proofs.Unwritten.{unwritten_behind}
use Rattle.sedona_laws.specs.Files.{DidNotFailToWrite, KeepsFiles, KeepsWrites, unwritten_by, unwritten_in, written_in}
use Rattle.sedona_laws.proofs.Agreeing.{WritesKnown}
use Rattle.sedona_cli.proofs.Asking.{both_asked, reads_asked, reads_before}

-- ---- the counts of failed writes

-- a file that is written
rose_here : {S : Type 0} (F : FileGhosts S) (out bytes : List ℕ) (how : Wrote) (m b : S) → IsWritten F out bytes how m b → (name : List ℕ) → Contains (unwritten_by out how ++ []) name
    → Rose (F.failed_writes m name) (F.failed_writes b name)
rose_here F out bytes Written m b is name there = absurd (omega (arith, there.1))
rose_here F out bytes Withheld m b is name there = absurd (omega (arith, there.1))
rose_here F out bytes Unwritten m b is name there =
    subst (λ (n : List ℕ). Rose (F.failed_writes m n) (F.failed_writes b n)) (one_name out name there) (is.cause.failed refl)
  where
    one_name : (x y : List ℕ) → Contains (x ∷ []) y → x ≡ y
    one_name x y (zero, less, same) = same
    one_name x y (suc n, less, same) = absurd (omega (arith, less))

steady_here : {S : Type 0} (F : FileGhosts S) (out bytes : List ℕ) (how : Wrote) (m b : S) → IsWritten F out bytes how m b → unwritten_by out how ++ [] ≡ [] → (name : List ℕ) → F.failed_writes b name ≡ F.failed_writes m name
steady_here F out bytes Written m b is none name = is.counts.steady (λ same. cc) name
steady_here F out bytes Withheld m b is none name = is.counts.steady (λ same. cc) name
steady_here F out bytes Unwritten m b is none name = absurd (cc)

-- The counts of failed writes of these names rose from what they were, and none moved where there is none.
abbrev pub RoseAt : {S : Type 0} → FileGhosts S → S → (List ℕ → ℕ) → List (List ℕ) → Type 0
RoseAt F b before names =
    ((name : List ℕ) → Contains names name → Rose (before name) (F.failed_writes b name)) × (names ≡ [] → (name : List ℕ) → F.failed_writes b name ≡ before name)

-- How the counts of failed writes moved: not at all, or as the writes did.
abbrev pub WritesMoved : {S : Type 0} → FileGhosts S → Option (List ℕ) → S → S → List Ask → Type 0
WritesMoved F None a b asks = F.failed_writes b ≡ F.failed_writes a
WritesMoved F (Some out) a b asks = RoseAt F b (F.failed_writes a) (unwritten_in asks)

-- ---- all that was asked

-- What the reads gave, how the counts of failed reads moved, what that did to a disk, and how the counts of failed writes
-- moved.
pub record AllAsked {S T : Type 0} (F : FileGhosts S) (D : DiskGhosts T) (out : Option (List ℕ)) (a b : S) (d e : T) (P : List Ask → Type 0) : Type 0 where
  pub asks : List Ask
  pub given : AreGiven (F.known a) (reads_in asks)
  pub counts : CountsMoved (IsSome (F.known a)) (F.failed_reads a) (F.failed_reads b) (failed_names (reads_in asks))
  pub asked : AreAsked D asks d e
  pub writes : WritesMoved F out a b asks
  pub holds : P asks

-- reads, and then what asks for no read
then_written : {S T : Type 0} (F : FileGhosts S) (D : DiskGhosts T) (out : List ℕ) (a m b : S) (d e : T) (P : List Ask → Type 0) (Q : List Read → Type 0) (has : HasReads F a m Q) (w : List Ask) → reads_in w ≡ []
    → F.failed_reads b ≡ F.failed_reads m → AreAsked D w d e → WritesMoved F (Some out) m b w → P (of_reads has.reads ++ w) → AllAsked F D (Some out) a b d e P
then_written F D out a m b d e P Q has w none steady asked moved held =
    let same = reads_before has.reads w none in
    record {
      asks = of_reads has.reads ++ w;
      given = subst (λ (l : List Read). AreGiven (F.known a) l) (sym same) has.given;
      counts = subst (λ (l : List Read). CountsMoved (IsSome (F.known a)) (F.failed_reads a) (F.failed_reads b) (failed_names l)) (sym same)
          (subst (λ (f : List ℕ → ℕ). CountsMoved (IsSome (F.known a)) (F.failed_reads a) f (failed_names has.reads)) (sym steady) has.counts);
      asked = both_asked D (of_reads has.reads) w d d e (reads_asked D has.reads d) asked;
      writes = subst (λ (l : List (List ℕ)). RoseAt F b (F.failed_writes a) l) (sym (unwritten_behind has.reads w)) (subst (λ (f : List ℕ → ℕ). RoseAt F b f (unwritten_in w)) has.writes moved);
      holds = held;
    }

pub all_asked : {S T : Type 0} (F : FileGhosts S) (D : DiskGhosts T) (out : Option (List ℕ)) (a b : S) (d e : T) (P : List Ask → Type 0) → AsksOf F D out a b d e P → AllAsked F D out a b d e P
all_asked F D None a b d e P has = record {
  asks = has.holds.0;
  given = subst (λ (l : List Read). AreGiven (F.known a) l) (sym has.holds.1) has.given;
  counts = subst (λ (l : List Read). CountsMoved (IsSome (F.known a)) (F.failed_reads a) (F.failed_reads b) (failed_names l)) (sym has.holds.1) has.counts;
  asked = has.holds.2;
  writes = has.writes;
  holds = has.holds.3;
}
all_asked F D (Some out) a b d e P (same, (m, has)) = by has.holds
  where
    by : HasWrite F out m b (λ writes. P (of_reads has.reads ++ writes)) → AllAsked F D (Some out) a b d e P
    by (nothing is held) =
        then_written F D out a m b d e P _ has [] refl (ap F.failed_reads is) same (λ name there. absurd (omega (arith, there.1)), λ none name. ap (λ s. F.failed_writes s name) is) held
    by (once bytes how is held) =
        then_written F D out a m b d e P _ has (Writes out bytes how ∷ []) refl is.reads (d, refl, same) (rose_here F out bytes how m b is, steady_here F out bytes how m b is) held

-- ---- what stays

keeps_same : (known now : Option Contents) (name : List ℕ) → now ≡ known → KeepsOthers known now name
keeps_same None now name same = subst (λ (k : Option Contents). KeepsOthers None k name) (sym same) tt
keeps_same (Some files) now name same = subst (λ (k : Option Contents). KeepsOthers (Some files) k name) (sym same) (λ other not. refl)

pub keeps_files : {S T : Type 0} (F : FileGhosts S) (D : DiskGhosts T) (out : Option (List ℕ)) (a b : S) (d e : T) (P : List Ask → Type 0) → AsksOf F D out a b d e P → KeepsFiles F out a b
keeps_files F D None a b d e P has = has.files
keeps_files F D (Some out) a b d e P (same, (m, has)) = by has.holds
  where
    by : HasWrite F out m b (λ writes. P (of_reads has.reads ++ writes)) → KeepsOthers (F.known a) (F.known b) out
    by (nothing is held) = keeps_same (F.known a) (F.known b) out (ap F.known is ∙ has.files)
    by (once bytes how is held) = subst (λ (k : Option Contents). KeepsOthers k (F.known b) out) has.files is.others

kept_counts : {S : Type 0} (F : FileGhosts S) (out bytes : List ℕ) (how : Wrote) (m b : S) → IsWritten F out bytes how m b
    → KeepsCounts (IsSome (F.known m)) (F.failed_writes m) (F.failed_writes b) out (Rose (F.failed_writes m out) (F.failed_writes b out))
kept_counts F out bytes how m b is = record {
  later = is.counts.later;
  by_one = is.counts.by_one;
  steady = λ not. is.counts.steady (λ failed. not (is.cause.failed failed));
  apart = is.counts.apart;
}

same_counts : {S : Type 0} (F : FileGhosts S) (out : List ℕ) (m b : S) → b ≡ m → KeepsCounts (IsSome (F.known m)) (F.failed_writes m) (F.failed_writes b) out (Rose (F.failed_writes m out) (F.failed_writes b out))
same_counts F out m b same =
    subst (λ s. KeepsCounts (IsSome (F.known m)) (F.failed_writes m) (F.failed_writes s) out (Rose (F.failed_writes m out) (F.failed_writes s out))) (sym same)
    (record { later = λ other. omega arith; by_one = λ other. omega arith; steady = λ not other. refl; apart = λ told other not. refl })

pub keeps_writes : {S T : Type 0} (F : FileGhosts S) (D : DiskGhosts T) (out : Option (List ℕ)) (a b : S) (d e : T) (P : List Ask → Type 0) → AsksOf F D out a b d e P → KeepsWrites F out a b
keeps_writes F D None a b d e P has = has.writes
keeps_writes F D (Some out) a b d e P (same, (m, has)) = from_start (by has.holds)
  where
    by : HasWrite F out m b (λ writes. P (of_reads has.reads ++ writes)) → KeepsCounts (IsSome (F.known m)) (F.failed_writes m) (F.failed_writes b) out (Rose (F.failed_writes m out) (F.failed_writes b out))
    by (nothing is held) = same_counts F out m b is
    by (once bytes how is held) = kept_counts F out bytes how m b is

    from_start : KeepsCounts (IsSome (F.known m)) (F.failed_writes m) (F.failed_writes b) out (Rose (F.failed_writes m out) (F.failed_writes b out))
        → KeepsCounts (IsSome (F.known a)) (F.failed_writes a) (F.failed_writes b) out (Rose (F.failed_writes a out) (F.failed_writes b out))
    from_start kept =
        subst (λ (k : Option Contents). KeepsCounts (IsSome k) (F.failed_writes a) (F.failed_writes b) out (Rose (F.failed_writes a out) (F.failed_writes b out))) has.files
        (subst (λ (f : List ℕ → ℕ). KeepsCounts (IsSome (F.known m)) f (F.failed_writes b) out (Rose (f out) (F.failed_writes b out))) has.writes kept)

-- ---- the counts of failed writes, told

pub unmoved : {S : Type 0} (F : FileGhosts S) (out : Option (List ℕ)) (a b : S) (asks : List Ask) → WritesMoved F out a b asks → out ≡ None → (name : List ℕ) → F.failed_writes b name ≡ F.failed_writes a name
unmoved F None a b asks moved none name = ap (λ (f : List ℕ → ℕ). f name) moved
unmoved F (Some out) a b asks moved none name = absurd (cc)

pub moved_none : {S : Type 0} (F : FileGhosts S) (out : Option (List ℕ)) (a b : S) (asks : List Ask) → WritesMoved F out a b asks → unwritten_in asks ≡ [] → (name : List ℕ) → F.failed_writes b name ≡ F.failed_writes a name
moved_none F None a b asks moved none name = ap (λ (f : List ℕ → ℕ). f name) moved
moved_none F (Some out) a b asks moved none name = moved.1 none name

no_name : (names : List (List ℕ)) (name : List ℕ) → names ≡ [] → Contains names name → ⊥
no_name [] name none there = omega (arith, there.1)
no_name (n ∷ names) name none there = cc

-- no write that failed is one that is told to be done
pub writes_known : {S : Type 0} (F : FileGhosts S) (out : Option (List ℕ)) (a b : S) (made told : List Ask) → (out ≡ None → written_in told ≡ []) → WritesMoved F out a b made
    → DidNotFailToWrite (F.failed_writes a) (F.failed_writes b) told → WritesKnown made told
writes_known F None a b made told none moved unfailed = λ name here there. no_name (written_in told) name (none refl) there
writes_known F (Some out) a b made told none moved unfailed = λ name here there. unfailed name there (moved.0 name here)
