-- What is asked of files and of a disk, one behind the other.
use Rattle.std.proofs.Common.{◌≡◌, ℕ, true, List, [], ◌∷◌, ◌++◌, Some, None, refl, ap, subst, ◌∙◌, inl, inr}
use Rattle.std.proofs.lemmas.List.{append-nil}
use Rattle.std.proofs.lemmas.Grind.{flat_map-append}
use Rattle.std.specs.Prelude.{Option}
use Rattle.std.specs.List.{list_all}
use Rattle.sed_outside.specs.Cause.{HasCause}
use Rattle.sed_outside.specs.declared.files.Files.{Ghosts as FileGhosts}
use Rattle.disk_model.specs.declared.disk.Disk.{Ghosts as DiskGhosts}
use Rattle.sed_outside.specs.Steps.{Read}
use Rattle.sed_outside.specs.Reads.{HasReads}
use Rattle.sed_outside.proofs.Joining.{same_reads}
use Rattle.sedona_cli.specs.Outside.{Ask, read_of, reads_in, of_reads, is_of_files, spares, Spares, AreAsked, AsksDisk, HasAsks, AttachesIfAny}

-- ---- reads alone

pub reads_of_reads : (reads : List Read) → reads_in (of_reads reads) ≡ reads
reads_of_reads [] = refl
reads_of_reads (read ∷ reads) = ap (λ (rest : List Read). read ∷ rest) (reads_of_reads reads)

-- the reads among them, and what asks for no file behind them
pub reads_before : (reads : List Read) (asks : List Ask) → reads_in asks ≡ [] → reads_in (of_reads reads ++ asks) ≡ reads
reads_before reads asks none =
    flat_map-append read_of (of_reads reads) asks
    ∙ ap (λ (front : List Read). front ++ reads_in asks) (reads_of_reads reads)
    ∙ ap (λ (back : List Read). reads ++ back) none
    ∙ append-nil reads

spared_reads : (reads : List Read) → list_all spares (of_reads reads) ≡ true
spared_reads [] = refl
spared_reads (read ∷ reads) = spared_reads reads

pub read_reads : (reads : List Read) → list_all is_of_files (of_reads reads) ≡ true
read_reads [] = refl
read_reads (read ∷ reads) = read_reads reads

pub reads_spare : (store : Option (List ℕ)) (reads : List Read) → Spares store (of_reads reads)
reads_spare store reads = record { unwritten = spared_reads reads; attached = inl (read_reads reads) }

-- what stands behind reads
spared_behind : (reads : List Read) (asks : List Ask) → list_all spares (of_reads reads ++ asks) ≡ list_all spares asks
spared_behind [] asks = refl
spared_behind (read ∷ reads) asks = spared_behind reads asks

first_behind : (store : Option (List ℕ)) (reads : List Read) (asks : List Ask) → AttachesIfAny store asks → AttachesIfAny store (of_reads reads ++ asks)
first_behind None reads asks first = absurd first
first_behind (Some store) [] asks first = first
first_behind (Some store) (read ∷ reads) asks first = first_behind (Some store) reads asks first

pub read_behind : (reads : List Read) (asks : List Ask) → list_all is_of_files (of_reads reads ++ asks) ≡ list_all is_of_files asks
read_behind [] asks = refl
read_behind (read ∷ reads) asks = read_behind reads asks

pub spares_behind : (store : Option (List ℕ)) (reads : List Read) (asks : List Ask) → Spares store asks → Spares store (of_reads reads ++ asks)
spares_behind store reads asks spared = record {
  unwritten = spared_behind reads asks ∙ spared.unwritten;
  attached = elim spared.attached [
    | inl none ↦ inl (read_behind reads asks ∙ none)
    | inr one ↦ inr (first_behind store reads asks one)
  ];
}

-- ---- a disk

pub both_asked : {T : Type 0} (D : DiskGhosts T) (front back : List Ask) (a b c : T) → AreAsked D front a b → AreAsked D back b c → AreAsked D (front ++ back) a c
both_asked D [] back a b c first second = subst (λ t. AreAsked D back t c) first second
both_asked D (ask ∷ front) back a b c first second = (first.0, first.1, both_asked D front back first.0 b c first.2 second)

pub reads_asked : {T : Type 0} (D : DiskGhosts T) (reads : List Read) (d : T) → AreAsked D (of_reads reads) d d
reads_asked D [] d = refl
reads_asked D (read ∷ reads) d = (d, refl, reads_asked D reads d)

-- what is asked behind reads is asked of the same disk
pub asked_behind : {T : Type 0} (D : DiskGhosts T) (reads : List Read) (rest : List Ask) (d e : T) → AreAsked D (of_reads reads ++ rest) d e → AreAsked D rest d e
asked_behind D [] rest d e asked = asked
asked_behind D (read ∷ reads) rest d e asked = subst (λ t. AreAsked D rest t e) asked.1 (asked_behind D reads rest asked.0 e asked.2)

pub reads_leave : {T : Type 0} (D : DiskGhosts T) (reads : List Read) (d e : T) → AreAsked D (of_reads reads) d e → e ≡ d
reads_leave D [] d e asked = asked
reads_leave D (read ∷ reads) d e asked = reads_leave D reads asked.0 e asked.2 ∙ asked.1

pub same_disk : {T : Type 0} (D : DiskGhosts T) (a b : T) (P Q : List Ask → Type 0) → ((asks : List Ask) → P asks → Q asks) → AsksDisk D a b P → AsksDisk D a b Q
same_disk D a b P Q map has = record { asks = has.asks; unread = has.unread; asked = has.asked; holds = map has.asks has.holds }

pub both_disk : {T : Type 0} (D : DiskGhosts T) (a b c : T) (P Q R : List Ask → Type 0) → ((front back : List Ask) → P front → Q back → R (front ++ back))
    → AsksDisk D a b P → AsksDisk D b c Q → AsksDisk D a c R
both_disk D a b c P Q R join first second = record {
  asks = first.asks ++ second.asks;
  unread = flat_map-append read_of first.asks second.asks ∙ ap (λ (front : List Read). front ++ reads_in second.asks) first.unread ∙ second.unread;
  asked = both_asked D first.asks second.asks a b c first.asked second.asked;
  holds = join first.asks second.asks first.holds second.holds;
}

-- ---- files, and then a disk

-- files alone
pub only_reads : {S T : Type 0} (F : FileGhosts S) (D : DiskGhosts T) (a b : S) (d : T) (P : List Ask → Type 0) → HasReads F a b (λ reads. P (of_reads reads)) → HasAsks F D a b d d P
only_reads F D a b d P has =
    same_reads F a b (λ reads. P (of_reads reads)) (λ reads. (asks : List Ask) × (reads_in asks ≡ reads) × AreAsked D asks d d × P asks)
    (λ reads holds. (of_reads reads, reads_of_reads reads, reads_asked D reads d, holds)) has

pub then_disk : {S T : Type 0} (F : FileGhosts S) (D : DiskGhosts T) (a b : S) (d e : T) (Q : List Read → Type 0) (P R : List Ask → Type 0)
    → ((reads : List Read) (asks : List Ask) → Q reads → P asks → R (of_reads reads ++ asks)) → HasReads F a b Q → AsksDisk D d e P → HasAsks F D a b d e R
then_disk F D a b d e Q P R join has asked =
    same_reads F a b Q (λ reads. (asks : List Ask) × (reads_in asks ≡ reads) × AreAsked D asks d e × R asks)
    (λ reads held. (
      of_reads reads ++ asked.asks,
      reads_before reads asked.asks asked.unread,
      both_asked D (of_reads reads) asked.asks d d e (reads_asked D reads d) asked.asked,
      join reads asked.asks held asked.holds,
    )) has

-- the same asked
pub same_asks : {S T : Type 0} (F : FileGhosts S) (D : DiskGhosts T) (a b : S) (d e : T) (P Q : List Ask → Type 0) → ((asks : List Ask) → P asks → Q asks) → HasAsks F D a b d e P → HasAsks F D a b d e Q
same_asks F D a b d e P Q map has =
    same_reads F a b (λ reads. (asks : List Ask) × (reads_in asks ≡ reads) × AreAsked D asks d e × P asks) (λ reads. (asks : List Ask) × (reads_in asks ≡ reads) × AreAsked D asks d e × Q asks)
    (λ reads held. (held.0, held.1, held.2, map held.0 held.3)) has

-- a cause told by another fact
pub cause_as : (before now : ℕ) (P Q : Type 0) → (P → Q) → (Q → P) → HasCause before now P → HasCause before now Q
cause_as before now P Q there back cause = record {
  later = cause.later;
  failed = λ q. cause.failed (back q);
  steady = λ none. cause.steady (λ p. none (there p));
}
