-- What a command asks of the outside, in order, and how each was answered.
use Rattle.std.specs.Prelude.{◌≡◌, ◌≢◌, ◌⊎◌, ◌+◌, ◌*◌, ◌≤◌, ℕ, Bool, true, false, IsTrue, List, [], ◌∷◌, length, map}
use Rattle.std.specs.Prelude.{Option, Some, None}
use Rattle.std.specs.List.{flat_map, list_all}
use Rattle.sed_outside.specs.Cause.{HasCause}
use Rattle.sed_outside.specs.declared.files.Files.{Ghosts as FileGhosts}
use Rattle.disk_model.specs.Disk.{Image, Meaning, Elapses, During, Keeps, MarksUp, SyncsUp, Attaches as IsAttach}
use Rattle.sed_outside.specs.Counts.{one_more}
use Rattle.disk_model.specs.declared.disk.Disk.{Ghosts as DiskGhosts}
use Rattle.app_save.specs.Making.{NoneLonger}
use Rattle.app_save.specs.Saving.{AllOpen, AllStores, SinceSync, SyncsOnce}
use Rattle.app_save.specs.Store.{IsStore, Opens as IsOpen}
use Rattle.sed_engine.specs.Code.{Meaning as Code}
use Rattle.comp_tree.specs.Application.{Application}
use Rattle.replay_log.specs.Entry.{Entry}
use Rattle.dasp_session.specs.Letters.{Letter}
use Rattle.node_events.specs.Node.{Node, Setup}
use Rattle.node_events.specs.Running.{Event, Reached, run, saves_of, sent_by}
use Rattle.node_events.specs.Saving.{Save}
use Rattle.sed_node.specs.Handling.{AreFiles, AreSaved}
use Rattle.sed_node.specs.Running.{ComesTo, CrashesOpen}
use Rattle.sed_outside.specs.Steps.{Read}
use Rattle.sed_outside.specs.Reads.{HasReads}

-- ---- what is asked

-- how the making of a store ended: it was made, the file was not empty, or the disk failed
pub data Made : Type 0 where
  Whole : Made
  NotEmpty : Made
  Failed : Made

-- how the opening of a store ended: its newest slot holds this payload, the file is no store, the disk failed, or
-- memory was wanted for the payload
pub data Opened : Type 0 where
  Found : List ℕ → Opened
  NotAStore : Opened
  Unread : Opened
  Unheld : Opened

-- a run of a node on the store: over a code and with a setup, from this node on, the entries and the events that they
-- came to
pub record Ran : Type 0 where
  pub code : Code
  pub setup : Setup
  pub start : Node
  pub entries : List Entry
  pub events : List Event

-- how the writing of a file ended: it was written, the write failed, or memory was wanted for it
pub data Wrote : Type 0 where
  Written : Wrote
  Unwritten : Wrote
  Withheld : Wrote

-- One thing that is asked, with how it was answered: a file is read; these bytes are written into the file of a name;
-- the file of a name is attached as the store's, which is done or fails; in it a store is made, with slots of so many
-- bytes and this first payload, or is opened; a port of the link is taken, which is done or fails; on the store a node
-- is run.
pub data Ask : Type 0 where
  Reads : Read → Ask
  Writes : List ℕ → List ℕ → Wrote → Ask
  Attaches : List ℕ → Bool → Ask
  Makes : ℕ → List ℕ → Made → Ask
  Opens : Opened → Ask
  Binds : ℕ → Bool → Ask
  Runs : Ran → Ask

-- the reads among what is asked
abbrev pub read_of : Ask → List Read
read_of (Reads read) = read ∷ []
read_of (Writes name bytes how) = []
read_of (Attaches name done) = []
read_of (Makes slot payload how) = []
read_of (Opens how) = []
read_of (Binds port done) = []
read_of (Runs ran) = []

abbrev pub reads_in : List Ask → List Read
reads_in asks = flat_map read_of asks

-- what is asked where files alone are read
abbrev pub of_reads : List Read → List Ask
of_reads reads = map (λ read. Reads read) reads

-- the names that are attached
abbrev pub name_of : Ask → List (List ℕ)
name_of (Reads read) = []
name_of (Writes name bytes how) = []
name_of (Attaches name done) = name ∷ []
name_of (Makes slot payload how) = []
name_of (Opens how) = []
name_of (Binds port done) = []
name_of (Runs ran) = []

abbrev pub names_in : List Ask → List (List ℕ)
names_in asks = flat_map name_of asks

-- whether an opening leaves the store's file as it was
abbrev pub spares_opened : Opened → Bool
spares_opened (Found payload) = true
spares_opened NotAStore = true
spares_opened Unread = false
spares_opened Unheld = true

-- whether the writing of a file was not done
abbrev pub spares_written : Wrote → Bool
spares_written Written = false
spares_written Unwritten = true
spares_written Withheld = true

-- whether it leaves the store's file as it was, and no file is written by it
abbrev pub spares : Ask → Bool
spares (Reads read) = true
spares (Writes name bytes how) = spares_written how
spares (Attaches name done) = true
spares (Makes slot payload how) = false
spares (Opens how) = spares_opened how
spares (Binds port done) = true
spares (Runs ran) = false

-- whether it asks files alone
abbrev pub is_of_files : Ask → Bool
is_of_files (Reads read) = true
is_of_files (Writes name bytes how) = true
is_of_files (Attaches name done) = false
is_of_files (Makes slot payload how) = false
is_of_files (Opens how) = false
is_of_files (Binds port done) = false
is_of_files (Runs ran) = false

-- The first that is asked of the disk is that the store of this name is attached, and no other name is behind it.
abbrev pub AttachesFirst : List ℕ → List Ask → Type 0
AttachesFirst store [] = ⊥
AttachesFirst store (Reads read ∷ asks) = AttachesFirst store asks
AttachesFirst store (Writes name bytes how ∷ asks) = AttachesFirst store asks
AttachesFirst store (Attaches name done ∷ asks) = (name ≡ store) × (names_in asks ≡ [])
AttachesFirst store (Makes slot payload how ∷ asks) = ⊥
AttachesFirst store (Opens how ∷ asks) = ⊥
AttachesFirst store (Binds port done ∷ asks) = AttachesFirst store asks
AttachesFirst store (Runs ran ∷ asks) = ⊥

-- without a store none is attached
abbrev pub AttachesIfAny : Option (List ℕ) → List Ask → Type 0
AttachesIfAny None asks = ⊥
AttachesIfAny (Some store) asks = AttachesFirst store asks

-- Nothing of the store was written, and no file but where that failed or memory was wanted for it; and nothing was
-- asked of the disk, or the store attached, first and once, and no other name.
pub record Spares (store : Option (List ℕ)) (asks : List Ask) : Type 0 where
  pub unwritten : list_all spares asks ≡ true
  pub attached : (list_all is_of_files asks ≡ true) ⊎ AttachesIfAny store asks

-- ---- what that does to a disk

-- A name was attached, at the count of calls that the disk had then, or the disk failed: what a read gives and what a
-- crash may leave stay, and no mark is made. That is one call.
pub record IsAttached (name : List ℕ) (done : Bool) (old new : Meaning) : Type 0 where
  pub time : Elapses old new
  pub attached : IsAttach old.calls old.attached new.attached name
  pub keeps : IsTrue old.tells → Keeps old new
  pub marks : MarksUp old new 0
  pub syncs : SyncsUp old new 0
  pub cause : HasCause old.faults new.faults (done ≡ false)
  pub calls : new.calls ≡ one_more old.calls

-- the marks that the making of a store makes
abbrev pub marks_by : Made → ℕ
marks_by Whole = 1
marks_by NotEmpty = 0
marks_by Failed = 0

-- A store was made, with slots of S bytes and this payload: it is what a crash from then on leaves, and was made in an
-- empty file. Or the file was not empty, and stays; or the disk failed.
pub record IsMade (S : ℕ) (payload : List ℕ) (how : Made) (old new : Meaning) : Type 0 where
  pub time : Elapses old new
  pub attached : new.attached ≡ old.attached
  pub marks : MarksUp old new (marks_by how)
  pub cause : HasCause old.faults new.faults (how ≡ Failed)
  pub opens : how ≡ Whole → IsTrue old.tells → AllOpen S payload new
  pub empty : how ≡ Whole → IsTrue old.tells → length old.content ≡ 0
  pub exists : how ≡ NotEmpty → IsTrue old.tells → length old.content ≢ 0
  pub kept : IsTrue old.tells → length old.content ≢ 0 → Keeps old new
  pub bound : IsTrue old.tells → NoneLonger 0 old → During old new (λ c. length c ≤ 2 * (S + 6))

-- A store was opened: its slots have S bytes, and the newest one holds this payload.
abbrev pub HoldsPayload : List ℕ → Meaning → Meaning → Type 0
HoldsPayload payload old new = (S : ℕ) × IsOpen S old.content payload × AllOpen S payload new

abbrev pub IsNoStore : Image → Type 0
IsNoStore image = (S : ℕ) → IsStore S image → ⊥

-- Nothing was written. Where the disk did not fail what a read gives stays, one sync answered Ok, and from that on a
-- crash leaves what a read gives. It took at most five calls, whether it failed or not.
pub record IsOpened (how : Opened) (old new : Meaning) : Type 0 where
  pub time : Elapses old new
  pub attached : new.attached ≡ old.attached
  pub marks : MarksUp old new 0
  pub syncs : how ≢ Unread → SyncsOnce old new
  pub cause : HasCause old.faults new.faults (how ≡ Unread)
  pub calls : new.calls ≤ old.calls + 5
  pub moments : IsTrue old.tells → During old new (old.leaves old.now)
  pub since : IsTrue old.tells → IsTrue old.tells_syncs → SinceSync old new (λ image. image ≡ old.content)
  pub content : IsTrue old.tells → how ≢ Unread → new.content ≡ old.content
  pub found : (payload : List ℕ) → how ≡ Found payload → IsTrue old.tells → HoldsPayload payload old new
  pub no_store : how ≡ NotAStore → IsTrue old.tells → IsNoStore old.content

-- what a run came to
abbrev pub reached : Ran → Reached
reached ran = run ran.code ran.setup ran.start ran.events

-- what each of its events sent
abbrev pub sent_in : Ran → List (List Letter)
sent_in ran = sent_by ran.code ran.setup ran.start ran.events

-- the saves of a run: what was opened, which counts as acknowledged, and each save that began
abbrev pub saves_in : Application → Ran → List Save
saves_in opened ran = saves_of ran.code ran.setup opened ran.start ran.events

-- A node was run on a store with slots of its setup's size. Its entries came to its events, where the disk's faults
-- were counted before and after, and in none of them memory was wanted; its saves were done, one after another, each of
-- a text that is a file of what it saved; and what a crash at any moment leaves opens to an application that was opened
-- or saved, and to none before the last one acknowledged by then.
pub record IsRan {T : Type 0} (meaning : T → Meaning) (ran : Ran) (old new : T) : Type 0 where
  pub time : Elapses (meaning old) (meaning new)
  pub attached : (meaning new).attached ≡ (meaning old).attached
  pub slots : IsTrue (meaning old).tells → AllStores ran.setup.slot (meaning old)
  pub stores : IsTrue (meaning old).tells → AllStores ran.setup.slot (meaning new)
  pub comes : ComesTo true ran.entries (meaning old).faults (meaning new).faults ran.events
  pub saved : AreSaved meaning ran.code ran.setup.slot (reached ran).saves old new
  pub files : AreFiles ran.code (reached ran).saves
  pub crashes : CrashesOpen meaning ran.code ran.setup.slot (λ opened. saves_in opened ran) old new

-- From one disk to another this is asked of it. Reads and writes of files leave it, and so does a port that is taken.
abbrev pub IsAsked : {T : Type 0} → DiskGhosts T → Ask → T → T → Type 0
IsAsked D (Reads read) old new = new ≡ old
IsAsked D (Writes name bytes how) old new = new ≡ old
IsAsked D (Attaches name done) old new = IsAttached name done (D.meaning old) (D.meaning new)
IsAsked D (Makes slot payload how) old new = IsMade slot payload how (D.meaning old) (D.meaning new)
IsAsked D (Opens how) old new = IsOpened how (D.meaning old) (D.meaning new)
IsAsked D (Binds port done) old new = new ≡ old
IsAsked D (Runs ran) old new = IsRan D.meaning ran old new

abbrev pub AreAsked : {T : Type 0} → DiskGhosts T → List Ask → T → T → Type 0
AreAsked D [] old new = new ≡ old
AreAsked {T} D (ask ∷ asks) old new = (next : T) × IsAsked D ask old next × AreAsked D asks next new

-- ---- the outside before and after

-- This was asked of a disk, and of nothing else.
pub record AsksDisk {T : Type 0} (D : DiskGhosts T) (old new : T) (Holds : List Ask → Type 0) : Type 0 where
  pub asks : List Ask
  pub unread : reads_in asks ≡ []
  pub asked : AreAsked D asks old new
  pub holds : Holds asks

-- This was asked of files and of a disk: what the reads gave, what became of the counts of failed reads, and that no
-- file changed, is that of `HasReads`.
abbrev pub HasAsks : {S T : Type 0} → FileGhosts S → DiskGhosts T → S → S → T → T → (List Ask → Type 0) → Type 0
HasAsks F D files files_now disk disk_now Holds = HasReads F files files_now (λ reads.
    (asks : List Ask) × (reads_in asks ≡ reads) × AreAsked D asks disk disk_now × Holds asks)
