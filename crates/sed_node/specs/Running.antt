-- What running over the entries of a record does: the run over the events that they come to, each sent datagram put as
-- a line, and what a crash at any moment leaves.
use Rattle.std.specs.Prelude.{◌≡◌, ◌≤◌, ◌<◌, ◌+◌, ◌-◌, ℕ, Bool, IsTrue, if◌then◌else◌, map, length}
use Rattle.std.specs.Prelude.{List, [], ◌∷◌, ◌++◌, Option, ⊤}
use Rattle.std.specs.List.{flat_map}
use Rattle.sed_outside.specs.Sink.{PutsFront, with_text}
use Rattle.disk_model.specs.Disk.{Image, Meaning as DiskMeaning}
use Rattle.app_save.specs.Run.{IsRun}
use Rattle.sed_outside.specs.Counts.{counted}
use Rattle.sed_engine.specs.declared.engine.Engine.{Ghosts}
use Rattle.sed_engine.specs.Code.{Meaning}
use Rattle.comp_tree.specs.Application.{Application}
use Rattle.app_file.specs.Opens.{Opens}
use Rattle.app_file.specs.Reading.{IsFile}
use Rattle.replay_log.specs.Entry.{Entry, datagram, tick}
use Rattle.dasp_session.specs.Outbox.{AreTexts, Datagram}
use Rattle.printed_app.specs.Datagram.{datagram_text}
use Rattle.node_events.specs.Handling.{AreHandledAs, Handled}
use Rattle.node_events.specs.Node.{Node, Setup}
use Rattle.node_events.specs.Running.{Event, Reached, offered, run, saves_of}
use Rattle.node_events.specs.Saving.{Save}
use Rattle.sed_node.specs.Handling.{AddsAlone, AreFiles, AreSaved, Handles}
use Rattle.sed_node.specs.Standing.{StandsFor}
use Rattle.sed_node.specs.declared.kept.Kept.{Kept}
use Rattle.sed_node.specs.declared.running.RunEnd.{RunEnd}

-- ---- lines

abbrev pub line_of : Datagram → List ℕ
line_of sent = datagram_text sent.to sent.bytes

abbrev pub lines_of : List Datagram → List ℕ
lines_of sent = flat_map line_of sent

-- ---- counts

-- the counts of what was reached
pub record IsEnd (ended : RunEnd) (r : Reached) : Type 0 where
  pub cycles : ended.cycles ≡ counted r.counts.ticks
  pub taken : ended.taken ≡ counted r.counts.taken
  pub offered_are : ended.offered ≡ counted (offered r)
  pub traps : ended.traps ≡ counted r.counts.traps

abbrev pub ticks_in : Entry → ℕ
ticks_in (datagram sender bytes) = 0
ticks_in (tick moment) = 1

abbrev pub datagrams_in : Entry → ℕ
datagrams_in (datagram sender bytes) = 1
datagrams_in (tick moment) = 0

-- the counts with one entry more, after which so many datagrams were sent and so many root calls trapped
pub record CountsOne (entry : Entry) (sent traps : ℕ) (old new : RunEnd) : Type 0 where
  pub cycles : new.cycles ≡ counted (old.cycles + ticks_in entry)
  pub taken : new.taken ≡ counted (old.taken + datagrams_in entry)
  pub offered_are : new.offered ≡ counted (old.offered + sent)
  pub traps_are : new.traps ≡ counted (old.traps + traps)

-- ---- crashes

abbrev pub acknowledged_in : List Save → ℕ
acknowledged_in [] = 0
acknowledged_in (save ∷ saves) = acknowledged_in saves + (if save.acknowledged then 1 else 0)

-- the application of one of these saves, of which the first is what was opened: more than there are marks were
-- acknowledged up to it, so that it is none before the last one that was marked
pub record IsSince (saves : List Save) (marks : ℕ) (a : Application) : Type 0 where
  pub before : List Save
  pub save : Save
  pub later : List Save
  pub parted : saves ≡ before ++ save ∷ later
  pub is : a ≡ save.application
  pub not_before : marks < acknowledged_in (before ++ save ∷ [])

-- the image opens to such an application
pub record OpensSince (m : Meaning) (saves : List Save) (marks : ℕ) (image : Image) : Type 0 where
  pub application : Application
  pub since : IsSince saves marks application
  pub opens : Opens m application.components.limit image application

-- A store was opened to an application, and nothing was saved until this run began. From the opening on, each image
-- that a crash at a moment may leave opens to an application that was opened or saved, and to none before the last one
-- acknowledged by then: as many were as marks were made.
abbrev pub CrashesOpen : {D : Type 0} → (D → DiskMeaning) → Meaning → ℕ → (Application → List Save) → D → D → Type 0
CrashesOpen {D} meaning m slot saves old new =
    IsTrue (meaning old).tells → IsTrue (meaning old).tells_marks
    → (start : D) (opened : Application) (payload : List ℕ) → IsFile m opened.components.limit payload opened
    → IsRun slot payload [] (meaning start) (meaning old)
    → (moment : ℕ) (image : Image) → (meaning start).now ≤ moment → moment ≤ (meaning new).now
    → (meaning new).leaves moment image
    → OpensSince m (saves opened) ((meaning new).marks moment - (meaning start).marks (meaning start).now) image

-- ---- a run

-- none of these counts of the disk's faults falls, from so many up to so many
abbrev pub AreCounted : List Handled → ℕ → ℕ → Type 0
AreCounted [] before now = now ≡ before
AreCounted (handled ∷ later) before now =
    (handled.before ≡ before) × (before ≤ handled.now) × AreCounted later handled.now now

-- in none of these events anything but an add wanted memory
abbrev pub AllAddAlone : List Event → Type 0
AllAddAlone [] = ⊤
AllAddAlone (event ∷ events) = AddsAlone event × AllAddAlone events

-- the events that entries come to, where the disk's faults were counted from so many up to so many
pub record ComesTo (fixed : Bool) (entries : List Entry) (before now : ℕ) (events : List Event) : Type 0 where
  pub handled : List Handled
  pub entries_are : map (λ (h : Handled). h.entry) handled ≡ entries
  pub counts : AreCounted handled before now
  pub events_are : AreHandledAs fixed handled events
  pub adds_alone : AllAddAlone events

-- entries were handled as these events, and these are the datagrams that were sent
pub record Runs {E D : Type 0} (g : Ghosts E) (meaning : D → DiskMeaning) (fixed : Bool) (m : Meaning) (s : Setup)
    (new : Kept E) (n : Node) (entries : List Entry) (events : List Event) (sent : List Datagram) (before after : D)
    : Type 0 where
  pub comes : ComesTo fixed entries (meaning before).faults (meaning after).faults events
  pub stands : StandsFor g new (run m s n events).node
  pub sends : AreTexts (run m s n events).sent sent
  pub disk : AreSaved meaning m s.slot (run m s n events).saves before after
  pub files : AreFiles m (run m s n events).saves
  pub crashes : CrashesOpen meaning m s.slot (λ opened. saves_of m s opened n events) before after

-- all entries were handled, and each datagram that was sent was put as a line, in their order
pub record RunsAll {E D : Type 0} (g : Ghosts E) (meaning : D → DiskMeaning) (fixed : Bool) (m : Meaning) (s : Setup)
    (new : Kept E) (n : Node) (entries : List Entry) (ended : RunEnd) (text text_now : Option (List ℕ))
    (before after : D) : Type 0 where
  pub events : List Event
  pub sent : List Datagram
  pub runs : Runs g meaning fixed m s new n entries events sent before after
  pub text_is : text_now ≡ with_text text (lines_of sent)
  pub ends : IsEnd ended (run m s n events)

-- the first entries were handled: each datagram that was sent before the last of their events was put as a line, and of
-- the lines of that event a front
pub record RunsUntil {E D : Type 0} (g : Ghosts E) (meaning : D → DiskMeaning) (fixed : Bool) (m : Meaning) (s : Setup)
    (new : Kept E) (n : Node) (entries : List Entry) (text text_now : Option (List ℕ)) (before after : D)
    : Type 0 where
  pub done : List Entry
  pub left : List Entry
  pub parted : entries ≡ done ++ left
  pub earlier : List Event
  pub last : Event
  pub sent : List Datagram
  pub sent_last : List Datagram
  pub runs : Runs g meaning fixed m s new n done (earlier ++ last ∷ []) (sent ++ sent_last) before after
  pub sent_are : AreTexts (run m s n earlier).sent sent
  pub text_is : PutsFront (with_text text (lines_of sent)) text_now (lines_of sent_last)

-- one entry was handled and counted
pub record Steps {E D : Type 0} (g : Ghosts E) (meaning : D → DiskMeaning) (fixed : Bool) (m : Meaning) (s : Setup)
    (new : Kept E) (n : Node) (entry : Entry) (sent : List Datagram) (counts counts_now : RunEnd) (before after : D)
    : Type 0 where
  pub traps : ℕ
  pub handles : Handles g meaning fixed m s new n entry traps sent before after
  pub counts_are : CountsOne entry (length sent) traps counts counts_now
