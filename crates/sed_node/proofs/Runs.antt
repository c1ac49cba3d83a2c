-- A run with one entry more.
use Rattle.std.proofs.Common.{◌≡◌, ◌∙◌, ◌≤◌, ◌+◌, ℕ, Bool, List, [], ◌∷◌, ◌++◌, length, refl, sym, ap, subst}
use Rattle.std.proofs.Common.{append_assoc, length-append, arith}
use Rattle.std.specs.Prelude.{map, Option}
use Rattle.std.proofs.lemmas.List.{append-nil}
use Rattle.sed_outside.specs.Counts.{counted}
use Rattle.sed_outside.specs.Cause.{Rose}
use Rattle.sed_outside.specs.Sink.{PutsFront, with_text}
use Rattle.disk_model.specs.Disk.{Elapses, Meaning as DiskMeaning}
use Rattle.sed_engine.specs.declared.engine.Engine.{Ghosts}
use Rattle.sed_engine.specs.Code.{Meaning}
use Rattle.replay_log.specs.Entry.{Entry, datagram, tick}
use Rattle.dasp_session.specs.Letters.{Letter}
use Rattle.dasp_session.specs.Outbox.{AreTexts, Datagram}
use Rattle.node_events.specs.Handling.{AreHandledAs, Handled, IsHandledAs, wrong_in}
use Rattle.node_events.specs.Mishap.{MayHappen}
use Rattle.node_events.specs.Node.{Node, Setup}
use Rattle.node_events.specs.Running.{Event, IsEvent, Reached, comes, followed_by, nothing_yet, one_event, passes, run}
use Rattle.node_events.specs.Saving.{Save}
use Rattle.sed_node.specs.Handling.{AddsAlone, AreFiles, AreSaved}
use Rattle.sed_node.specs.Running.{AllAddAlone, AreCounted, ComesTo, CountsOne, IsEnd, Runs, RunsAll, RunsUntil}
use Rattle.sed_node.specs.Running.{Steps, datagrams_in, lines_of, ticks_in}
use Rattle.sed_node.specs.Standing.{SameSetup, StandsFor, code_of, is_fixed, setup_of}
use Rattle.sed_node.specs.declared.kept.Kept.{Kept}
use Rattle.sed_node.specs.declared.running.RunEnd.{RunEnd}
use Rattle.sed_node.proofs.Crashes.{crashes_open}
use Rattle.sed_node.proofs.Lines.{counted_more, lines_more, with_more, with_none}
use Rattle.sed_node.proofs.Sending.{texts_length, texts_more}

-- ---- entries and events

counts_more : (handled : List Handled) (last : Handled) (before : ℕ) → AreCounted handled before last.before
    → last.before ≤ last.now → AreCounted (handled ++ last ∷ []) before last.now
counts_more [] last before are more = (are, subst (λ (n : ℕ). n ≤ last.now) are more, refl)
counts_more (one ∷ handled) last before are more = (are.0, are.1, counts_more handled last one.now are.2 more)

handled_more : (fixed : Bool) (handled : List Handled) (events : List Event) (last : Handled) (event : Event)
    → AreHandledAs fixed handled events → IsHandledAs fixed last event
    → AreHandledAs fixed (handled ++ last ∷ []) (events ++ event ∷ [])
handled_more fixed [] [] last event are is = (is, tt {0})
handled_more fixed [] (one ∷ events) last event are is = absurd are
handled_more fixed (one ∷ handled) [] last event are is = absurd are
handled_more fixed (one ∷ handled) (other ∷ events) last event are is =
    (are.0, handled_more fixed handled events last event are.1 is)

entries_more : (handled : List Handled) (last : Handled)
    → map (λ (h : Handled). h.entry) (handled ++ last ∷ []) ≡ map (λ (h : Handled). h.entry) handled ++ last.entry ∷ []
entries_more [] last = refl
entries_more (one ∷ handled) last = ap (λ (rest : List Entry). one.entry ∷ rest) (entries_more handled last)

adds_more : (events : List Event) (event : Event) → AllAddAlone events → AddsAlone event
    → AllAddAlone (events ++ event ∷ [])
adds_more [] event all alone = (alone, tt {0})
adds_more (one ∷ events) event all alone = (all.0, adds_more events event all.1 alone)

comes_more : (fixed : Bool) (entries : List Entry) (events : List Event) (before between now : ℕ) (entry : Entry)
    (event : Event) → ComesTo fixed entries before between events → IsEvent entry event
    → MayHappen fixed (Rose between now) (wrong_in event) → AddsAlone event → between ≤ now
    → ComesTo fixed (entries ++ entry ∷ []) before now (events ++ event ∷ [])
comes_more fixed entries events before between now entry event so_far is may alone more =
    let last : Handled = record { entry = entry; before = between; now = now } in
    record {
      handled = so_far.handled ++ last ∷ [];
      entries_are = entries_more so_far.handled last
          ∙ ap (λ (first : List Entry). first ++ entry ∷ []) so_far.entries_are;
      counts = counts_more so_far.handled last before so_far.counts more;
      events_are = handled_more fixed so_far.handled events last event so_far.events_are (is, may);
      adds_alone = adds_more events event so_far.adds_alone alone;
    }

pub comes_none : (fixed : Bool) (count : ℕ) → ComesTo fixed [] count count []
comes_none fixed count =
    record { handled = []; entries_are = refl; counts = refl; events_are = tt {0}; adds_alone = tt {0} }

-- ---- saves

saved_more : {D : Type 0} (meaning : D → DiskMeaning) (m : Meaning) (slot : ℕ) (first later : List Save)
    (old middle new : D) → AreSaved meaning m slot first old middle → AreSaved meaning m slot later middle new
    → AreSaved meaning m slot (first ++ later) old new
saved_more {D} meaning m slot [] later old middle new one other =
    subst (λ (disk : D). AreSaved meaning m slot later disk new) one other
saved_more meaning m slot (save ∷ first) later old middle new one other =
    (one.0, one.1, one.2, saved_more meaning m slot first later one.0 middle new one.3 other)

files_more : (m : Meaning) (first later : List Save) → AreFiles m first → AreFiles m later → AreFiles m (first ++ later)
files_more m [] later one other = other
files_more m (save ∷ first) later one other = (one.0, files_more m first later one.1 other)

-- ---- what is reached

module _ (follow : (m : Meaning) (s : Setup) (n : Node) (first later : List Event)
    → run m s n (first ++ later) ≡ followed_by (run m s n first) (run m s (run m s n first).node later))
    (m : Meaning) (s : Setup) (n : Node) (events : List Event) (event : Event) where
  abbrev last : Reached
  last = one_event m s (run m s n events).node event

  both : run m s n (events ++ event ∷ []) ≡ followed_by (run m s n events) (followed_by last (nothing_yet last.node))
  both = follow m s n events (event ∷ [])

  node_is : (run m s n (events ++ event ∷ [])).node ≡ last.node
  node_is = ap (λ (r : Reached). r.node) both

  sent_is : (run m s n (events ++ event ∷ [])).sent ≡ (run m s n events).sent ++ last.sent
  sent_is = ap (λ (r : Reached). r.sent) both
      ∙ ap (λ (more : List Letter). (run m s n events).sent ++ more) (append-nil last.sent)

  saves_are : (run m s n (events ++ event ∷ [])).saves ≡ (run m s n events).saves ++ last.saves
  saves_are = ap (λ (r : Reached). r.saves) both
      ∙ ap (λ (more : List Save). (run m s n events).saves ++ more) (append-nil last.saves)

  ticks_are : (run m s n (events ++ event ∷ [])).counts.ticks ≡ (run m s n events).counts.ticks + last.counts.ticks
  ticks_are = let e = ap (λ (r : Reached). r.counts.ticks) both in omega (arith, e)

  taken_are : (run m s n (events ++ event ∷ [])).counts.taken ≡ (run m s n events).counts.taken + last.counts.taken
  taken_are = let e = ap (λ (r : Reached). r.counts.taken) both in omega (arith, e)

  traps_are : (run m s n (events ++ event ∷ [])).counts.traps ≡ (run m s n events).counts.traps + last.counts.traps
  traps_are = let e = ap (λ (r : Reached). r.counts.traps) both in omega (arith, e)

  sent_length : length (run m s n (events ++ event ∷ [])).sent ≡ length (run m s n events).sent + length last.sent
  sent_length = ap length sent_is ∙ length-append (run m s n events).sent last.sent

  -- one count with what is counted of one event more
  count_more : (before now all one sum : ℕ) → before ≡ counted all → now ≡ counted (before + one) → sum ≡ all + one
      → now ≡ counted sum
  count_more before now all one sum is more both =
      more ∙ ap (λ (k : ℕ). counted (k + one)) is ∙ counted_more all one ∙ ap counted (sym both)

  ticks_of : (entry : Entry) (event : Event) (n : Node) → IsEvent entry event
      → (one_event m s n event).counts.ticks ≡ ticks_in entry
  ticks_of (datagram sender bytes) (comes from heard mishap) n is = refl
  ticks_of (datagram sender bytes) (passes moment) n is = absurd is
  ticks_of (tick ticks) (comes from heard mishap) n is = absurd is
  ticks_of (tick ticks) (passes moment) n is = refl

  taken_of : (entry : Entry) (event : Event) (n : Node) → IsEvent entry event
      → (one_event m s n event).counts.taken ≡ datagrams_in entry
  taken_of (datagram sender bytes) (comes from heard mishap) n is = refl
  taken_of (datagram sender bytes) (passes moment) n is = absurd is
  taken_of (tick ticks) (comes from heard mishap) n is = absurd is
  taken_of (tick ticks) (passes moment) n is = refl

  pub ends_more : (ended ended_now : RunEnd) (entry : Entry) (sent : List Datagram) (traps : ℕ)
      → IsEnd ended (run m s n events) → IsEvent entry event → AreTexts last.sent sent → traps ≡ last.counts.traps
      → CountsOne entry (length sent) traps ended ended_now → IsEnd ended_now (run m s n (events ++ event ∷ []))
  ends_more ended ended_now entry sent traps ends is sends trapped counts =
      let r = run m s n events in
      let all = run m s n (events ++ event ∷ []) in
      record {
        cycles = count_more ended.cycles ended_now.cycles r.counts.ticks (ticks_in entry) all.counts.ticks ends.cycles
            counts.cycles (ticks_are ∙ ap (λ (k : ℕ). r.counts.ticks + k) (ticks_of entry event r.node is));
        taken = count_more ended.taken ended_now.taken r.counts.taken (datagrams_in entry) all.counts.taken ends.taken
            counts.taken (taken_are ∙ ap (λ (k : ℕ). r.counts.taken + k) (taken_of entry event r.node is));
        offered_are = count_more ended.offered ended_now.offered (length r.sent) (length sent) (length all.sent)
            ends.offered_are counts.offered_are
            (sent_length ∙ ap (λ (k : ℕ). length r.sent + k) (sym (texts_length last.sent sent sends)));
        traps = count_more ended.traps ended_now.traps r.counts.traps traps all.counts.traps ends.traps
            counts.traps_are (traps_are ∙ ap (λ (k : ℕ). r.counts.traps + k) (sym trapped));
      }

  pub runs_more : {E D : Type 0} (g : Ghosts E) (meaning : D → DiskMeaning) (fixed : Bool) (middle new : Kept E)
      (entries : List Entry) (entry : Entry) (sent now : List Datagram) (before between after : D)
      → Runs g meaning fixed m s middle n entries events sent before between
      → IsEvent entry event → MayHappen fixed (Rose (meaning between).faults (meaning after).faults) (wrong_in event)
      → AddsAlone event → (meaning between).faults ≤ (meaning after).faults
      → StandsFor g new last.node → AreTexts last.sent now → AreSaved meaning m s.slot last.saves between after
      → AreFiles m last.saves
      → Runs g meaning fixed m s new n (entries ++ entry ∷ []) (events ++ event ∷ []) (sent ++ now) before after
  runs_more g meaning fixed middle new entries entry sent now before between after so_far is may alone more stands
      sends saved files =
      let disk = saved_more meaning m s.slot (run m s n events).saves last.saves before between after so_far.disk
      saved in
      let all_files = files_more m (run m s n events).saves last.saves so_far.files files in
      let disk_all = subst (λ (saves : List Save). AreSaved meaning m s.slot saves before after) (sym saves_are) disk in
      let files_all = subst (AreFiles m) (sym saves_are) all_files in
      record {
        comes = comes_more fixed entries events (meaning before).faults (meaning between).faults (meaning after).faults
            entry event so_far.comes is may alone more;
        stands = subst (λ (reached : Node). StandsFor g new reached) (sym node_is) stands;
        sends = subst (λ (letters : List Letter). AreTexts letters (sent ++ now)) (sym sent_is)
            (texts_more (run m s n events).sent last.sent sent now so_far.sends sends);
        disk = disk_all;
        files = files_all;
        crashes = crashes_open meaning m s.slot (run m s n (events ++ event ∷ [])).saves before after disk_all
            files_all;
      }

-- ---- in the course of a run

-- so far these entries were handled and the others are left
pub record Ran {E D : Type 0} (g : Ghosts E) (meaning : D → DiskMeaning) (fixed : Bool) (m : Meaning) (s : Setup)
    (new : Kept E) (n : Node) (entries left : List Entry) (ended : RunEnd) (text text_now : Option (List ℕ))
    (before after : D) : Type 0 where
  pub done : List Entry
  pub parted : entries ≡ done ++ left
  pub all : RunsAll g meaning fixed m s new n done ended text text_now before after

-- no entry was handled
pub nothing_runs : {E D : Type 0} (g : Ghosts E) (meaning : D → DiskMeaning) (fixed : Bool) (m : Meaning) (s : Setup)
    (kept : Kept E) (n : Node) (disk : D) → StandsFor g kept n → Runs g meaning fixed m s kept n [] [] [] disk disk
nothing_runs g meaning fixed m s kept n disk stands = record {
  comes = comes_none fixed (meaning disk).faults;
  stands = stands;
  sends = tt {0};
  disk = refl;
  files = tt {0};
  crashes = crashes_open meaning m s.slot [] disk disk refl (tt {0});
}

pub nothing_ran : {E D : Type 0} (g : Ghosts E) (meaning : D → DiskMeaning) (fixed : Bool) (m : Meaning) (s : Setup)
    (kept : Kept E) (n : Node) (entries : List Entry) (ended : RunEnd) (text : Option (List ℕ)) (disk : D)
    → StandsFor g kept n → IsEnd ended (nothing_yet n)
    → Ran g meaning fixed m s kept n entries entries ended text text disk disk
nothing_ran g meaning fixed m s kept n entries ended text disk stands ends = record {
  done = [];
  parted = refl;
  all = record {
    events = [];
    sent = [];
    runs = nothing_runs g meaning fixed m s kept n disk stands;
    text_is = with_none text;
    ends = ends;
  };
}

module _ (follow : (m : Meaning) (s : Setup) (n : Node) (first later : List Event)
    → run m s n (first ++ later) ≡ followed_by (run m s n first) (run m s (run m s n first).node later))
    {E D : Type 0} (g : Ghosts E) (meaning : D → DiskMeaning) (fixed : Bool) (m : Meaning) (s : Setup)
    (middle new : Kept E) (n : Node) (entries left left_now : List Entry) (entry : Entry) (sent : List Datagram)
    (ended ended_now : RunEnd) (text text_middle text_now : Option (List ℕ)) (before between after : D)
    (ran : Ran g meaning fixed m s middle n entries left ended text text_middle before between)
    (given : left ≡ entry ∷ left_now)
    (step : Steps g meaning fixed m s new (run m s n ran.all.events).node entry sent ended ended_now between after)
    (more : (meaning between).faults ≤ (meaning after).faults) where
  abbrev event : Event
  event = step.handles.event

  texts : AreTexts (one_event m s (run m s n ran.all.events).node event).sent sent
  texts = subst (λ (out : List Datagram). AreTexts (one_event m s (run m s n ran.all.events).node event).sent out)
      (sym step.handles.sends.behind) step.handles.sends.written

  runs : Runs g meaning fixed m s new n (ran.done ++ entry ∷ []) (ran.all.events ++ event ∷ []) (ran.all.sent ++ sent)
      before after
  runs = runs_more follow m s n ran.all.events event g meaning fixed middle new ran.done entry ran.all.sent sent before
      between after ran.all.runs step.handles.is_event step.handles.may step.handles.adds_alone more
      step.handles.stands texts step.handles.disk step.handles.files

  parted : entries ≡ (ran.done ++ entry ∷ []) ++ left_now
  parted = ran.parted ∙ ap (λ (rest : List Entry). ran.done ++ rest) given
      ∙ sym (append_assoc ran.done (entry ∷ []) left_now)

  pub goes_on : text_now ≡ with_text text_middle (lines_of sent)
      → Ran g meaning fixed m s new n entries left_now ended_now text text_now before after
  goes_on put = record {
    done = ran.done ++ entry ∷ [];
    parted = parted;
    all = record {
      events = ran.all.events ++ event ∷ [];
      sent = ran.all.sent ++ sent;
      runs = runs;
      text_is = put ∙ ap (λ (t : Option (List ℕ)). with_text t (lines_of sent)) ran.all.text_is
          ∙ with_more text (lines_of ran.all.sent) (lines_of sent)
          ∙ ap (with_text text) (sym (lines_more ran.all.sent sent));
      ends = ends_more follow m s n ran.all.events event ended ended_now entry sent step.traps ran.all.ends
          step.handles.is_event texts step.handles.traps_are step.counts_are;
    };
  }

  pub stops_here : PutsFront text_middle text_now (lines_of sent)
      → RunsUntil g meaning fixed m s new n entries text text_now before after
  stops_here put = record {
    done = ran.done ++ entry ∷ [];
    left = left_now;
    parted = parted;
    earlier = ran.all.events;
    last = event;
    sent = ran.all.sent;
    sent_last = sent;
    runs = runs;
    sent_are = ran.all.runs.sends;
    text_is = subst (λ (t : Option (List ℕ)). PutsFront t text_now (lines_of sent)) ran.all.text_is put;
  }

pub runs_whole : {E D : Type 0} (g : Ghosts E) (meaning : D → DiskMeaning) (fixed : Bool) (m : Meaning) (s : Setup)
    (new : Kept E) (n : Node) (entries left : List Entry) (ended : RunEnd) (text text_now : Option (List ℕ))
    (before after : D) → Ran g meaning fixed m s new n entries left ended text text_now before after → left ≡ []
    → RunsAll g meaning fixed m s new n entries ended text text_now before after
runs_whole g meaning fixed m s new n entries left ended text text_now before after ran none =
    subst (λ (all : List Entry). RunsAll g meaning fixed m s new n all ended text text_now before after)
    (sym (ran.parted ∙ ap (λ (rest : List Entry). ran.done ++ rest) none ∙ append-nil ran.done)) ran.all

-- a step under the setup of the start
pub steps_from : {E D : Type 0} (g : Ghosts E) (meaning : D → DiskMeaning) (old middle new : Kept E) (n : Node)
    (entry : Entry) (sent : List Datagram) (ended ended_now : RunEnd) (before after : D) → SameSetup g old middle
    → Steps g meaning (is_fixed g middle) (code_of g middle) (setup_of middle) new n entry sent ended ended_now before
    after
    → Steps g meaning (is_fixed g old) (code_of g old) (setup_of old) new n entry sent ended ended_now before after
steps_from g meaning old middle new n entry sent ended ended_now before after same steps =
    subst (λ (fixed : Bool). Steps g meaning fixed (code_of g old) (setup_of old) new n entry sent ended ended_now
    before after) same.fixed
    (subst (λ (m : Meaning). Steps g meaning (is_fixed g middle) m (setup_of old) new n entry sent ended ended_now
    before after) same.code
    (subst (λ (s : Setup). Steps g meaning (is_fixed g middle) (code_of g middle) s new n entry sent ended ended_now
    before after) same.setup steps))

-- time goes on twice
pub elapses_both : (old middle new : DiskMeaning) → Elapses old middle → Elapses middle new → Elapses old new
elapses_both old middle new one other =
    let first = one.later in
    let then = other.later in
    record {
      later = omega (arith, first, then);
      told = other.told ∙ one.told;
      told_marks = other.told_marks ∙ one.told_marks;
      told_syncs = other.told_syncs ∙ one.told_syncs;
      past = λ tells u image before.
          let late : u ≤ middle.now = omega (arith, before, first) in
          let near = one.past tells u image before in
          let far = other.past (one.told ∙ tells) u image late in
          ((λ left. near.0 (far.0 left)), (λ left. far.1 (near.1 left)));
      past_marks = λ tells u before.
          let late : u ≤ middle.now = omega (arith, before, first) in
          other.past_marks (one.told_marks ∙ tells) u late ∙ one.past_marks tells u before;
      past_syncs = λ tells u before.
          let late : u ≤ middle.now = omega (arith, before, first) in
          other.past_syncs (one.told_syncs ∙ tells) u late ∙ one.past_syncs tells u before;
    }
