-- A run of a node, as what is asked of a disk.
use Rattle.std.proofs.Common.{◌≡◌, ℕ, Bool, true, List, [], ◌∷◌, ◌++◌, Option, Result, Ok, Err, OnErr, OnOk, IsErr, inl, inr, refl, sym, subst}
use Rattle.std.specs.Prelude.{IsOkAnd, IsTrue, pos}
use Rattle.std.proofs.lemmas.List.{append-nil}
use Rattle.sed_outside.specs.Cause.{HasCause, Rose}
use Rattle.sed_outside.specs.declared.sink.SinkFault.{SinkFault}
use Rattle.disk_model.specs.Disk.{Elapses}
use Rattle.disk_model.specs.declared.disk.Disk.{Ghosts as DiskGhosts}
use Rattle.app_save.specs.Saving.{AllStores}
use Rattle.comp_tree.specs.Application.{Application}
use Rattle.dasp_session.specs.Outbox.{Datagram}
use Rattle.node_events.specs.Node.{Node, opened}
use Rattle.node_events.specs.Running.{Event, run}
use Rattle.sed_node.specs.Replaying.{Replayed as NodeReplayed, Stopped, in_the_run, behind_it, end_text, replay_text}
use Rattle.replay_log.specs.Entry.{Entry}
use Rattle.replay_log.specs.Record.{IsRecord}
use Rattle.sed_engine.specs.declared.engine.Engine.{Ghosts}
use Rattle.sed_engine.specs.Code.{Meaning as Code}
use Rattle.sed_node.specs.Running.{Runs as NodeRuns, lines_of}
use Rattle.sed_node.specs.Standing.{code_of, is_fixed, setup_of}
use Rattle.sed_node.specs.declared.kept.Kept.{Kept}
use Rattle.sedona_cli.specs.Given.{GivenRecord}
use Rattle.sedona_words.specs.Command.{NodeAsked}
use Rattle.sedona_cli.specs.Outside.{Ask, Runs, Ran, AsksDisk, IsRan}
use Rattle.sedona_cli.specs.Nodes.{IsReady}
use Rattle.sedona_cli.specs.Replay.{IsRunOf, Plays, all_put, not_put, Replays}
use Rattle.sedona_cli.proofs.Puts.{put_rose, put_steady}

module _ {E T : Type 0} (g : Ghosts E) (D : DiskGhosts T) (node : NodeAsked) (i : GivenRecord) (a : Application) (kept now : Kept E) (ready : IsReady g (pos 0) node.turns i.code i.users i.secret a kept)
    (entries : List Entry) (is_record : IsRecord i.text entries) (d e : T) (time : Elapses (D.meaning d) (D.meaning e)) (attached : (D.meaning e).attached ≡ (D.meaning d).attached)
    (slots : IsTrue (D.meaning d).tells → AllStores (setup_of kept).slot (D.meaning d)) (stores : IsTrue (D.meaning d).tells → AllStores (setup_of kept).slot (D.meaning e)) where
  -- where it begins
  abbrev start : Node
  start = opened i.code (setup_of kept) a i.users i.secret (pos 0)

  abbrev run_of : List Entry → List Event → Ran
  run_of first events = record { code = i.code; setup = setup_of kept; start = start; entries = first; events = events }

  abbrev IsRun : List Entry → List Event → List Datagram → Type 0
  IsRun first events sent = NodeRuns g D.meaning true i.code (setup_of kept) now start first events sent d e

  is_ran : (first : List Entry) (events : List Event) (sent : List Datagram) → IsRun first events sent → IsRan D.meaning (run_of first events) d e
  is_ran first events sent r = record { time = time; attached = attached; slots = slots; stores = stores; comes = r.comes; saved = r.disk; files = r.files; crashes = r.crashes }

  is_run_of : (first : List Entry) (events : List Event) → IsRunOf node i a (run_of first events)
  is_run_of first events = record { code = refl; turns = ready.turns_are; start = refl }

  asked_of : (first : List Entry) (events : List Event) (sent : List Datagram) (P : List Ask → Type 0) → IsRun first events sent → P (Runs (run_of first events) ∷ []) → AsksDisk D d e P
  asked_of first events sent P r holds = record { asks = Runs (run_of first events) ∷ []; unread = refl; asked = (e, is_ran first events sent r, refl); holds = holds }

  replays : (events : List Event) (sent : List Datagram) → IsRun entries events sent
      → Replays node i a (Runs (run_of entries events) ∷ []) (Ok (replay_text i.code (setup_of kept) start events sent))
  replays events sent r = record { ran = run_of entries events; is_run = is_run_of entries events; asks_are = refl; entries = is_record; sent = sent; sends = r.sends; end_is = refl }

  -- all was put
  pub played : (before after : Option (List ℕ)) (fb fa : ℕ) → fa ≡ fb → NodeReplayed g D.meaning true i.code (setup_of kept) now start entries before after d e
      → AsksDisk D d e (λ asks. Plays node i a asks before after fb fa 0)
  played before after fb fa steady r =
      asked_of entries r.events r.sent (λ asks. Plays node i a asks before after fb fa 0) r.runs (all_put _ (replays r.events r.sent r.runs) refl r.text_is steady)

  -- the sink failed
  pub stopped_play : (before after : Option (List ℕ)) (fb fa : ℕ) → Rose fb fa → Stopped g D.meaning true i.code (setup_of kept) now start entries before after d e
      → AsksDisk D d e (λ asks. Plays node i a asks before after fb fa 8)
  stopped_play before after fb fa rose (in_the_run u) =
      asked_of u.done (u.earlier ++ u.last ∷ []) (u.sent ++ u.sent_last) (λ asks. Plays node i a asks before after fb fa 8) u.runs
      (not_put (lines_of u.sent) (lines_of u.sent_last)
      (record {
        ran = run_of u.done (u.earlier ++ u.last ∷ []);
        is_run = is_run_of u.done (u.earlier ++ u.last ∷ []);
        asks_are = refl;
        left = u.left;
        entries = subst (λ (l : List Entry). IsRecord i.text l) u.parted is_record;
        fails = inl (record {
          earlier = u.earlier;
          event = u.last;
          parted = refl;
          sent = u.sent;
          sent_last = u.sent_last;
          sends = u.runs.sends;
          sends_before = u.sent_are;
          put_are = refl;
          last_are = refl;
        });
      }) refl rose u.text_is)
  stopped_play before after fb fa rose (behind_it s) =
      asked_of entries s.events s.sent (λ asks. Plays node i a asks before after fb fa 8) s.runs
      (not_put (lines_of s.sent) (end_text i.code (run i.code (setup_of kept) start s.events))
      (record {
        ran = run_of entries s.events;
        is_run = is_run_of entries s.events;
        asks_are = refl;
        left = [];
        entries = subst (λ (l : List Entry). IsRecord i.text l) (sym (append-nil entries)) is_record;
        fails = inr (record { all = refl; sent = s.sent; sends = s.runs.sends; put_are = refl; last_are = refl });
      }) refl rose s.text_is)

  -- what the call that replays says of it
  pub plays_done : (before after : Option (List ℕ)) (fb fa : ℕ) (r : Result (Unit {0}) SinkFault) (u : Unit {0}) → r ≡ Ok u → HasCause fb fa (IsErr r)
      → OnOk r (NodeReplayed g D.meaning (is_fixed g kept) (code_of g kept) (setup_of kept) now start entries before after d e) → AsksDisk D d e (λ asks. Plays node i a asks before after fb fa 0)
  plays_done before after fb fa (Ok v) u is cause held =
      played before after fb fa (put_steady fb fa (Ok v) u is cause)
      (subst (λ (b : Bool). NodeReplayed g D.meaning b i.code (setup_of kept) now start entries before after d e) ready.fixed
      (subst (λ (m : Code). NodeReplayed g D.meaning (is_fixed g kept) m (setup_of kept) now start entries before after d e) ready.code_is held))
  plays_done before after fb fa (Err fault) u is cause held = absurd (cc)

  pub plays_stopped : (before after : Option (List ℕ)) (fb fa : ℕ) (r : Result (Unit {0}) SinkFault) (f : SinkFault) → r ≡ Err f → HasCause fb fa (IsErr r)
      → OnErr r (Stopped g D.meaning (is_fixed g kept) (code_of g kept) (setup_of kept) now start entries before after d e) → AsksDisk D d e (λ asks. Plays node i a asks before after fb fa 8)
  plays_stopped before after fb fa (Ok v) f is cause held = absurd (cc)
  plays_stopped before after fb fa (Err fault) f is cause held =
      stopped_play before after fb fa (put_rose fb fa (Err fault) f is cause)
      (subst (λ (b : Bool). Stopped g D.meaning b i.code (setup_of kept) now start entries before after d e) ready.fixed
      (subst (λ (m : Code). Stopped g D.meaning (is_fixed g kept) m (setup_of kept) now start entries before after d e) ready.code_is held))

-- bytes that are a record are not refused
pub not_refused : {X Y : Type 0} (P : X → Type 0) (r : Result X Y) (y : Y) → r ≡ Err y → IsOkAnd r P → ⊥
not_refused P (Ok x) y is held = cc
not_refused P (Err y) z is held = held
