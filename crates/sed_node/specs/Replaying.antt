-- What a replay of a record prints: a line for each datagram that is sent, the application that is reached, and the
-- counts.
use Rattle.std.specs.Prelude.{◌≡◌, ℕ, Bool, List, ◌++◌, Option}
use Rattle.sed_outside.specs.Sink.{PutsFront, with_text}
use Rattle.disk_model.specs.Disk.{Meaning as DiskMeaning}
use Rattle.sed_outside.specs.Counts.{counted}
use Rattle.sed_engine.specs.declared.engine.Engine.{Ghosts}
use Rattle.sed_engine.specs.Code.{Meaning}
use Rattle.replay_log.specs.Entry.{Entry}
use Rattle.dasp_session.specs.Outbox.{Datagram}
use Rattle.printed_app.specs.Application.{application_text}
use Rattle.printed_app.specs.Summary.{summary_text}
use Rattle.printed_app.specs.declared.summary.Summary.{Summary}
use Rattle.node_events.specs.Node.{Node, Setup, live_sessions}
use Rattle.node_events.specs.Running.{Event, Reached, offered, run}
use Rattle.sed_node.specs.Running.{Runs, RunsUntil, lines_of}
use Rattle.sed_node.specs.declared.kept.Kept.{Kept}

-- ---- the text

-- the counts of what was reached, each in 64 bits, and the sessions that live there
abbrev pub summary_of : Reached → Summary
summary_of r = record {
  cycles = counted r.counts.ticks;
  taken = counted r.counts.taken;
  offered = counted (offered r);
  traps = counted r.counts.traps;
  sessions = live_sessions r.node;
}

-- what stands at the end: the application as it was reached, and then the counts
abbrev pub end_text : Meaning → Reached → List ℕ
end_text m r = application_text m r.node.application ++ summary_text (summary_of r)

-- the lines of what was sent over the run, and then the end
abbrev pub replay_text : Meaning → Setup → Node → List Event → List Datagram → List ℕ
replay_text m s n events sent = lines_of sent ++ end_text m (run m s n events)

-- ---- a replay

-- all entries were handled, and all of the text was put
pub record Replayed {E D : Type 0} (g : Ghosts E) (meaning : D → DiskMeaning) (fixed : Bool) (m : Meaning) (s : Setup)
    (new : Kept E) (n : Node) (entries : List Entry) (text text_now : Option (List ℕ)) (before after : D)
    : Type 0 where
  pub events : List Event
  pub sent : List Datagram
  pub runs : Runs g meaning fixed m s new n entries events sent before after
  pub text_is : text_now ≡ with_text text (replay_text m s n events sent)

-- all entries were handled and all lines were put, and of the end a front
pub record EndsAtFront {E D : Type 0} (g : Ghosts E) (meaning : D → DiskMeaning) (fixed : Bool) (m : Meaning)
    (s : Setup) (new : Kept E) (n : Node) (entries : List Entry) (text text_now : Option (List ℕ)) (before after : D)
    : Type 0 where
  pub events : List Event
  pub sent : List Datagram
  pub runs : Runs g meaning fixed m s new n entries events sent before after
  pub text_is : PutsFront (with_text text (lines_of sent)) text_now (end_text m (run m s n events))

-- the sink failed a line of an event, behind which nothing was handled, or it failed the end
pub data Stopped {E D : Type 0} (g : Ghosts E) (meaning : D → DiskMeaning) (fixed : Bool) (m : Meaning) (s : Setup)
    (new : Kept E) (n : Node) (entries : List Entry) (text text_now : Option (List ℕ)) (before after : D)
    : Type 0 where
  in_the_run : RunsUntil g meaning fixed m s new n entries text text_now before after
      → Stopped g meaning fixed m s new n entries text text_now before after
  behind_it : EndsAtFront g meaning fixed m s new n entries text text_now before after
      → Stopped g meaning fixed m s new n entries text text_now before after
