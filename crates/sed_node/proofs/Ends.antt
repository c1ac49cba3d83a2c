-- What a replay comes to, from its run and what is put behind it.
use Rattle.std.proofs.Common.{◌≡◌, ℕ, Bool, List, ◌++◌, Option, Result, Ok, Err, ap, subst, ◌∙◌}
use Rattle.std.specs.Prelude.{OnErr, OnOk}
use Rattle.sed_outside.specs.Sink.{PutsFront, with_text}
use Rattle.sed_outside.specs.declared.sink.Sink.{Ghosts as Sinks}
use Rattle.sed_outside.specs.declared.sink.SinkFault.{SinkFault}
use Rattle.disk_model.specs.Disk.{Meaning as DiskMeaning}
use Rattle.sed_engine.specs.declared.engine.Engine.{Ghosts}
use Rattle.sed_engine.specs.Code.{Meaning}
use Rattle.comp_tree.specs.Application.{Application}
use Rattle.replay_log.specs.Entry.{Entry}
use Rattle.printed_app.specs.Puts.{Puts}
use Rattle.printed_app.proofs.Sequence.{text_is, with_more}
use Rattle.printed_app.specs.Application.{application_text}
use Rattle.printed_app.specs.Summary.{summary_text}
use Rattle.printed_app.specs.declared.summary.Summary.{Summary}
use Rattle.node_events.specs.Node.{Node, Setup, live_sessions}
use Rattle.node_events.specs.Running.{Event, run}
use Rattle.sed_node.specs.Running.{IsEnd, RunsAll, lines_of}
use Rattle.sed_node.specs.Standing.{StandsFor, code_of}
use Rattle.sed_node.specs.declared.kept.Kept.{Kept}
use Rattle.sed_node.specs.declared.running.RunEnd.{RunEnd}
use Rattle.sed_node.specs.Replaying.{Replayed, Stopped, behind_it, end_text}

-- ---- the end

-- the counts of a run, with so many sessions
abbrev pub told : RunEnd → ℕ → Summary
told ended sessions = record {
  cycles = ended.cycles;
  taken = ended.taken;
  offered = ended.offered;
  traps = ended.traps;
  sessions = sessions;
}

pub same_application : (m now : Meaning) (a b : Application) → m ≡ now → a ≡ b →
    application_text m a ≡ application_text now b
same_application m now a b of_code of_tree =
    ap (λ (x : Meaning). application_text x a) of_code ∙ ap (application_text now) of_tree

pub same_sessions : (ended : RunEnd) (a b : ℕ) → a ≡ b → summary_text (told ended a) ≡ summary_text (told ended b)
same_sessions ended a b same = ap (λ (n : ℕ). summary_text (told ended n)) same

same_counts : (a b c d a2 b2 c2 d2 n : ℕ) → a ≡ a2 → b ≡ b2 → c ≡ c2 → d ≡ d2 →
    summary_text (record { cycles = a; taken = b; offered = c; traps = d; sessions = n })
    ≡ summary_text (record { cycles = a2; taken = b2; offered = c2; traps = d2; sessions = n })
same_counts a b c d a2 b2 c2 d2 n of_a of_b of_c of_d =
    ap (λ (x : ℕ). summary_text (record { cycles = x; taken = b; offered = c; traps = d; sessions = n })) of_a
    ∙ ap (λ (x : ℕ). summary_text (record { cycles = a2; taken = x; offered = c; traps = d; sessions = n })) of_b
    ∙ ap (λ (x : ℕ). summary_text (record { cycles = a2; taken = b2; offered = x; traps = d; sessions = n })) of_c
    ∙ ap (λ (x : ℕ). summary_text (record { cycles = a2; taken = b2; offered = c2; traps = x; sessions = n })) of_d

-- what is put at the end is what is defined of the run
end_is : (m now : Meaning) (s : Setup) (n : Node) (events : List Event) (ended : RunEnd) → now ≡ m →
    IsEnd ended (run m s n events) →
    application_text now (run m s n events).node.application
    ++ summary_text (told ended (live_sessions (run m s n events).node))
    ≡ end_text m (run m s n events)
end_is m now s n events ended of_code ends =
    ap (λ (x : Meaning). application_text x (run m s n events).node.application
    ++ summary_text (told ended (live_sessions (run m s n events).node))) of_code
    ∙ ap (λ (l : List ℕ). application_text m (run m s n events).node.application ++ l)
    (same_counts _ _ _ _ _ _ _ _ _ ends.cycles ends.taken ends.offered_are ends.traps)

-- ---- a replay

-- what is put behind the lines of a run, of every node that the one at its end stands for
abbrev pub PutsEnd : {E O : Type 0} → Ghosts E → Sinks O → Kept E → RunEnd → O → O → Result (Unit {0}) SinkFault
    → Type 0
PutsEnd g o new ended b c r =
    (k : Node) → StandsFor g new k → Puts o b c
    (application_text (code_of g new) k.application ++ summary_text (told ended (live_sessions k))) r

-- what is put behind a run that came to this is its end
pub put_behind : {E O : Type 0} (g : Ghosts E) (o : Sinks O) (m : Meaning) (s : Setup) (new : Kept E) (n : Node)
    (events : List Event) (ended : RunEnd) (b c : O) (r : Result (Unit {0}) SinkFault) →
    StandsFor g new (run m s n events).node → IsEnd ended (run m s n events) → code_of g new ≡ m →
    PutsEnd g o new ended b c r → Puts o b c (end_text m (run m s n events)) r
put_behind g o m s new n events ended b c r stands ends code puts =
    text_is (end_is m (code_of g new) s n events ended code ends) (puts (run m s n events).node stands)

put_at_end : {E D O : Type 0} (g : Ghosts E) (o : Sinks O) (meaning : D → DiskMeaning) (fixed : Bool) (m : Meaning)
    (s : Setup) (new : Kept E) (n : Node) (entries : List Entry) (ended : RunEnd) (a b c : O) (before after : D)
    (r : Result (Unit {0}) SinkFault)
    (all : RunsAll g meaning fixed m s new n entries ended (o.text a) (o.text b) before after) → code_of g new ≡ m →
    PutsEnd g o new ended b c r → Puts o b c (end_text m (run m s n all.events)) r
put_at_end g o meaning fixed m s new n entries ended a b c before after r all code puts =
    put_behind g o m s new n all.events ended b c r all.runs.stands all.ends code puts

pub is_replayed : {E D O : Type 0} (g : Ghosts E) (o : Sinks O) (meaning : D → DiskMeaning) (fixed : Bool)
    (m : Meaning) (s : Setup) (new : Kept E) (n : Node) (entries : List Entry) (ended : RunEnd) (a b c : O)
    (before after : D) (r : Result (Unit {0}) SinkFault) →
    RunsAll g meaning fixed m s new n entries ended (o.text a) (o.text b) before after → code_of g new ≡ m →
    PutsEnd g o new ended b c r →
    OnOk r (Replayed g meaning fixed m s new n entries (o.text a) (o.text c) before after)
is_replayed g o meaning fixed m s new n entries ended a b c before after (Ok u) all code puts =
    let put = put_at_end g o meaning fixed m s new n entries ended a b c before after (Ok u) all code puts in
    record {
      events = all.events;
      sent = all.sent;
      runs = all.runs;
      text_is = put.done ∙ ap (λ (t : Option (List ℕ)). with_text t (end_text m (run m s n all.events))) all.text_is
          ∙ with_more (o.text a) (lines_of all.sent) (end_text m (run m s n all.events));
    }
is_replayed g o meaning fixed m s new n entries ended a b c before after (Err e) all code puts = tt

pub is_stopped : {E D O : Type 0} (g : Ghosts E) (o : Sinks O) (meaning : D → DiskMeaning) (fixed : Bool)
    (m : Meaning) (s : Setup) (new : Kept E) (n : Node) (entries : List Entry) (ended : RunEnd) (a b c : O)
    (before after : D) (r : Result (Unit {0}) SinkFault) →
    RunsAll g meaning fixed m s new n entries ended (o.text a) (o.text b) before after → code_of g new ≡ m →
    PutsEnd g o new ended b c r →
    OnErr r (Stopped g meaning fixed m s new n entries (o.text a) (o.text c) before after)
is_stopped g o meaning fixed m s new n entries ended a b c before after (Ok u) all code puts = tt
is_stopped g o meaning fixed m s new n entries ended a b c before after (Err e) all code puts =
    let put = put_at_end g o meaning fixed m s new n entries ended a b c before after (Err e) all code puts in
    behind_it (record {
      events = all.events;
      sent = all.sent;
      runs = all.runs;
      text_is = subst (λ (t : Option (List ℕ)). PutsFront t (o.text c) (end_text m (run m s n all.events)))
          all.text_is put.front;
    })
