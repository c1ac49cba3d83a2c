-- What a run over a link and a clock comes to, and what it puts at its end.
use Rattle.std.specs.Prelude.{ℕ, Bool, List, Option, Result}
use Rattle.sed_outside.specs.declared.sink.Sink.{Ghosts as Sinks}
use Rattle.sed_outside.specs.declared.sink.SinkFault.{SinkFault}
use Rattle.disk_model.specs.Disk.{Meaning as DiskMeaning}
use Rattle.sed_engine.specs.declared.engine.Engine.{Ghosts}
use Rattle.sed_engine.specs.Code.{Meaning}
use Rattle.sed_outside.specs.declared.offer.Offer.{Offer}
use Rattle.sed_outside.specs.declared.polling.Polling.{Polling}
use Rattle.sed_outside.specs.Clock.{Moments}
use Rattle.sed_outside.specs.Rounds.{LiveCycle, polls_at}
use Rattle.sed_outside.specs.Told.{AddsWhereTold, Told}
use Rattle.replay_log.specs.Entry.{Entry}
use Rattle.dasp_session.specs.Outbox.{Datagram}
use Rattle.printed_app.specs.Puts.{Puts}
use Rattle.node_events.specs.Node.{Node, Setup}
use Rattle.node_events.specs.Running.{Event, run, sent_by}
use Rattle.sed_node.specs.Living.{AreRounds, AreTextsByEvent, all_sent, offers}
use Rattle.sed_node.specs.Running.{Runs}
use Rattle.sed_node.specs.declared.kept.Kept.{Kept}
use Rattle.sed_node.specs.Replaying.{end_text}

-- So many cycles were done over these polls and moments, each datagram that was sent was offered, in their order and
-- what an event sent before the next poll, and what stands at the end of their run was put.
pub record LivedThrough {E D O : Type 0} (g : Ghosts E) (o : Sinks O) (meaning : D → DiskMeaning) (fixed : Bool)
    (m : Meaning) (s : Setup) (new : Kept E) (n : Node) (polls : Option (List Polling)) (moments : Option Moments)
    (cycles polled : ℕ) (offered offered_now : Option (Told Offer)) (out out_now : O) (before after : D)
    (result : Result (Unit {0}) SinkFault) : Type 0 where
  pub entries : List Entry
  pub rounds : List LiveCycle
  pub rounds_are : AreRounds polls moments cycles rounds entries
  pub events : List Event
  pub sents : List (List Datagram)
  pub texts : AreTextsByEvent (sent_by m s n events) sents
  pub runs : Runs g meaning fixed m s new n entries events (all_sent sents) before after
  pub offered_are : AddsWhereTold offered offered_now (offers (polls_at polled rounds) sents)
  pub puts : Puts o out out_now (end_text m (run m s n events)) result
