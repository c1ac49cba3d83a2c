use Rattle.sed_engine.specs.Code.{Meaning}
use Rattle.sed_engine.specs.Whole.{IsWhole}
use Rattle.node_events.proofs.Gives.{heard_gives}
use Rattle.node_events.proofs.KeepsWhole.{Keeps, event_whole, run_whole}
use Rattle.node_events.proofs.wholes.events_keep_whole.Goals as goal

pub returns : goal.returns
returns c =
    let keeps : (m : Meaning) → IsWhole m → Keeps m = λ m whole. record {
      edits = λ a command turns moment e before gives is.
          c.an_edit_keeps_whole.ensures m a command turns moment e whole before gives is;
      cycles = λ a turns moment before. c.a_cycle_keeps_whole.ensures.cycle m a turns moment whole before;
    } in
    record {
      opened = λ m s a users secret moment whole before.
          c.a_cycle_keeps_whole.ensures.begin m a s.turns moment whole before;
      event = λ m s n event whole gives before. event_whole m (keeps m whole) s n event gives before;
      run = λ m s n events whole gives before. run_whole m (keeps m whole) s n events gives before;
      heard = λ bytes heard all is. heard_gives bytes heard all is;
    }
