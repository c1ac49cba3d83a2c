-- An event leaves a whole application whole.
use Rattle.std.proofs.Common.{◌≡◌, ℕ, Bool, true, false, List, [], ◌∷◌, refl, sym, subst}
use Rattle.std.specs.Prelude.{ℤ, Option, Some, None, Result, Ok, Err, if◌then◌else◌}
use Rattle.sed_value.specs.declared.refusal.Refusal.{Refusal}
use Rattle.sed_value.specs.declared.refusal.Refusal.TheVariants.{OutOfMemory}
use Rattle.sed_outside.specs.declared.addr.Addr.{Addr}
use Rattle.sed_engine.specs.Code.{Meaning}
use Rattle.comp_tree.specs.Application.{Application}
use Rattle.comp_tree.specs.Cycle.{Cycle}
use Rattle.comp_tree.specs.Edit.{Command, Edit, Edited}
use Rattle.comp_tree.specs.Whole.{Whole}
use Rattle.app_file.specs.Bytes.{GivesBytes}
use Rattle.sox_msg.specs.Answered.{Answered}
use Rattle.sox_msg.specs.Command.{Asked}
use Rattle.sox_serve.specs.Answer.{Answer, answer, answer_by, command_of, refused_by}
use Rattle.dasp_session.specs.Letters.{Letter}
use Rattle.dasp_session.specs.Receive.{Handing, none, ended_at, payload_at, received}
use Rattle.node_events.specs.Delivering.{delivered, handed}
use Rattle.node_events.specs.Giving.{AllGiveBytes, EventGivesBytes, HeardGivesBytes, WishGivesBytes}
use Rattle.node_events.specs.Heard.{Heard, Wish, asks, is_refused}
use Rattle.node_events.specs.Mishap.{Mishap}
use Rattle.node_events.specs.Node.{Node, Setup}
use Rattle.node_events.specs.Running.{Event, comes, one_event, passes, run}
use Rattle.node_events.specs.Serving.{done_by, given, lacks_memory, served}
use Rattle.node_events.specs.Ticking.{advanced_to}
use Rattle.node_events.proofs.Moments.{ticked_goes}

-- what edits and cycles keep under a code
pub record Keeps (m : Meaning) : Type 0 where
  pub edits : (a : Application) (command : Command) (turns : ℕ) (moment : ℤ) (e : Edited) → Whole m a
      → GivesBytes command → Edit m a command turns moment ≡ Ok e → Whole m e.application
  pub cycles : (a : Application) (turns : ℕ) (moment : ℤ) → Whole m a → Whole m (Cycle m a turns moment).application

module _ (m : Meaning) (keeps : Keeps m) (s : Setup) where
  -- ---- a datagram

  answer_whole : (a : Application) (asked : Asked) (moment : ℤ) → GivesBytes (command_of asked) → Whole m a
      → Whole m (answer m a asked s.turns moment).application
  answer_whole a asked moment gives whole = by_edit (Edit m a (command_of asked) s.turns moment) refl
    where
      by_edit : (r : Result Edited Refusal) → Edit m a (command_of asked) s.turns moment ≡ r
          → Whole m (answer_by a asked r).application
      by_edit (Ok e) is = keeps.edits a (command_of asked) s.turns moment e whole gives is
      by_edit (Err number) is = whole

  given_whole : (n : Node) (asked : Asked) (mishap : Mishap) → GivesBytes (command_of asked) → Whole m n.application
      → Whole m (given m s n asked mishap).application
  given_whole n asked mishap gives whole = by_test (lacks_memory m s n asked mishap)
    where
      by_test : (b : Bool) → Whole m (if b then refused_by n.application OutOfMemory
          else answer m n.application asked s.turns n.sessions.moment).application
      by_test true = whole
      by_test false = answer_whole n.application asked n.sessions.moment gives whole

  served_whole : (n : Node) (place : ℕ) (wish : Wish) (mishap : Mishap) → WishGivesBytes wish → Whole m n.application
      → Whole m (served m s n place wish mishap).application
  served_whole n place (is_refused refusal) mishap gives whole = whole
  served_whole n place (asks asked) mishap gives whole =
      by_reply (given m s n asked mishap) (given m s n asked mishap).reply (given_whole n asked mishap gives whole)
    where
      by_reply : (x : Answer) (reply : Option Answered) → Whole m x.application
          → Whole m (done_by m s n place mishap x reply).application
      by_reply x (Some reply) after = after
      by_reply x None after = whole

  handed_whole : (n : Node) (wish : Wish) (mishap : Mishap) (sent : List Letter) (handing : Handing)
      → WishGivesBytes wish → Whole m n.application → Whole m (handed m s wish mishap n sent handing).node.application
  handed_whole n wish mishap sent none gives whole = whole
  handed_whole n wish mishap sent (ended_at place) gives whole = whole
  handed_whole n wish mishap sent (payload_at place payload) gives whole =
      served_whole n place wish mishap gives whole

  delivered_whole : (n : Node) (from : Addr) (heard : Option Heard) (mishap : Mishap) → HeardGivesBytes heard
      → Whole m n.application → Whole m (delivered m s n from heard mishap).node.application
  delivered_whole n from None mishap gives whole = whole
  delivered_whole n from (Some heard) mishap gives whole =
      let outcome = received n.sessions from (Some heard.message) in
      handed_whole (record n { sessions = outcome.state }) heard.wish mishap outcome.letters outcome.handing gives whole

  -- ---- any event

  pub event_whole : (n : Node) (event : Event) → EventGivesBytes event → Whole m n.application
      → Whole m (one_event m s n event).node.application
  event_whole n (comes from heard mishap) gives whole = delivered_whole n from heard mishap gives whole
  event_whole n (passes moment) gives whole =
      subst (Whole m) (sym (ticked_goes m s n moment).application)
      (keeps.cycles n.application s.turns (advanced_to moment n).sessions.moment whole)

  pub run_whole : (n : Node) (events : List Event) → AllGiveBytes events → Whole m n.application
      → Whole m (run m s n events).node.application
  run_whole n [] gives whole = whole
  run_whole n (event ∷ events) gives whole =
      run_whole (one_event m s n event).node events gives.1 (event_whole n event gives.0 whole)
