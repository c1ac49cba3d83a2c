-- Replies within a run of a node.
use Rattle.std.specs.Prelude.{◌≡◌, ◌≢◌, List, ◌∷◌, ◌++◌, Some}
use Rattle.sed_outside.specs.declared.addr.Addr.{Addr}
use Rattle.sed_value.specs.declared.refusal.Refusal.TheVariants.{OutOfMemory}
use Rattle.sox_msg.specs.Answered.{Answered, refused}
use Rattle.node_events.specs.Delivering.{Delivery, delivered}
use Rattle.node_events.specs.Heard.{Heard}
use Rattle.node_events.specs.Mishap.{Mishap}
use Rattle.node_events.specs.Node.{Node}
use Rattle.node_events.specs.Replying.{IsReplied}
use Rattle.node_events.specs.Running.{Event, comes, run}
use Rattle.sedona_cli.specs.Outside.{Ran, reached}

-- the node that a run had reached when so many of its events were done
abbrev pub node_after : Ran → List Event → Node
node_after ran before = (run ran.code ran.setup ran.start before).node

-- what a datagram, which says this, came to behind these events
abbrev pub delivered_in : Ran → List Event → Addr → Heard → Mishap → Delivery
delivered_in ran before from heard mishap =
    delivered ran.code ran.setup (node_after ran before) from (Some heard) mishap

-- A reply in a run. It went out to the message that was heard, in a datagram that stands among all that the run sent,
-- behind what was sent before; and it is no want of memory, whose number is 26.
pub record IsSentReply (ran : Ran) (before later : List Event) (from : Addr) (heard : Heard) (mishap : Mishap)
    (reply : Answered) : Type 0 where
  pub replied : IsReplied (node_after ran before) from heard.message reply (delivered_in ran before from heard mishap)
  pub sent :
      (reached ran).sent
      ≡ (run ran.code ran.setup ran.start before).sent
      ++ ((delivered_in ran before from heard mishap).sent
      ++ (run ran.code ran.setup (delivered_in ran before from heard mishap).node later).sent)
  pub not_26 : reply ≢ refused OutOfMemory

-- So is each reply of a run, to whichever of its datagrams.
abbrev pub NoReplyIs26 : Ran → Type 0
NoReplyIs26 ran =
    (before later : List Event) (from : Addr) (heard : Heard) (mishap : Mishap) (reply : Answered)
    → ran.events ≡ before ++ comes from (Some heard) mishap ∷ later
    → (delivered_in ran before from heard mishap).reply ≡ Some reply
    → IsSentReply ran before later from heard mishap reply
