-- What a datagram makes of a node, and what the node sends.
use Rattle.std.specs.Prelude.{ℕ, List, [], ◌++◌, Option, Some, None}
use Rattle.sed_outside.specs.declared.addr.Addr.{Addr}
use Rattle.sed_engine.specs.Code.{Meaning}
use Rattle.sox_msg.specs.Answered.{Answered, answered_text}
use Rattle.sox_msg.specs.Command.{number_in}
use Rattle.dasp_session.specs.Letters.{Letter}
use Rattle.dasp_session.specs.Receive.{Handing, Outcome, none, ended_at, payload_at, post_of, received}
use Rattle.node_events.specs.Heard.{Heard, Wish}
use Rattle.node_events.specs.Mishap.{Mishap}
use Rattle.node_events.specs.Node.{Node, Setup, without_session}
use Rattle.node_events.specs.Saving.{Save}
use Rattle.node_events.specs.Serving.{Serving, served}

pub record Delivery : Type 0 where
  pub node : Node
  -- messages and where they go, in the order in which they are sent
  pub sent : List Letter
  -- the reply to a payload that was taken, if one was
  pub reply : Option Answered
  -- the save that has begun, if one has
  pub save : Option Save

-- nothing is served
abbrev pub leaves : Node → List Letter → Delivery
leaves n sent = record { node = n; sent = sent; reply = None; save = None }

-- the reply is posted in the session of the place
abbrev pub replied : ℕ → List ℕ → Node → List Letter → Serving → Delivery
replied place payload n sent serving =
    let posted : Outcome = post_of n.sessions place (answered_text (number_in payload) serving.reply) in
    record {
      node = record {
        application = serving.application;
        sessions = posted.state;
        subscriptions = serving.subscriptions;
      };
      sent = sent ++ posted.letters;
      reply = Some serving.reply;
      save = serving.save;
    }

-- what the sessions hand on: nothing, that one has ended, or a payload that was taken
abbrev pub handed : Meaning → Setup → Wish → Mishap → Node → List Letter → Handing → Delivery
handed m s wish mishap n sent none = leaves n sent
handed m s wish mishap n sent (ended_at place) = leaves (without_session place n) sent
handed m s wish mishap n sent (payload_at place payload) = replied place payload n sent (served m s n place wish mishap)

abbrev pub received_by : Meaning → Setup → Wish → Mishap → Node → Outcome → Delivery
received_by m s wish mishap n outcome =
    handed m s wish mishap (record n { sessions = outcome.state }) outcome.letters outcome.handing

-- a datagram from an address, which says this
abbrev pub delivered : Meaning → Setup → Node → Addr → Option Heard → Mishap → Delivery
delivered m s n from None mishap = leaves n []
delivered m s n from (Some heard) mishap =
    received_by m s heard.wish mishap n (received n.sessions from (Some heard.message))
