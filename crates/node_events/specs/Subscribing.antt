-- The one event that subscribes.
use Rattle.std.specs.Prelude.{◌≡◌, ℕ, true, Some}
use Rattle.sed_outside.specs.declared.addr.Addr.{Addr}
use Rattle.comp_tree.specs.Application.{is_live}
use Rattle.dasp_session.specs.Looking.{found_from, is_session_of}
use Rattle.dasp_session.specs.Session.{Session}
use Rattle.sox_msg.specs.Command.{subscribe}
use Rattle.sub_table.specs.declared.part.Part.{Part}
use Rattle.sub_table.specs.Parts.{is_in}
use Rattle.node_events.specs.Heard.{Heard, asks}
use Rattle.node_events.specs.Mishap.{Mishap}
use Rattle.node_events.specs.Node.{Node}
use Rattle.node_events.specs.Running.{Event, comes}

-- the session of a place subscribes a part of a live component
pub record IsSubscribe (n : Node) (place id : ℕ) (part : Part) (event : Event) : Type 0 where
  pub from : Addr
  pub heard : Heard
  pub mishap : Mishap
  pub session : Session
  pub mask : ℕ
  pub comes_so : event ≡ comes from (Some heard) mishap
  pub of_session :
      found_from (is_session_of heard.message.to from) 0 n.sessions.sessions
      ≡ Some (record { place = place; session = session })
  pub asked : heard.wish ≡ asks (subscribe id mask)
  pub meant : is_in mask part ≡ true
  pub live : is_live n.application.components.by_id id ≡ true
