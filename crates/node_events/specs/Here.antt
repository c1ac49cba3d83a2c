-- What becomes of the session of one place.
use Rattle.std.specs.Prelude.{ℕ, ℤ, ◌&&◌, if◌then◌else◌, List, [], ◌∷◌, Option, Some, None}
use Rattle.sed_engine.specs.Code.{Meaning}
use Rattle.dasp_session.specs.declared.user.User.{User}
use Rattle.dasp_msg.specs.Shown.{Message}
use Rattle.dasp_session.specs.Hearing.{Step, in_session}
use Rattle.dasp_session.specs.Session.{Session}
use Rattle.dasp_session.specs.Ticking.{kept_up, posted_in, ticked}
use Rattle.sox_events.specs.Due.{letter_of}
use Rattle.sox_msg.specs.Answered.{Answered, answered_text}
use Rattle.sox_msg.specs.Command.{number_in}
use Rattle.sox_msg.specs.Reply.{event_bytes}
use Rattle.node_events.specs.Events.{PartAt, Telling, bytes_of, has_room_at, is_due, parts_of, told_if_due}
use Rattle.node_events.specs.Ticking.{timed}

-- a step is done where a session lives
abbrev pub stepped : (Session → Step) → Option Session → Option Session
stepped step None = None
stepped step (Some session) = (step session).session

-- the reply to a payload is posted, where there is one
abbrev pub replied_in : ℤ → List ℕ → Option Answered → Option Session → Option Session
replied_in moment payload None session = session
replied_in moment payload (Some reply) session =
    stepped (posted_in moment (answered_text (number_in payload) reply)) session

-- a message is heard in it, and gets this reply
abbrev pub after_message : List User → ℤ → Message → Option Answered → Option Session → Option Session
after_message users moment message reply session =
    replied_in moment message.payload reply (stepped (in_session users moment message) session)

-- these bytes are posted, one after another
abbrev pub all_posted : ℤ → List (List ℕ) → Option Session → Option Session
all_posted moment [] session = session
all_posted moment (bytes ∷ later) session = all_posted moment later (stepped (posted_in moment bytes) session)

-- timeouts and resends, then these events, and then what is still owed
abbrev pub after_tick : ℤ → List (List ℕ) → Option Session → Option Session
after_tick moment events session = stepped kept_up (all_posted moment events (stepped (ticked moment) session))

-- the events of those of these parts that are due, and have room
abbrev pub events_of : Meaning → ℕ → Telling → List PartAt → List (List ℕ)
events_of m place t [] = []
events_of m place t (p ∷ later) =
    if has_room_at t.node.sessions place && is_due m t.node.application t.node.subscriptions place p.id p.part
    then event_bytes p.id (letter_of p.part) (bytes_of m t.node.application p.id p.part)
    ∷ events_of m place (told_if_due m place t p) later
    else events_of m place (told_if_due m place t p) later

-- those that a tick posts at a place
abbrev pub events_at : Meaning → Telling → ℕ → List (List ℕ)
events_at m t place = events_of m place (timed place t) (parts_of (timed place t).node.application)
