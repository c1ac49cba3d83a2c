-- What is posted at a tick in the session of a place: events of the parts that it has subscribed.
use Rattle.std.specs.Prelude.{ℕ, ◌&&◌, not, nat_eq, Bool, true, false, if◌then◌else◌, List, [], ◌∷◌, ◌++◌, Option}
use Rattle.std.specs.Cmp.Lexicographic.{pointwise}
use Rattle.std.specs.FinMap as map
use Rattle.std.specs.List.{flat_map, fold}
use Rattle.std.specs.Option.{option_map_or}
use Rattle.sed_engine.specs.Code.{Meaning}
use Rattle.comp_tree.specs.Application.{Application, is_live}
use Rattle.comp_tree.specs.Marks.{Part as TreePart, part_at}
use Rattle.comp_tree.specs.Parts.{link_part}
use Rattle.sub_table.specs.declared.part.Part.{Part}
use Rattle.sub_table.specs.declared.part.Part.TheVariants.{Tree, Config, Runtime, Links}
use Rattle.sub_table.specs.Table.{Subscriptions, with_event}
use Rattle.sox_msg.specs.Reply.{event_bytes}
use Rattle.sox_events.specs.Due.{letter_of}
use Rattle.dasp_msg.specs.Posted.{has_room}
use Rattle.dasp_session.specs.Letters.{Letter}
use Rattle.dasp_session.specs.Looking.{session_at}
use Rattle.dasp_session.specs.Receive.{Outcome, post_of}
use Rattle.dasp_session.specs.Session.{State}
use Rattle.node_events.specs.Node.{Node}

-- ---- parts

-- the bytes of a part of the component with an id
abbrev pub bytes_of : Meaning → Application → ℕ → Part → List ℕ
bytes_of m a id Tree = part_at m a.components.by_id id TreePart.Tree
bytes_of m a id Config = part_at m a.components.by_id id TreePart.Config
bytes_of m a id Runtime = part_at m a.components.by_id id TreePart.Runtime
bytes_of m a id Links = link_part id a.links

-- a part of the component with an id
pub record PartAt : Type 0 where
  pub id : ℕ
  pub part : Part

abbrev pub parts_at : ℕ → List PartAt
parts_at id =
    record { id = id; part = Tree } ∷ record { id = id; part = Config } ∷ record { id = id; part = Runtime }
    ∷ record { id = id; part = Links } ∷ []

-- all parts by ascending id, and of one component in the order t, c, r, l
abbrev pub parts_of : Application → List PartAt
parts_of a = flat_map parts_at (map.keys a.components.by_id)

-- ---- which are due

-- a part that is subscribed: no event of it was posted, or the last one had other bytes than these
abbrev pub differs_from : List ℕ → Option (List ℕ) → Bool
differs_from bytes last = option_map_or (λ posted. not (pointwise nat_eq posted bytes)) last true

-- of a live component
abbrev pub is_due : Meaning → Application → Subscriptions → ℕ → ℕ → Part → Bool
is_due m a subs place id part =
    is_live a.components.by_id id && option_map_or (differs_from (bytes_of m a id part)) (subs place id part) false

-- there is room for one more message in the session of a place
abbrev pub has_room_at : State → ℕ → Bool
has_room_at sessions place = option_map_or (λ session. has_room session.posted) (session_at sessions place) false

-- ---- what is posted

-- a node in the course of a tick, and what it has sent so far
pub record Telling : Type 0 where
  pub node : Node
  pub sent : List Letter

-- a call of the sessions was made
abbrev pub then_call : Telling → Outcome → Telling
then_call t outcome = record { node = record t.node { sessions = outcome.state }; sent = t.sent ++ outcome.letters }

abbrev pub with_last : ℕ → ℕ → Part → List ℕ → Telling → Telling
with_last place id part bytes t =
    record t { node = record t.node { subscriptions = with_event place id part bytes t.node.subscriptions } }

-- an event with the bytes of a part is posted, and these are its last event's
abbrev pub told : ℕ → ℕ → Part → List ℕ → Telling → Telling
told place id part bytes t =
    then_call (with_last place id part bytes t) (post_of t.node.sessions place (event_bytes id (letter_of part) bytes))

-- where a part is due and there is room
abbrev pub told_if_due : Meaning → ℕ → Telling → PartAt → Telling
told_if_due m place t p =
    if has_room_at t.node.sessions place && is_due m t.node.application t.node.subscriptions place p.id p.part
    then told place p.id p.part (bytes_of m t.node.application p.id p.part) t
    else t

abbrev pub told_all : Meaning → ℕ → Telling → Telling
told_all m place t = fold (told_if_due m place) t (parts_of t.node.application)
