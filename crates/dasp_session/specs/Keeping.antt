-- What the node keeps of a session, and what it stands for.
use Rattle.std.specs.Prelude.{◌≡◌, ℕ, suc, ◌%◌, Bool, true, false, ◌&&◌, ◌==◌, is_none, Option, Some, None, List, []}
use Rattle.std.specs.Prelude.{◌∷◌, ⊤}
use Rattle.sed_outside.specs.declared.addr.Addr.{Addr}
use Rattle.dasp_msg.specs.declared.outgoing.Message.{Message as Posted}
use Rattle.dasp_msg.specs.Receiving.{ReceivesLike}
use Rattle.dasp_msg.specs.Outgoing.{SendsLike}
use Rattle.dasp_session.specs.declared.place.Place.{Place}
use Rattle.dasp_session.specs.declared.place.Start.{Start}
use Rattle.dasp_session.specs.Looking.{is_address}
use Rattle.dasp_session.specs.Session.{Session}

-- the session that a place stands for, for two lists
abbrev pub seen : Place → List ℕ → List Posted → Session
seen place taken posted = record {
  id = place.id;
  address = place.address;
  remote_id = place.remote_id;
  nonce = place.nonce;
  user = place.user;
  heard = place.heard;
  taken = taken;
  owed = place.owed;
  posted = posted;
}

-- the windows of a place stand for these lists
pub record Windows (place : Place) (taken : List ℕ) (posted : List Posted) : Type 0 where
  pub receives : ReceivesLike place.receiver taken
  pub sends : SendsLike place.sender posted

pub record Like (place : Place) (session : Session) : Type 0 where
  pub same : session ≡ seen place session.taken session.posted
  pub windows : Windows place session.taken session.posted

-- a place with what lives in it, if anything does
abbrev pub Holds : Place → Option Session → Type 0
Holds place None = place.live ≡ false
Holds place (Some session) = (place.live ≡ true) × Like place session

-- an id's low four bits are those of its place
abbrev pub IsOf : ℕ → Option Session → Type 0
IsOf place None = ⊤
IsOf place (Some session) = session.id % 16 ≡ place

-- places from this one on hold these sessions
abbrev pub AllHold : ℕ → List Place → List (Option Session) → Type 0
AllHold at [] [] = ⊤
AllHold at [] (session ∷ sessions) = ⊥
AllHold at (place ∷ places) [] = ⊥
AllHold at (place ∷ places) (session ∷ sessions) =
    Holds place session × IsOf at session × AllHold (suc at) places sessions

-- a session that begins so
abbrev pub begun : Start → Session
begun start = record {
  id = start.id;
  address = start.address;
  remote_id = start.remote_id;
  nonce = start.nonce;
  user = None;
  heard = start.moment;
  taken = [];
  owed = false;
  posted = [];
}

-- a live session of this id and address, in what is kept
abbrev pub is_here : ℕ → Addr → Place → Bool
is_here id from place = place.live && ((place.id == id) && is_address place.address from)

-- a live session, not yet authenticated, of this address and remote id
abbrev pub waits_here : Addr → ℕ → Place → Bool
waits_here from remote_id place =
    place.live && (is_none place.user && is_address place.address from && (place.remote_id == remote_id))
