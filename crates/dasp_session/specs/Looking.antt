-- Finding a session, and a place for one.
use Rattle.std.specs.Prelude.{ℕ, suc, Bool, ◌&&◌, ◌==◌, nat_eq, is_none, Option, Some, None, List, [], ◌∷◌}
use Rattle.std.specs.Prelude.{slice_index_or, if◌then◌else◌}
use Rattle.std.specs.Cmp.Lexicographic.{pointwise}
use Rattle.sed_outside.specs.declared.addr.Addr.{Addr}
use Rattle.dasp_session.specs.Session.{Session, State}

pub record Found : Type 0 where
  pub place : ℕ
  pub session : Session

-- the first live session of which the test holds, where the sessions stand from this place on
abbrev pub found_from : (Session → Bool) → ℕ → List (Option Session) → Option Found
found_from test place [] = None
found_from test place (None ∷ later) = found_from test (suc place) later
found_from test place (Some session ∷ later) =
    if test session then Some (record { place = place; session = session }) else found_from test (suc place) later

-- the least place that is free
abbrev pub free_from : ℕ → List (Option Session) → Option ℕ
free_from place [] = None
free_from place (None ∷ later) = Some place
free_from place (Some session ∷ later) = free_from (suc place) later

abbrev pub is_address : Addr → Addr → Bool
is_address one other = pointwise nat_eq one.ip other.ip && (one.port == other.port)

-- a message counts in the session that has its id and its sender's address
abbrev pub is_session_of : ℕ → Addr → Session → Bool
is_session_of id from session = (session.id == id) && is_address session.address from

-- a session not yet authenticated, of this address and remote id
abbrev pub is_waiting_for : Addr → ℕ → Session → Bool
is_waiting_for from remote_id session =
    is_none session.user && is_address session.address from && (session.remote_id == remote_id)

-- the session of a place, if one lives there
abbrev pub session_at : State → ℕ → Option Session
session_at state place = slice_index_or state.sessions place None
