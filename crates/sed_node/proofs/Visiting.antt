-- What is sent at the place of a session: where nobody lives there, where the session ends, and where it goes on.
use Rattle.std.proofs.Common.{◌≡◌, ◌∙◌, ℕ, zero, suc, Bool, true, false, List, [], ◌∷◌, ◌++◌, get_or, set, refl}
use Rattle.std.proofs.Common.{ap}
use Rattle.std.specs.Prelude.{if◌then◌else◌, Option, Some, None}
use Rattle.std.specs.Option.{option_map_or}
use Rattle.sed_engine.specs.Code.{Meaning}
use Rattle.dasp_msg.specs.Posted.{has_room}
use Rattle.dasp_session.specs.Closing.{timed_out}
use Rattle.dasp_session.specs.Hearing.{ends}
use Rattle.dasp_session.specs.Letters.{close}
use Rattle.dasp_session.specs.Looking.{session_at}
use Rattle.dasp_session.specs.Receive.{Handing, Outcome, at_place as step_at, ended_at, none, payload_at}
use Rattle.dasp_session.specs.Receive.{steps, tick_of}
use Rattle.dasp_session.specs.Session.{Session, State}
use Rattle.dasp_session.specs.Standing.{is_ended}
use Rattle.dasp_session.specs.Ticking.{is_over, kept_up as kept_in, sent_all, ticked as ticked_in}
use Rattle.node_events.specs.Events.{Telling, then_call, told_all, parts_of}
use Rattle.node_events.specs.Node.{without_session}
use Rattle.node_events.specs.Ticking.{at_place, kept_up, timed, without_ended}
use Rattle.sed_node.proofs.Telling.{full_told}

-- ---- where nobody lives

module _ (m : Meaning) (place : ℕ) where
  -- nothing more is sent
  pub quiet : (t : Telling) → session_at t.node.sessions place ≡ None → kept_up place (told_all m place t)
      ≡ record t { sent = t.sent ++ [] }
  quiet t nobody =
      ap (kept_up place) (full_told m place t (parts_of t.node.application)
      (ap (λ (o : Option Session). option_map_or (λ session. has_room session.posted) o false) nobody))
      ∙ ap (λ (o : Option Session). then_call t (step_at t.node.sessions place kept_in o)) nobody

  pub nobody_told : (t : Telling) → session_at t.node.sessions place ≡ None → at_place m t place
      ≡ record t { sent = (t.sent ++ []) ++ [] }
  nobody_told t nobody =
      ap (λ (x : Telling). kept_up place (told_all m place x))
      (ap (λ (o : Option Session).
      (let outcome : Outcome = step_at t.node.sessions place (ticked_in t.node.sessions.moment) o in
      without_ended outcome.handing (then_call t outcome))) nobody)
      ∙ quiet (record t { sent = t.sent ++ [] }) nobody

-- ---- what a tick of the sessions hands on

module _ (state : State) (place : ℕ) where
  -- that the session of the place has ended, or nothing
  pub ended_is : is_ended (tick_of state place).handing ≡ true → (tick_of state place).handing ≡ ended_at place
  ended_is is = by_session (session_at state place) is
    where
      by_over : (session : Session) (b : Bool)
          → is_ended (steps state (record { place = place; session = session })
          (if b then ends (close session.remote_id (Some timed_out) ∷ []) else sent_all state.moment session)).handing
          ≡ true
          → (steps state (record { place = place; session = session })
          (if b then ends (close session.remote_id (Some timed_out) ∷ []) else sent_all state.moment session)).handing
          ≡ ended_at place
      by_over session true is = refl
      by_over session false is = absurd (let no : false ≡ true = is in cc)

      by_session : (o : Option Session) → is_ended (step_at state place (ticked_in state.moment) o).handing ≡ true
          → (step_at state place (ticked_in state.moment) o).handing ≡ ended_at place
      by_session None is = absurd (let no : false ≡ true = is in cc)
      by_session (Some session) is = by_over session (is_over state.moment session) is

  gone_from : (xs : List (Option Session)) (k : ℕ) → get_or (set xs k None) k None ≡ None
  gone_from [] k = refl
  gone_from (x ∷ xs) zero = refl
  gone_from (x ∷ xs) (suc k) = gone_from xs k

  -- and then nobody lives there
  pub gone : is_ended (tick_of state place).handing ≡ true → session_at (tick_of state place).state place ≡ None
  gone is = by_session (session_at state place) is
    where
      by_over : (session : Session) (b : Bool)
          → is_ended (steps state (record { place = place; session = session })
          (if b then ends (close session.remote_id (Some timed_out) ∷ []) else sent_all state.moment session)).handing
          ≡ true
          → session_at (steps state (record { place = place; session = session })
          (if b then ends (close session.remote_id (Some timed_out) ∷ []) else sent_all state.moment session)).state place
          ≡ None
      by_over session true is = gone_from state.sessions place
      by_over session false is = absurd (let no : false ≡ true = is in cc)

      by_session : (o : Option Session) → is_ended (step_at state place (ticked_in state.moment) o).handing ≡ true
          → session_at (step_at state place (ticked_in state.moment) o).state place ≡ None
      by_session None is = absurd (let no : false ≡ true = is in cc)
      by_session (Some session) is = by_over session (is_over state.moment session) is

-- ---- a session that ends, and one that goes on

module _ (m : Meaning) (place : ℕ) (t : Telling) where
  pub goes_on : is_ended (tick_of t.node.sessions place).handing ≡ false → timed place t
      ≡ then_call t (tick_of t.node.sessions place)
  goes_on is = by_handing (tick_of t.node.sessions place).handing is
    where
      by_handing : (handing : Handing) → is_ended handing ≡ false
          → without_ended handing (then_call t (tick_of t.node.sessions place))
          ≡ then_call t (tick_of t.node.sessions place)
      by_handing none is = refl
      by_handing (ended_at k) is = absurd (let no : true ≡ false = is in cc)
      by_handing (payload_at k bytes) is = refl

  abbrev pub without : Telling
  without = record {
    node = without_session place (record t.node { sessions = (tick_of t.node.sessions place).state });
    sent = t.sent ++ (tick_of t.node.sessions place).letters;
  }

  pub ended_told : is_ended (tick_of t.node.sessions place).handing ≡ true → at_place m t place
      ≡ record without { sent = without.sent ++ [] }
  ended_told is =
      ap (λ (handing : Handing). kept_up place
      (told_all m place (without_ended handing (then_call t (tick_of t.node.sessions place)))))
      (ended_is t.node.sessions place is)
      ∙ quiet m place without (gone t.node.sessions place is)
