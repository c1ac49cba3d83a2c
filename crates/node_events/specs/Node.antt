-- A node: an application, the sessions of its clients, and what they have subscribed.
use Rattle.std.specs.Prelude.{ℕ, ℤ, ◌≡◌, ◌≤◌, Bool, false, IfSome, length, count_by, is_some, if◌then◌else◌, List, None}
use Rattle.std.specs.Option.{option_map_or}
use Rattle.sed_engine.specs.Code.{Meaning}
use Rattle.comp_tree.specs.Application.{Application, ById, is_live}
use Rattle.comp_tree.specs.Cycle.{Begin}
use Rattle.dasp_session.specs.declared.user.User.{User}
use Rattle.dasp_msg.specs.Posted.{open_part}
use Rattle.dasp_session.specs.Hearing.{is_authenticated}
use Rattle.dasp_session.specs.Looking.{session_at}
use Rattle.dasp_session.specs.Receive.{new_state}
use Rattle.dasp_session.specs.Session.{State}
use Rattle.sub_table.specs.declared.part.Part.{Part}
use Rattle.sub_table.specs.Table.{Subscriptions, nothing_subscribed, without_place}

pub record Node : Type 0 where
  pub application : Application
  -- with how many were made, the moment, and the users and the secret, which no event changes
  pub sessions : State
  -- who has subscribed which part of which id at which session place, and the last event posted of it
  pub subscriptions : Subscriptions

-- what else no event changes: the turns of each root call, and the bytes of a slot of the store
pub record Setup : Type 0 where
  pub turns : ℕ
  pub slot : ℕ

-- how many sessions live
abbrev pub live_sessions : Node → ℕ
live_sessions n = count_by is_some n.sessions.sessions

-- ---- how it begins

-- the node of an application as it was opened at a moment: each component's `start` was called, and there is no session
abbrev pub opened : Meaning → Setup → Application → List User → List ℕ → ℤ → Node
opened m s a users secret moment = record {
  application = (Begin m a s.turns moment).application;
  sessions = new_state users secret moment;
  subscriptions = nothing_subscribed;
}

-- ---- what goes with something else

-- what goes with the session of a place once it has ended: what it has subscribed
abbrev pub without_session : ℕ → Node → Node
without_session place n = record n { subscriptions = without_place place n.subscriptions }

-- what is subscribed goes with its component
abbrev pub of_the_live : ById → Subscriptions → Subscriptions
of_the_live all subs place id part = if is_live all id then subs place id part else None

-- only parts of live components are subscribed
abbrev pub OnlyOfTheLive : Node → Type 0
OnlyOfTheLive n =
    (place id : ℕ) (part : Part) → is_live n.application.components.by_id id ≡ false
    → n.subscriptions place id part ≡ None

-- a session lives in a place, and is authenticated
abbrev pub is_open : State → ℕ → Bool
is_open sessions place = option_map_or is_authenticated (session_at sessions place) false

-- only sessions that live and are authenticated have subscribed anything
abbrev pub OnlyOfTheOpen : Node → Type 0
OnlyOfTheOpen n = (place id : ℕ) (part : Part) → is_open n.sessions place ≡ false → n.subscriptions place id part ≡ None

-- in no session more than 31 messages stand from the first one on that is not acknowledged
abbrev pub KeepsWindows : State → Type 0
KeepsWindows sessions =
    (place : ℕ) → IfSome (session_at sessions place) (λ session. length (open_part session.posted) ≤ 31)
