-- What stays of a node at other places than one.
use Rattle.std.specs.Prelude.{◌≡◌, ◌≢◌, ◌⊎◌, ℕ, true, false, is_some, Some, None}
use Rattle.sed_outside.specs.declared.addr.Addr.{Addr}
use Rattle.comp_tree.specs.Application.{is_live}
use Rattle.dasp_session.specs.Looking.{is_address, session_at}
use Rattle.dasp_session.specs.Session.{Session, State}
use Rattle.sub_table.specs.declared.part.Part.{Part}
use Rattle.sub_table.specs.Table.{Subscriptions}
use Rattle.node_events.specs.Node.{Node}

-- each other place's session is as it was
abbrev pub SameSessionsBut : ℕ → State → State → Type 0
SameSessionsBut place before after =
    (other : ℕ) → other ≢ place → session_at after other ≡ session_at before other

-- and so is what is subscribed there
abbrev pub SameSubscribedBut : ℕ → Subscriptions → Subscriptions → Type 0
SameSubscribedBut place before after =
    (other id : ℕ) (part : Part) → other ≢ place → after other id part ≡ before other id part

-- or it goes with its component
abbrev pub LosesTheGoneBut : ℕ → Subscriptions → Node → Type 0
LosesTheGoneBut place before after =
    (other id : ℕ) (part : Part) → other ≢ place
    → (after.subscriptions other id part ≡ before other id part)
    ⊎ ((is_live after.application.components.by_id id ≡ false) × (after.subscriptions other id part ≡ None))

-- an address has to do with one place: with a session of its own, or where none lived
pub record IsAtOnePlace (from : Addr) (before after : Node) : Type 0 where
  pub place : ℕ
  pub own :
      (session : Session) → session_at before.sessions place ≡ Some session → is_address session.address from ≡ true
  pub sessions : SameSessionsBut place before.sessions after.sessions
  pub subscriptions : LosesTheGoneBut place before.subscriptions after

-- what is subscribed was subscribed before
abbrev pub SubscribesNothing : Subscriptions → Subscriptions → Type 0
SubscribesNothing before after =
    (place id : ℕ) (part : Part) → is_some (after place id part) ≡ true → is_some (before place id part) ≡ true
