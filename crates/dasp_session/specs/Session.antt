-- Sessions, with all that was ever taken and posted in them.
use Rattle.std.specs.Prelude.{ℕ, ℤ, Bool, Option, List}
use Rattle.sed_outside.specs.declared.addr.Addr.{Addr}
use Rattle.dasp_session.specs.declared.user.User.{User}
use Rattle.dasp_msg.specs.declared.outgoing.Message.{Message as Posted}

pub record Session : Type 0 where
  pub id : ℕ
  -- where the client is, and its own id of the session
  pub address : Addr
  pub remote_id : ℕ
  pub nonce : List ℕ
  -- of the last authenticate that was welcomed; none where the session is not yet authenticated
  pub user : Option (List ℕ)
  -- the moment of the last hearing
  pub heard : ℤ
  -- the indexes of all messages that were taken, in ascending order
  pub taken : List ℕ
  -- whether an acknowledgement is owed
  pub owed : Bool
  -- all messages that were posted
  pub posted : List Posted

pub record State : Type 0 where
  pub users : List User
  pub secret : List ℕ
  -- how many sessions were made
  pub made : ℕ
  pub moment : ℤ
  -- by their places
  pub sessions : List (Option Session)
