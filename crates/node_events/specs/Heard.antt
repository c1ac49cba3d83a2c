-- What a datagram says, and what its payload asks. Its bytes alone tell.
use Rattle.std.specs.Prelude.{ℕ, List, Option, Some, None}
use Rattle.sed_value.specs.declared.refusal.Refusal.{Refusal}
use Rattle.dasp_msg.specs.Shown.{Message}
use Rattle.dasp_session.specs.Standing.{IsRead}
use Rattle.sox_msg.specs.Command.{Asked, IsRequest, number_in}
use Rattle.sox_msg.specs.Refused.{IsRefusedFor}

-- what a payload asks: a command; or it is refused before any command is looked at
pub data Wish : Type 0 where
  asks : Asked → Wish
  is_refused : Refusal → Wish

abbrev pub IsWish : List ℕ → Wish → Type 0
IsWish payload (asks command) = IsRequest payload (record { number = number_in payload; command = command })
IsWish payload (is_refused refusal) = IsRefusedFor refusal payload

-- a message, and what its payload asks where it is delivered
pub record Heard : Type 0 where
  pub message : Message
  pub wish : Wish

-- what bytes say, which is nothing where they are no message
abbrev pub IsHeard : List ℕ → Option Heard → Type 0
IsHeard bytes None = IsRead bytes None
IsHeard bytes (Some heard) = IsRead bytes (Some heard.message) × IsWish heard.message.payload heard.wish
