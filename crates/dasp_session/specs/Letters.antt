-- The messages that a node sends.
use Rattle.std.specs.Prelude.{ℕ, ◌+◌, ◌*◌, Option, Some, None, List, [], ◌∷◌, map, if◌then◌else◌}
use Rattle.sed_outside.specs.declared.addr.Addr.{Addr}
use Rattle.dasp_msg.specs.Acks.{ack_of, digit}
use Rattle.dasp_msg.specs.TakenIndexes.{is_taken, is_ahead, first_gap}
use Rattle.dasp_msg.specs.OfKind as of_kind
pub use Rattle.dasp_msg.specs.OfKind.{bare, challenge, welcome, close, with_acks, carrying}
use Rattle.dasp_msg.specs.Shown.{Message}

-- a message, and where it is sent
pub record Letter : Type 0 where
  pub to : Addr
  pub message : Message

abbrev pub addressed : Addr → List Message → List Letter
addressed to messages = map (λ message. record { to = to; message = message }) messages

-- whether the index that is so far above the first gap was taken
abbrev pub taken_above : List ℕ → ℕ → ℕ
taken_above taken place = digit (is_taken taken (first_gap taken + place))

-- eight of them, the lowest bit first
abbrev pub byte_above : List ℕ → ℕ → ℕ
byte_above taken place =
    taken_above taken place + 2 * taken_above taken (place + 1) + 4 * taken_above taken (place + 2)
    + 8 * taken_above taken (place + 3) + 16 * taken_above taken (place + 4) + 32 * taken_above taken (place + 5)
    + 64 * taken_above taken (place + 6) + 128 * taken_above taken (place + 7)

-- the bytes beside an ack: four, where an index above the first gap was taken
abbrev pub more_of : List ℕ → Option (List ℕ)
more_of taken =
    if is_ahead taken
    then Some (byte_above taken 0 ∷ byte_above taken 8 ∷ byte_above taken 16 ∷ byte_above taken 24 ∷ [])
    else None

-- those of a session that has taken these say so
abbrev pub keep_alive : ℕ → List ℕ → Message
keep_alive remote_id taken = of_kind.keep_alive remote_id (ack_of taken) (more_of taken)

abbrev pub datagram : ℕ → List ℕ → ℕ → List ℕ → Message
datagram remote_id taken number payload =
    of_kind.datagram remote_id (ack_of taken) (more_of taken) number payload
