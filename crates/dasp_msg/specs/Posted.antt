-- All messages that a sender ever posted, and what becomes of them.
use Rattle.std.specs.Prelude.{◌≡◌, ℕ, zero, suc, ◌+◌, ◌-◌, ◌≤◌, ℤ, pos, ◌+ℤ◌, int_le, Bool, true, false, ◌&&◌, ◌||◌}
use Rattle.std.specs.Prelude.{not, ◌==◌, nat_lt, nat_le, if◌then◌else◌, List, [], ◌∷◌, ◌++◌, length, take, drop, Option}
use Rattle.std.specs.Prelude.{Some, None}
use Rattle.std.specs.List.{list_any}
use Rattle.std.specs.Option.{option_map}
use Rattle.dasp_msg.specs.declared.outgoing.Message.{Message}
use Rattle.dasp_msg.specs.declared.due.Due.{Due}
use Rattle.dasp_msg.specs.declared.due.Due.TheVariants.{Nothing, Resend, Spent}
use Rattle.dasp_msg.specs.AckMore.{first_four}
use Rattle.dasp_msg.specs.Acks.{bit_of_bytes}
use Rattle.dasp_msg.specs.Numbers.{wire_number, distance}

-- how many messages at the front are acknowledged, which is the index of the first open one
abbrev pub first_open : List Message → ℕ
first_open [] = zero
first_open (message ∷ later) = if message.acknowledged then suc (first_open later) else zero

-- the messages from the first open one on
abbrev pub open_part : List Message → List Message
open_part posted = drop (first_open posted) posted

-- fewer than 31 messages stand from the first open one on
abbrev pub has_room : List Message → Bool
has_room posted = nat_lt (length (open_part posted)) 31

-- a message that is sent for the first time
abbrev pub new_message : List ℕ → ℤ → Message
new_message bytes now = record { bytes = bytes; sendings = 1; last = now; acknowledged = false }

abbrev pub after_push : List Message → List ℕ → ℤ → List Message
after_push posted bytes now = posted ++ new_message bytes now ∷ []

-- an ack stands for the index before `count`: from the one before the first open message to the last one posted
pub record StandsForCount (posted : List Message) (ack count : ℕ) : Type 0 where
  pub numbered : wire_number count ≡ wire_number (ack + 1)
  pub least : first_open posted ≤ count
  pub most : count ≤ length posted

-- that count, if there is one
abbrev pub count_of : List Message → ℕ → Option ℕ
count_of posted ack =
    let beyond = distance (first_open posted) (wire_number (ack + 1)) in
    if nat_le beyond (length (open_part posted)) then Some (first_open posted + beyond) else None

-- whether bit `place` of the bytes beside an ack is set; there are 32
abbrev pub says_more : Option (List ℕ) → ℕ → Bool
says_more None place = false
says_more (Some bytes) place = nat_lt place 32 && (bit_of_bytes bytes place == 1)

-- whether an ack of the first `count` messages and the bits beside it, which begin at message `count`, are for this one
abbrev pub is_for : ℕ → Option (List ℕ) → ℕ → Bool
is_for count more index = nat_lt index count || (nat_le count index && says_more more (index - count))

abbrev pub acknowledged_if : Bool → Message → Message
acknowledged_if true message = record message { acknowledged = true }
acknowledged_if false message = message

-- messages, of which the first has this index, with those acknowledged of which the test holds
abbrev pub acknowledged_where : (ℕ → Bool) → ℕ → List Message → List Message
acknowledged_where test index [] = []
acknowledged_where test index (message ∷ later) =
    acknowledged_if (test index) message ∷ acknowledged_where test (suc index) later

abbrev pub acknowledged_to : List Message → Option (List ℕ) → Option ℕ → List Message
acknowledged_to posted more None = posted
acknowledged_to posted more (Some count) = acknowledged_where (is_for count more) 0 posted

-- an ack that stands for no count is ignored, with what is beside it
abbrev pub after_ack : List Message → ℕ → Option (List ℕ) → List Message
after_ack posted ack more = acknowledged_to posted more (count_of posted ack)

-- what a message says of an ack and of bytes beside it, which count only with an ack
abbrev pub after_acks : List Message → Option ℕ → Option (List ℕ) → List Message
after_acks posted None more = posted
after_acks posted (Some ack) more = after_ack posted ack (option_map first_four more)

-- not acknowledged, and last sent at least 1 s before now
abbrev pub is_waiting : ℤ → Message → Bool
is_waiting now message = not message.acknowledged && int_le (message.last +ℤ pos 1000000000) now

-- sent three times
abbrev pub is_spent : ℤ → Message → Bool
is_spent now message = is_waiting now message && nat_le 3 message.sendings

abbrev pub is_due : ℤ → Message → Bool
is_due now message = is_waiting now message && nat_lt message.sendings 3

-- the first message due, where the messages begin with this index
abbrev pub first_due : ℤ → ℕ → List Message → Due
first_due now index [] = Nothing
first_due now index (message ∷ later) =
    if is_due now message then Resend (wire_number index) else first_due now (suc index) later

-- what is due where the first message due stands at this place behind the index
abbrev pub resend_at : ℕ → Option ℕ → Due
resend_at index None = Nothing
resend_at index (Some place) = Resend (wire_number (index + place))

-- a message that is spent comes before all that are due
abbrev pub due_from : ℕ → List Message → ℤ → Due
due_from index messages now = if list_any (is_spent now) messages then Spent else first_due now index messages

abbrev pub due_of : List Message → ℤ → Due
due_of posted now = due_from 0 posted now

-- the first message of this number, where the messages begin with this index
abbrev pub message_of : ℕ → ℕ → List Message → Option Message
message_of number index [] = None
message_of number index (message ∷ later) =
    if wire_number index == number then Some message else message_of number (suc index) later

-- the bytes of the message of this number, from the first open one on
abbrev pub bytes_at : List Message → ℕ → Option (List ℕ)
bytes_at posted number =
    option_map (λ message. message.bytes) (message_of number (first_open posted) (open_part posted))

abbrev pub sent_again : ℤ → Message → Message
sent_again now message = record message { sendings = message.sendings + 1; last = now }

-- messages that begin with this index, with the first one of this number sent again
abbrev pub resent : ℕ → ℤ → ℕ → List Message → List Message
resent number now index [] = []
resent number now index (message ∷ later) =
    if wire_number index == number then sent_again now message ∷ later
    else message ∷ resent number now (suc index) later

-- the message of this number, from the first open one on, is sent again
abbrev pub after_resend : List Message → ℕ → ℤ → List Message
after_resend posted number now =
    take (first_open posted) posted ++ resent number now (first_open posted) (open_part posted)
