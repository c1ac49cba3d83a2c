-- Which messages may be sent, and the one text of each.
use Rattle.std.specs.Prelude.{◌≡◌, ◌≢◌, ℕ, ◌+◌, ◌≤◌, Option, Some, None, List, [], ◌∷◌, ◌++◌, length, IsTrue, IsSome, ⊤}
use Rattle.std.specs.Option.{ForSome}
use Rattle.sed_wire.specs.Text.{is_text}
use Rattle.dasp_msg.specs.declared.header.Header.{Header}
use Rattle.dasp_msg.specs.declared.kind.MsgKind.{MsgKind}
use Rattle.dasp_msg.specs.declared.kind.MsgKind.TheVariants.{Hello, Challenge, Authenticate, Welcome, KeepAlive}
use Rattle.dasp_msg.specs.declared.kind.MsgKind.TheVariants.{Datagram, Close}
use Rattle.dasp_msg.specs.Field.{Content, nil, number, text, run, Part}
use Rattle.dasp_msg.specs.Message.{MayFollow, SpellsDatagram}
use Rattle.dasp_msg.specs.Shown.{Message, shown_by}

abbrev pub number_field : ℕ → Option ℕ → List Part
number_field byte None = []
number_field byte (Some n) = record { byte = byte; content = number n } ∷ []

abbrev pub text_field : ℕ → Option (List ℕ) → List Part
text_field byte None = []
text_field byte (Some characters) = record { byte = byte; content = text characters } ∷ []

abbrev pub run_field : ℕ → Option (List ℕ) → List Part
run_field byte None = []
run_field byte (Some bytes) = record { byte = byte; content = run bytes } ∷ []

-- the fields that a kind is sent with, in the order of their bytes
abbrev pub sent_fields : MsgKind → Message → List Part
sent_fields Hello message = number_field 5 message.version ++ number_field 9 message.remote_id
sent_fields Challenge message =
    number_field 9 message.remote_id ++ (text_field 14 message.algorithm ++ run_field 19 message.nonce)
sent_fields Authenticate message = text_field 22 message.username ++ run_field 27 message.digest
sent_fields Welcome message = []
sent_fields KeepAlive message = number_field 37 message.ack ++ run_field 43 message.ack_more
sent_fields Datagram message = number_field 37 message.ack ++ run_field 43 message.ack_more
sent_fields Close message = number_field 53 message.error_code

-- the fields that are there whenever the kind is sent; a keepAlive and a datagram may do without an ackMore, and a
-- client's close has no error code
abbrev pub HasSent : MsgKind → Message → Type 0
HasSent Hello message = IsSome message.version × IsSome message.remote_id × (message.to ≡ 65535)
HasSent Challenge message = IsSome message.remote_id × IsSome message.algorithm × IsSome message.nonce
HasSent Authenticate message = IsSome message.username × IsSome message.digest
HasSent Welcome message = ⊤
HasSent KeepAlive message = IsSome message.ack × ForSome message.ack_more (λ bytes. length bytes ≡ 4)
HasSent Datagram message = IsSome message.ack × ForSome message.ack_more (λ bytes. length bytes ≡ 4)
HasSent Close message = ⊤

abbrev pub header_of : Message → Header
header_of message = record {
  to = message.to;
  sequence = message.sequence;
  kind = message.kind;
  count = length (sent_fields message.kind message);
}

-- a message that may be sent: it has the fields of its kind and no other, each of which can be spelled
pub record MaySend (message : Message) : Type 0 where
  pub has : HasSent message.kind message
  pub no_other : message ≡ shown_by (header_of message) (sent_fields message.kind message) message.payload
  pub algorithm : ForSome message.algorithm (λ characters. IsTrue (is_text characters))
  pub username : ForSome message.username (λ characters. IsTrue (is_text characters))
  pub nonce : ForSome message.nonce (λ bytes. length bytes ≤ 255)
  pub digest : ForSome message.digest (λ bytes. length bytes ≤ 255)
  pub sequence : message.kind ≢ Datagram → message.sequence ≡ 65535
  pub follows : MayFollow message.kind message.payload

-- its text: the header, its fields in their order, and the payload
abbrev pub IsSentAs : Message → List ℕ → Type 0
IsSentAs message bytes = SpellsDatagram (header_of message) (sent_fields message.kind message) message.payload bytes

abbrev pub content_size : Content → ℕ
content_size nil = 0
content_size (number n) = 2
content_size (text characters) = length characters + 1
content_size (run bytes) = length bytes + 1

abbrev pub fields_size : List Part → ℕ
fields_size [] = 0
fields_size (part ∷ behind) = 1 + content_size part.content + fields_size behind

-- how many bytes the text of the message has
abbrev pub sent_size : Message → ℕ
sent_size message = 5 + fields_size (sent_fields message.kind message) + length message.payload

-- a message that may be sent in one datagram
pub record CanGo (message : Message) : Type 0 where
  pub may : MaySend message
  pub fits : sent_size message ≤ 512
