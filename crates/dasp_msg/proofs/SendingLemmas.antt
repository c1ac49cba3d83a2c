-- The text of a message that is sent.
use Rattle.std.proofs.Common.{◌≡◌, ℕ, ◌+◌, List, [], ◌∷◌, ◌++◌, length, sym, ◌∙◌, ap, arith, length-append}
use Rattle.dasp_msg.specs.declared.header.Header.{Header}
use Rattle.dasp_msg.specs.declared.kind.MsgKind.{MsgKind}
use Rattle.dasp_msg.specs.declared.kind.MsgKind.TheVariants.{Hello, Challenge, Authenticate, Welcome, KeepAlive, Datagram, Close}
use Rattle.dasp_msg.specs.Field.{Content, nil, number, text, run, Part, SpellsContent, SpellsFields}
use Rattle.dasp_msg.specs.Message.{HasNeeded, IsMessage, SpellsDatagram}
use Rattle.dasp_msg.specs.Sending.{HasSent, IsSentAs, MaySend, content_size, fields_size, header_of, sent_fields}
use Rattle.dasp_msg.specs.Shown.{Message}
use Rattle.dasp_msg.proofs.FieldLemmas.{fields-one}
use Rattle.dasp_msg.proofs.HeaderLemmas.{header-one, header-size}

pub datagram-one : (header : Header) (fields : List Part) (payload a b : List ℕ)
    → SpellsDatagram header fields payload a → SpellsDatagram header fields payload b → a ≡ b
datagram-one header fields payload a b of_a of_b =
    of_a.whole
    ∙ ap (λ (t : List ℕ). t ++ (of_a.body ++ payload)) (header-one header _ _ of_a.head_spelled of_b.head_spelled)
    ∙ ap (λ (t : List ℕ). of_b.head ++ (t ++ payload)) (fields-one fields _ _ of_a.body_spelled.1 of_b.body_spelled.1)
    ∙ sym of_b.whole

pub content-size : (v : Content) (a : List ℕ) → SpellsContent v a → length a ≡ content_size v
content-size nil a of_a = ap length of_a
content-size (number n) a of_a = of_a.as_many
content-size (text t) a of_a = omega (arith, ap length of_a.ended, length-append t (0 ∷ []))
content-size (run r) a of_a = omega (arith, ap length of_a.1)

pub fields-size : (fs : List Part) (a : List ℕ) → SpellsFields fs a → length a ≡ fields_size fs
fields-size [] a of_a = ap length of_a
fields-size (f ∷ fs) a of_a =
    omega (
      arith,
      ap length of_a.4,
      length-append of_a.0 of_a.1,
      ap length of_a.2.whole,
      content-size f.content of_a.2.content of_a.2.spelled,
      fields-size fs of_a.1 of_a.3,
    )

pub datagram-size : (header : Header) (fields : List Part) (payload a : List ℕ)
    → SpellsDatagram header fields payload a → length a ≡ 5 + fields_size fields + length payload
datagram-size header fields payload a of_a =
    omega (
      arith,
      ap length of_a.whole,
      length-append of_a.head (of_a.body ++ payload),
      length-append of_a.body payload,
      header-size header of_a.head of_a.head_spelled,
      fields-size fields of_a.body of_a.body_spelled.1,
    )

needed-sent : (kind : MsgKind) (message : Message) → HasSent kind message → HasNeeded kind message
needed-sent Hello message has = has
needed-sent Challenge message has = tt
needed-sent Authenticate message has = has
needed-sent Welcome message has = tt
needed-sent KeepAlive message has = tt
needed-sent Datagram message has = tt
needed-sent Close message has = tt

pub sent_is_read : (message : Message) (bytes : List ℕ) → MaySend message → IsSentAs message bytes
    → IsMessage bytes message
sent_is_read message bytes may spelled = record {
  header = header_of message;
  fields = sent_fields message.kind message;
  payload = message.payload;
  spelled = spelled;
  shown = may.no_other;
  follows = may.follows;
  needed = needed-sent message.kind message may.has;
}
