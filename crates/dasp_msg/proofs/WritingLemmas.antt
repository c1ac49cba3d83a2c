-- What a writer has written, piece by piece.
use Rattle.std.proofs.Common.{◌≡◌, ℕ, ◌+◌, ◌*◌, ◌%◌, ◌<◌, ◌≤◌, Option, Some, None, IsTrue, List, [], ◌∷◌, ◌++◌, length, take, refl, sym, subst, ◌∙◌, ap, arith, append_assoc}
use Rattle.std.proofs.lemmas.List.{append-nil}
use Rattle.std.specs.Option.{ForSome}
use Rattle.sed_wire.specs.declared.writer.Writer.{Writer}
use Rattle.sed_wire.specs.Number.{SpellsNumber}
use Rattle.sed_wire.specs.Text.{is_text}
use Rattle.sed_wire.specs.Writing.{Appends, Writes, untouched, written}
use Rattle.sed_wire.proofs.ReadingLemmas.{one_byte}
use Rattle.sed_wire.proofs.WritingLemmas.{appends-none, appends-then, front-put as text-put, puts-fit, puts-taken}
use Rattle.dasp_msg.specs.declared.header.Header.{Header}
use Rattle.dasp_msg.specs.declared.kind.MsgKind.{MsgKind}
use Rattle.dasp_msg.specs.declared.kind.MsgKind.TheVariants.{Hello, Challenge, Authenticate, Welcome, KeepAlive, Datagram, Close}
use Rattle.dasp_msg.specs.Field.{Part, SpellsContent, SpellsField, SpellsFields, SpellsRun}
use Rattle.dasp_msg.specs.Header.{SpellsHeader}
use Rattle.dasp_msg.specs.Kind.{number_of_kind}
use Rattle.dasp_msg.specs.Message.{SpellsDatagram}
use Rattle.dasp_msg.specs.Sending.{HasSent, IsSentAs, MaySend, fields_size, number_field, run_field, sent_fields, text_field}
use Rattle.dasp_msg.specs.Shown.{Message}
use Rattle.dasp_msg.specs.Writing.{CanBeField, CanBeFields, Puts}

-- two things, one behind the other
pub writes-then : {A B C : Type 0} (S : A → List ℕ → Type 0) (T : B → List ℕ → Type 0) (U : C → List ℕ → Type 0)
    (x : A) (y : B) (z : C) (a b c : Writer) → Writes S x a b → Writes T y b c
    → ((s t : List ℕ) → S x s → T y t → U z (s ++ t)) → Writes U z a c
writes-then S T U x y z a b c first second join = record {
  spelling = first.spelling ++ second.spelling;
  spelled = join first.spelling second.spelling first.spelled second.spelled;
  appends = appends-then a b c first.spelling second.spelling first.appends second.appends;
}

pub run-put : (n : ℕ) (bytes : List ℕ) (a b c : Writer) → n ≡ length bytes → length bytes ≤ 255
    → Writes (SpellsNumber 1) n a b → Appends b c bytes → Writes SpellsRun bytes a c
run-put n bytes a b c is few first second = record {
  spelling = first.spelling ++ bytes;
  spelled = (
    omega (arith, few),
    ap (λ (t : List ℕ). t ++ bytes) (one_byte n first.spelling first.spelled)
        ∙ ap (λ (m : ℕ). m ∷ bytes) is,
  );
  appends = appends-then a b c first.spelling bytes first.appends second;
}

pub field-put : (part : Part) (a b c : Writer) → CanBeField part → Writes (SpellsNumber 1) part.byte a b
    → Writes SpellsContent part.content b c → Writes SpellsField part a c
field-put part a b c can first second =
    writes-then (SpellsNumber 1) SpellsContent SpellsField part.byte part.content part a b c first second
    (λ s t of_s of_t. record {
      byte = can.byte;
      form = can.form;
      content = t;
      spelled = of_t;
      whole = ap (λ (u : List ℕ). u ++ t) (one_byte part.byte s of_s);
    })

pub nothing-put : (a : Writer) → Writes SpellsFields [] a a
nothing-put a = record { spelling = []; spelled = refl; appends = appends-none a }

pub field_alone : (part : Part) (a b : Writer) → Writes SpellsField part a b → Writes SpellsFields (part ∷ []) a b
field_alone part a b done = record {
  spelling = done.spelling;
  spelled = (done.spelling, [], done.spelled, refl, sym (append-nil done.spelling));
  appends = done.appends;
}

fields-join : (fs gs : List Part) (s t : List ℕ) → SpellsFields fs s → SpellsFields gs t
    → SpellsFields (fs ++ gs) (s ++ t)
fields-join [] gs s t of_s of_t = subst (SpellsFields gs) (ap (λ (u : List ℕ). u ++ t) (sym of_s)) of_t
fields-join (f ∷ fs) gs s t of_s of_t = (
  of_s.0,
  of_s.1 ++ t,
  of_s.2,
  fields-join fs gs of_s.1 t of_s.3 of_t,
  ap (λ (u : List ℕ). u ++ t) of_s.4 ∙ append_assoc of_s.0 of_s.1 t,
)

pub fields-put : (fs gs : List Part) (a b c : Writer) → Writes SpellsFields fs a b → Writes SpellsFields gs b c
    → Writes SpellsFields (fs ++ gs) a c
fields-put fs gs a b c first second =
    writes-then SpellsFields SpellsFields SpellsFields fs gs (fs ++ gs) a b c first second (fields-join fs gs)

pub fields_size-append : (fs gs : List Part) → fields_size (fs ++ gs) ≡ fields_size fs + fields_size gs
fields_size-append [] gs = omega arith
fields_size-append (f ∷ fs) gs = omega (arith, fields_size-append fs gs)

pub can-append : (fs gs : List Part) → CanBeFields fs → CanBeFields gs → CanBeFields (fs ++ gs)
can-append [] gs of_fs of_gs = of_gs
can-append (f ∷ fs) gs of_fs of_gs = (of_fs.0, can-append fs gs of_fs.1 of_gs)

pub can-front : (fs gs : List Part) → CanBeFields (fs ++ gs) → CanBeFields fs
can-front [] gs can = tt
can-front (f ∷ fs) gs can = (can.0, can-front fs gs can.1)

pub can-behind : (fs gs : List Part) → CanBeFields (fs ++ gs) → CanBeFields gs
can-behind [] gs can = can
can-behind (f ∷ fs) gs can = can-behind fs gs can.1

can-number : (byte : ℕ) (n : Option ℕ) → byte < 256 → byte % 4 ≡ 1 → CanBeFields (number_field byte n)
can-number byte None small form = tt
can-number byte (Some n) small form = (record { byte = small; form = form; content = tt }, tt)

can-text : (byte : ℕ) (t : Option (List ℕ)) → byte < 256 → byte % 4 ≡ 2
    → ForSome t (λ characters. IsTrue (is_text characters)) → CanBeFields (text_field byte t)
can-text byte None small form can = tt
can-text byte (Some t) small form can = (record { byte = small; form = form; content = can t refl }, tt)

can-run : (byte : ℕ) (r : Option (List ℕ)) → byte < 256 → byte % 4 ≡ 3 → ForSome r (λ bytes. length bytes ≤ 255)
    → CanBeFields (run_field byte r)
can-run byte None small form can = tt
can-run byte (Some r) small form can = (record { byte = small; form = form; content = can r refl }, tt)

four_fit : (r : Option (List ℕ)) → ForSome r (λ bytes. length bytes ≡ 4) → ForSome r (λ bytes. length bytes ≤ 255)
four_fit r four bytes is = let long = four bytes is in omega (arith, long)

can-kind : (kind : MsgKind) (m : Message) → HasSent kind m
    → ForSome m.algorithm (λ characters. IsTrue (is_text characters))
    → ForSome m.username (λ characters. IsTrue (is_text characters)) → ForSome m.nonce (λ bytes. length bytes ≤ 255)
    → ForSome m.digest (λ bytes. length bytes ≤ 255) → CanBeFields (sent_fields kind m)
can-kind Hello m has algorithm username nonce digest =
    can-append (number_field 5 m.version) _ (can-number 5 m.version (omega arith) refl)
    (can-number 9 m.remote_id (omega arith) refl)
can-kind Challenge m has algorithm username nonce digest =
    can-append (number_field 9 m.remote_id) _ (can-number 9 m.remote_id (omega arith) refl)
    (can-append (text_field 14 m.algorithm) _ (can-text 14 m.algorithm (omega arith) refl algorithm)
    (can-run 19 m.nonce (omega arith) refl nonce))
can-kind Authenticate m has algorithm username nonce digest =
    can-append (text_field 22 m.username) _ (can-text 22 m.username (omega arith) refl username)
    (can-run 27 m.digest (omega arith) refl digest)
can-kind Welcome m has algorithm username nonce digest = tt
can-kind KeepAlive m has algorithm username nonce digest =
    can-append (number_field 37 m.ack) _ (can-number 37 m.ack (omega arith) refl)
    (can-run 43 m.ack_more (omega arith) refl (four_fit m.ack_more has.1))
can-kind Datagram m has algorithm username nonce digest =
    can-append (number_field 37 m.ack) _ (can-number 37 m.ack (omega arith) refl)
    (can-run 43 m.ack_more (omega arith) refl (four_fit m.ack_more has.1))
can-kind Close m has algorithm username nonce digest = can-number 53 m.error_code (omega arith) refl

pub can-sent : (m : Message) → MaySend m → CanBeFields (sent_fields m.kind m)
can-sent m may = can-kind m.kind m may.has may.algorithm may.username may.nonce may.digest

pub number_of_kind-few : (kind : MsgKind) → number_of_kind kind ≤ 7
number_of_kind-few Hello = omega arith
number_of_kind-few Challenge = omega arith
number_of_kind-few Authenticate = omega arith
number_of_kind-few Welcome = omega arith
number_of_kind-few KeepAlive = omega arith
number_of_kind-few Datagram = omega arith
number_of_kind-few Close = omega arith

pub header-put : (header : Header) (byte : ℕ) (a b c d : Writer) → header.count < 16
    → byte ≡ 16 * number_of_kind header.kind + header.count → Writes (SpellsNumber 2) header.to a b
    → Writes (SpellsNumber 2) header.sequence b c → Writes (SpellsNumber 1) byte c d → Writes SpellsHeader header a d
header-put header byte a b c d few is first second third = record {
  spelling = first.spelling ++ (second.spelling ++ third.spelling);
  spelled = record {
    to = first.spelling;
    sequence = second.spelling;
    to_spelled = first.spelled;
    sequence_spelled = second.spelled;
    few = few;
    whole = ap (λ (t : List ℕ). first.spelling ++ (second.spelling ++ t))
        (one_byte byte third.spelling third.spelled ∙ ap (λ (n : ℕ). n ∷ []) is);
  };
  appends = appends-then a b d first.spelling (second.spelling ++ third.spelling) first.appends
      (appends-then b c d second.spelling third.spelling second.appends third.appends);
}

pub datagram-put : (header : Header) (fields : List Part) (payload : List ℕ) (a b c d : Writer)
    → length fields ≡ header.count → Writes SpellsHeader header a b → Writes SpellsFields fields b c
    → Appends c d payload → Writes (SpellsDatagram header fields) payload a d
datagram-put header fields payload a b c d counted first second third = record {
  spelling = first.spelling ++ (second.spelling ++ payload);
  spelled = record {
    head = first.spelling;
    body = second.spelling;
    head_spelled = first.spelled;
    body_spelled = (counted, second.spelled);
    whole = refl;
  };
  appends = appends-then a b d first.spelling (second.spelling ++ payload) first.appends
      (appends-then b c d second.spelling payload second.appends third);
}

pub front-put : {A : Type 0} (Spells : A → List ℕ → Type 0) (thing : A) (a b : Writer) (count : ℕ) (old new : List ℕ)
    → written a ≡ [] → untouched a ≡ old → Writes Spells thing a b → count ≡ length (written b)
    → new ≡ written b ++ untouched b → Puts Spells thing count old new
front-put Spells thing a b count old new nothing all done counted front = record {
  text = done.spelling;
  spelled = done.spelled;
  put = text-put done.spelling a b count old new nothing all done.appends counted front;
}

-- a text that was put at the front of a slice
pub front-text : (message : Message) (count : ℕ) (old new : List ℕ) → Puts IsSentAs message count old new → IsSentAs message (take count new)
front-text message count old new puts = subst (IsSentAs message) (sym (puts-taken puts.text count old new puts.put)) puts.spelled

pub front-fits : (message : Message) (count : ℕ) (old new : List ℕ) → Puts IsSentAs message count old new → length new ≡ 512 → count ≤ 512
front-fits message count old new puts of_new = omega (arith, puts-fit puts.text count old new puts.put, of_new)
