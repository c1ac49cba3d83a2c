-- Bytes are a message or none, whatever they are: a header, as many fields as it says, and what is behind them.
use Rattle.std.proofs.Common.{◌≡◌, ℕ, zero, suc, ◌/◌, ◌%◌, ◌<◌, ◌≤◌, ◌⊎◌, inl, inr, List, [], ◌∷◌, ◌++◌, length, take, drop, refl, sym, ◌∙◌, ap, arith, append_assoc, length-append, length-take-le, take-append-drop}
use Rattle.std.proofs.lemmas.Bool.{cases_eq, cases_lt}
use Rattle.std.proofs.lemmas.Bool.Decides.{nat_tests}
use Rattle.std.specs.Prelude.{is_some}
use Rattle.sed_wire.specs.Form.{Form, not_found}
use Rattle.sed_wire.specs.FormReading.{Reading, Found, Stuck}
use Rattle.sed_wire.specs.Leaves as leaf
use Rattle.sed_wire.specs.Number.{SpellsNumber}
use Rattle.sed_wire.specs.Reading.{Reads}
use Rattle.sed_wire.specs.Text.{SpellsText}
use Rattle.sed_wire.proofs.FrontLemmas.{read_number}
use Rattle.dasp_msg.specs.declared.kind.MsgKind.{MsgKind}
use Rattle.dasp_msg.specs.declared.kind.MsgKind.TheVariants.{Hello, Challenge, Authenticate, Welcome, KeepAlive, Datagram, Close}
use Rattle.dasp_msg.specs.Field.{Part, SpellsField, SpellsRun, nil, number, run, text}
use Rattle.dasp_msg.specs.Header.{SpellsHeader, kind_and_count}
use Rattle.dasp_msg.specs.Kind.{number_of_kind}
use Rattle.dasp_msg.specs.Message.{HasNeeded, IsMalformed, IsMessage, MayFollow, SpellsSoMany}
use Rattle.dasp_msg.specs.Reading.{BeginsNone}
use Rattle.dasp_msg.specs.Shown.{Message, shown_by}
use Rattle.dasp_msg.proofs.FieldLemmas.{field-one_way, field-parts}
use Rattle.dasp_msg.proofs.HeaderLemmas.{header-no_kind, header-parts, header-read}
use Rattle.dasp_msg.proofs.MessageLemmas.{cannot_follow, is_made, lacks_needed, no_fields, no_header}
use Rattle.dasp_msg.proofs.ReaderLemmas.{OfForm, field-no_byte, field-none, field-read, nil-read, number-read, run-no_count}
use Rattle.node_events.proofs.Decided.{Decided, all_three, both, is_empty, is_true}

-- something of the kind is spelled by the front of the bytes, or nothing
abbrev Front : {A : Type 0} → (A → List ℕ → Type 0) → List ℕ → Type 0
Front {A} Spells bytes = ((thing : A) × (new : List ℕ) × Reads Spells thing bytes new) ⊎ BeginsNone Spells bytes

front_of : {A : Type 0} (form : Form A) (bytes : List ℕ) → Front form.spells bytes
front_of {A} form bytes = by_reading (form.reads bytes) refl
  where
    by_reading : (o : Reading A) → form.reads bytes ≡ o → Front form.spells bytes
    by_reading (Found thing new) is =
        let begun = form.sound bytes thing new is in
        inl (thing, new, record { spelling = begun.0; spelled = begun.1; front = begun.2 })
    by_reading (Stuck rest) is = inr (λ thing spelling follows spelled front.
        not_found rest follows thing (sym is ∙ ap form.reads front ∙ form.whole thing spelling follows spelled))

a_byte : (byte : ℕ) (behind : List ℕ) → byte < 256 → Reads (SpellsNumber 1) byte (byte ∷ behind) behind
a_byte byte behind small = record {
  spelling = byte ∷ [];
  spelled = record { as_many = refl; are_bytes = grind (arith, nat_tests); is_number = omega arith };
  front = refl;
}

-- ---- a header

kind_between : (kind : MsgKind) → (1 ≤ number_of_kind kind) × (number_of_kind kind ≤ 7)
kind_between Hello = (omega arith, omega arith)
kind_between Challenge = (omega arith, omega arith)
kind_between Authenticate = (omega arith, omega arith)
kind_between Welcome = (omega arith, omega arith)
kind_between KeepAlive = (omega arith, omega arith)
kind_between Datagram = (omega arith, omega arith)
kind_between Close = (omega arith, omega arith)

abbrev OfKind : ℕ → Type 0
OfKind n = ((kind : MsgKind) × (number_of_kind kind ≡ n)) ⊎ ((kind : MsgKind) → number_of_kind kind ≡ n → ⊥)

kind_with : (n : ℕ) → OfKind n
kind_with zero = inr (λ kind is. let least = (kind_between kind).0 in omega (arith, is, least))
kind_with (suc zero) = inl (Hello, refl)
kind_with (suc (suc zero)) = inl (Challenge, refl)
kind_with (suc (suc (suc zero))) = inl (Authenticate, refl)
kind_with (suc (suc (suc (suc zero)))) = inl (Welcome, refl)
kind_with (suc (suc (suc (suc (suc zero))))) = inl (KeepAlive, refl)
kind_with (suc (suc (suc (suc (suc (suc zero)))))) = inl (Datagram, refl)
kind_with (suc (suc (suc (suc (suc (suc (suc zero))))))) = inl (Close, refl)
kind_with (suc (suc (suc (suc (suc (suc (suc (suc n)))))))) =
    inr (λ kind is. let most = (kind_between kind).1 in omega (arith, is, most))

no_to : (bytes : List ℕ) → BeginsNone (SpellsNumber 2) bytes → BeginsNone SpellsHeader bytes
no_to bytes none h spelling follows spelled front =
    none h.to spelled.to (spelled.sequence ++ (kind_and_count h ∷ follows)) spelled.to_spelled
    (front ∙ header-parts h spelling follows spelled)

no_sequence : (to : ℕ) (bytes a : List ℕ) → Reads (SpellsNumber 2) to bytes a → BeginsNone (SpellsNumber 2) a
    → BeginsNone SpellsHeader bytes
no_sequence to bytes a of_to none h spelling follows spelled front =
    let whole = sym of_to.front ∙ front ∙ header-parts h spelling follows spelled in
    let first = read_number 2 to h.to of_to.spelling spelled.to a (spelled.sequence ++ (kind_and_count h ∷ follows))
    of_to.spelled spelled.to_spelled whole in
    none h.sequence spelled.sequence (kind_and_count h ∷ follows) spelled.sequence_spelled first.2

no_byte : (to sequence : ℕ) (bytes a b : List ℕ) → Reads (SpellsNumber 2) to bytes a
    → Reads (SpellsNumber 2) sequence a b → BeginsNone (SpellsNumber 1) b → BeginsNone SpellsHeader bytes
unfolding a_byte
no_byte to sequence bytes a b of_to of_sequence none h spelling follows spelled front =
    let whole = sym of_to.front ∙ front ∙ header-parts h spelling follows spelled in
    let first = read_number 2 to h.to of_to.spelling spelled.to a (spelled.sequence ++ (kind_and_count h ∷ follows))
    of_to.spelled spelled.to_spelled whole in
    let second = read_number 2 sequence h.sequence of_sequence.spelling spelled.sequence b (kind_and_count h ∷ follows)
    of_sequence.spelled spelled.sequence_spelled (sym of_sequence.front ∙ first.2) in
    let small : kind_and_count h < 256 = let most = (kind_between h.kind).1 in omega (arith, most, spelled.few) in
    let byte = a_byte (kind_and_count h) follows small in
    none (kind_and_count h) byte.spelling follows byte.spelled second.2

header_of : (to sequence byte : ℕ) (bytes a b new : List ℕ) → Reads (SpellsNumber 2) to bytes a
    → Reads (SpellsNumber 2) sequence a b → Reads (SpellsNumber 1) byte b new → OfKind (byte / 16)
    → Front SpellsHeader bytes
header_of to sequence byte bytes a b new of_to of_sequence of_byte (inl (kind, is)) =
    inl (_, new, header-read to sequence byte kind bytes a b new of_to of_sequence of_byte is)
header_of to sequence byte bytes a b new of_to of_sequence of_byte (inr none) =
    inr (header-no_kind to sequence byte bytes a b new of_to of_sequence of_byte none)

header_front : (bytes : List ℕ) → Front SpellsHeader bytes
header_front bytes = by_to (front_of (leaf.number 2) bytes)
  where
    by_byte : (to sequence : ℕ) (a b : List ℕ) → Reads (SpellsNumber 2) to bytes a → Reads (SpellsNumber 2) sequence a b
        → Front (SpellsNumber 1) b → Front SpellsHeader bytes
    by_byte to sequence a b of_to of_sequence (inl (byte, new, of_byte)) =
        header_of to sequence byte bytes a b new of_to of_sequence of_byte (kind_with (byte / 16))
    by_byte to sequence a b of_to of_sequence (inr none) = inr (no_byte to sequence bytes a b of_to of_sequence none)

    by_sequence : (to : ℕ) (a : List ℕ) → Reads (SpellsNumber 2) to bytes a → Front (SpellsNumber 2) a
        → Front SpellsHeader bytes
    by_sequence to a of_to (inl (sequence, b, of_sequence)) =
        by_byte to sequence a b of_to of_sequence (front_of (leaf.number 1) b)
    by_sequence to a of_to (inr none) = inr (no_sequence to bytes a of_to none)

    by_to : Front (SpellsNumber 2) bytes → Front SpellsHeader bytes
    by_to (inl (to, a, of_to)) = by_sequence to a of_to (front_of (leaf.number 2) a)
    by_to (inr none) = inr (no_to bytes none)

-- ---- what is behind a field's byte

run_front : (bytes : List ℕ) → Front SpellsRun bytes
run_front [] = inr (run-no_count [] (omega arith))
run_front (count ∷ mid) = by_size (cases_lt count 256) (cases_lt (length mid) count)
  where
    counted : (contents spelling follows : List ℕ) → SpellsRun contents spelling → count ∷ mid ≡ spelling ++ follows
        → (count ≡ length contents) × (mid ≡ contents ++ follows)
    counted contents spelling follows spelled front =
        let whole : count ∷ mid ≡ length contents ∷ (contents ++ follows) =
        front ∙ ap (λ (t : List ℕ). t ++ follows) spelled.1 in
        (cc, cc)

    by_size : (count < 256) ⊎ (256 ≤ count) → (length mid < count) ⊎ (count ≤ length mid) → Front SpellsRun (count ∷ mid)
    by_size (inr large) more = inr (λ contents spelling follows spelled front.
        let same = (counted contents spelling follows spelled front).0 in omega (arith, large, same, spelled.0))
    by_size (inl small) (inl short) = inr (λ contents spelling follows spelled front.
        let parts = counted contents spelling follows spelled front in
        omega (arith, short, parts.0, ap length parts.1, length-append contents follows))
    by_size (inl small) (inr enough) =
        let long : length (take count mid) ≡ count = length-take-le count mid enough in
        inl (
          take count mid,
          drop count mid,
          record {
            spelling = count ∷ take count mid;
            spelled = (omega (arith, small, long), ap (λ (n : ℕ). n ∷ take count mid) (sym long));
            front = ap (λ (t : List ℕ). count ∷ t) (sym (take-append-drop count mid));
          },
        )

no_number : (bytes : List ℕ) → BeginsNone (SpellsNumber 2) bytes → BeginsNone (OfForm 1) bytes
no_number bytes none nil spelling follows is front = omega (arith, is.0)
no_number bytes none (number n) spelling follows is front = none n spelling follows is.1 front
no_number bytes none (text t) spelling follows is front = omega (arith, is.0)
no_number bytes none (run r) spelling follows is front = omega (arith, is.0)

no_text : (bytes : List ℕ) → BeginsNone SpellsText bytes → BeginsNone (OfForm 2) bytes
no_text bytes none nil spelling follows is front = omega (arith, is.0)
no_text bytes none (number n) spelling follows is front = omega (arith, is.0)
no_text bytes none (text t) spelling follows is front = none t spelling follows is.1 front
no_text bytes none (run r) spelling follows is front = omega (arith, is.0)

no_run : (bytes : List ℕ) → BeginsNone SpellsRun bytes → BeginsNone (OfForm 3) bytes
no_run bytes none nil spelling follows is front = omega (arith, is.0)
no_run bytes none (number n) spelling follows is front = omega (arith, is.0)
no_run bytes none (text t) spelling follows is front = omega (arith, is.0)
no_run bytes none (run r) spelling follows is front = none r spelling follows is.1 front

content_front : (form : ℕ) → form < 4 → (bytes : List ℕ) → Front (OfForm form) bytes
content_front zero below bytes = inl (nil, bytes, nil-read 0 bytes refl)
content_front (suc zero) below bytes = elim (front_of (leaf.number 2) bytes) [
  | inl found ↦ inl (number found.0, found.1, number-read 1 found.0 bytes found.1 refl found.2)
  | inr none ↦ inr (no_number bytes none)
]
content_front (suc (suc zero)) below bytes = elim (front_of leaf.text bytes) [
  | inl found ↦ inl (
    text found.0,
    found.1,
    record { spelling = found.2.spelling; spelled = (refl, found.2.spelled); front = found.2.front },
  )
  | inr none ↦ inr (no_text bytes none)
]
content_front (suc (suc (suc zero))) below bytes = elim (run_front bytes) [
  | inl found ↦ inl (
    run found.0,
    found.1,
    record { spelling = found.2.spelling; spelled = (refl, found.2.spelled); front = found.2.front },
  )
  | inr none ↦ inr (no_run bytes none)
]
content_front (suc (suc (suc (suc n)))) below bytes = absurd (omega (arith, below))

-- ---- fields

field_front : (bytes : List ℕ) → Front SpellsField bytes
field_front [] = inr (field-no_byte [] (omega arith))
field_front (byte ∷ mid) = by_size (cases_lt byte 256)
  where
    by_content : (small : byte < 256) → Front (OfForm (byte % 4)) mid → Front SpellsField (byte ∷ mid)
    by_content small (inl (content, new, found)) =
        inl (_, new, field-read byte content (byte ∷ mid) mid new small (a_byte byte mid small) found)
    by_content small (inr none) = inr (field-none byte (byte ∷ mid) mid (a_byte byte mid small) none)

    by_size : (byte < 256) ⊎ (256 ≤ byte) → Front SpellsField (byte ∷ mid)
    by_size (inl small) = by_content small (content_front (byte % 4) (omega arith) mid)
    by_size (inr large) = inr (λ part spelling follows spelled front.
        let whole : byte ∷ mid ≡ part.byte ∷ (spelled.content ++ follows) =
        front ∙ field-parts part spelling follows spelled in
        let same : byte ≡ part.byte = cc in
        omega (arith, large, same, spelled.byte))

no_first : (count : ℕ) (bytes : List ℕ) → BeginsNone SpellsField bytes → BeginsNone (SpellsSoMany (suc count)) bytes
no_first count bytes none [] spelling follows spelled front = omega (arith, spelled.0)
no_first count bytes none (part ∷ others) spelling follows spelled front =
    let parts = spelled.1 in
    none part parts.0 (parts.1 ++ follows) parts.2
    (front ∙ ap (λ (t : List ℕ). t ++ follows) parts.4 ∙ append_assoc parts.0 parts.1 follows)

no_others : (count : ℕ) (part : Part) (bytes mid : List ℕ) → Reads SpellsField part bytes mid
    → BeginsNone (SpellsSoMany count) mid → BeginsNone (SpellsSoMany (suc count)) bytes
no_others count part bytes mid first none [] spelling follows spelled front = omega (arith, spelled.0)
no_others count part bytes mid first none (other ∷ others) spelling follows spelled front =
    let parts = spelled.1 in
    let whole : first.spelling ++ mid ≡ parts.0 ++ (parts.1 ++ follows) =
    sym first.front ∙ front ∙ ap (λ (t : List ℕ). t ++ follows) parts.4 ∙ append_assoc parts.0 parts.1 follows in
    let same = field-one_way part other first.spelling parts.0 mid (parts.1 ++ follows) first.spelled parts.2 whole in
    none others parts.1 follows (omega (arith, spelled.0), parts.3) same.1

one_more : (count : ℕ) (bytes : List ℕ) → ((mid : List ℕ) → Front (SpellsSoMany count) mid) → Front SpellsField bytes
    → Front (SpellsSoMany (suc count)) bytes
one_more count bytes more (inr none) = inr (no_first count bytes none)
one_more count bytes more (inl (part, mid, first)) = by_others (more mid)
  where
    by_others : Front (SpellsSoMany count) mid → Front (SpellsSoMany (suc count)) bytes
    by_others (inr none) = inr (no_others count part bytes mid first none)
    by_others (inl (others, new, found)) = inl (
      part ∷ others,
      new,
      record {
        spelling = first.spelling ++ found.spelling;
        spelled = (
          omega (arith, found.spelled.0),
          (first.spelling, found.spelling, first.spelled, found.spelled.1, refl),
        );
        front = first.front ∙ ap (λ (t : List ℕ). first.spelling ++ t) found.front
            ∙ sym (append_assoc first.spelling found.spelling new);
      },
    )

fields_front : (count : ℕ) (bytes : List ℕ) → Front (SpellsSoMany count) bytes
fields_front zero bytes = inl ([], bytes, record { spelling = []; spelled = (refl, refl); front = refl })
fields_front (suc count) bytes = one_more count bytes (fields_front count) (field_front bytes)

-- ---- a message

may_follow : (kind : MsgKind) (payload : List ℕ) → Decided (MayFollow kind payload)
may_follow Hello payload = is_empty payload
may_follow Challenge payload = is_empty payload
may_follow Authenticate payload = is_empty payload
may_follow Welcome payload = is_empty payload
may_follow KeepAlive payload = is_empty payload
may_follow Datagram payload = inl tt
may_follow Close payload = is_empty payload

has_needed : (kind : MsgKind) (message : Message) → Decided (HasNeeded kind message)
has_needed Hello message =
    all_three (is_true (is_some message.version)) (is_true (is_some message.remote_id)) (cases_eq message.to 65535)
has_needed Challenge message = inl tt
has_needed Authenticate message = both (is_true (is_some message.username)) (is_true (is_some message.digest))
has_needed Welcome message = inl tt
has_needed KeepAlive message = inl tt
has_needed Datagram message = inl tt
has_needed Close message = inl tt

abbrev MessageOrNone : List ℕ → Type 0
MessageOrNone bytes = ((message : Message) × IsMessage bytes message) ⊎ IsMalformed bytes

pub message_or_none : (bytes : List ℕ) → MessageOrNone bytes
message_or_none bytes = elim (header_front bytes) [
  | inr none ↦ inr (no_header bytes none)
  | inl (header, mid, first) ↦ elim (fields_front header.count mid) [
    | inr none ↦ inr (no_fields header bytes mid first none)
    | inl (fields, rest, second) ↦ elim (may_follow header.kind rest) [
      | inr cannot ↦ inr (cannot_follow header fields bytes mid rest rest first second refl cannot)
      | inl follows ↦ elim (has_needed header.kind (shown_by header fields rest)) [
        | inr lacks ↦ inr (lacks_needed header fields bytes mid rest (shown_by header fields rest) first second refl lacks)
        | inl needed ↦ inl (
          shown_by header fields rest,
          is_made header fields bytes mid rest (shown_by header fields rest) first second
              (record { shown = refl; follows = follows; needed = needed }),
        )
      ]
    ]
  ]
]
