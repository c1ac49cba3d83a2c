-- Bytes are one message at most.
use Rattle.std.proofs.Common.{◌≡◌, ℕ, List, ◌++◌, length, Result, Ok, Err, MatchResult, IsErr, IsOkAnd, ◌↔◌, refl, sym, subst, ◌∙◌, ap}
use Rattle.sed_wire.specs.Reading.{Reads}
use Rattle.dasp_msg.specs.declared.header.Header.{Header}
use Rattle.dasp_msg.specs.declared.kind.MsgKind.{MsgKind}
use Rattle.dasp_msg.specs.Field.{Part}
use Rattle.dasp_msg.specs.Header.{SpellsHeader}
use Rattle.dasp_msg.specs.Message.{HasNeeded, IsMalformed, IsMessage, MayFollow, SpellsSoMany}
use Rattle.dasp_msg.specs.Reading.{BeginsNone}
use Rattle.dasp_msg.specs.Shown.{Message, shown_by}
use Rattle.dasp_msg.proofs.FieldLemmas.{fields-one_way}
use Rattle.dasp_msg.proofs.HeaderLemmas.{header-one_way}

-- what a message has, where its header and its fields were read
pub record HasParts (header : Header) (fields : List Part) (rest : List ℕ) (message : Message) : Type 0 where
  pub shown : message ≡ shown_by header fields rest
  pub follows : MayFollow header.kind rest
  pub needed : HasNeeded header.kind message

pub parts-are : (header : Header) (fields : List Part) (old mid rest : List ℕ) (message : Message)
    → Reads SpellsHeader header old mid → Reads (SpellsSoMany header.count) fields mid rest → IsMessage old message
    → HasParts header fields rest message
parts-are header fields old mid rest message first second is =
    let spelled = is.spelled in
    let heads = header-one_way header is.header first.spelling spelled.head mid (spelled.body ++ is.payload) first.spelled
    spelled.head_spelled (sym first.front ∙ spelled.whole) in
    let counted : length fields ≡ length is.fields =
    second.spelled.0 ∙ ap (λ (h : Header). h.count) heads.0 ∙ sym spelled.body_spelled.0 in
    let bodies = fields-one_way fields is.fields second.spelling spelled.body rest is.payload counted second.spelled.1
    spelled.body_spelled.1 (sym second.front ∙ heads.1) in
    let kind : is.header.kind ≡ header.kind = ap (λ (h : Header). h.kind) (sym heads.0) in
    record {
      shown = is.shown ∙ ap (λ (h : Header). shown_by h is.fields is.payload) (sym heads.0)
          ∙ ap (λ (fs : List Part). shown_by header fs is.payload) (sym bodies.0)
          ∙ ap (λ (t : List ℕ). shown_by header fields t) (sym bodies.1);
      follows = subst (λ (t : List ℕ). MayFollow header.kind t) (sym bodies.1)
          (subst (λ (k : MsgKind). MayFollow k is.payload) kind is.follows);
      needed = subst (λ (k : MsgKind). HasNeeded k message) kind is.needed;
    }

pub is_made : (header : Header) (fields : List Part) (old mid rest : List ℕ) (message : Message)
    → Reads SpellsHeader header old mid → Reads (SpellsSoMany header.count) fields mid rest
    → HasParts header fields rest message → IsMessage old message
is_made header fields old mid rest message first second parts = record {
  header = header;
  fields = fields;
  payload = rest;
  spelled = record {
    head = first.spelling;
    body = second.spelling;
    head_spelled = first.spelled;
    body_spelled = second.spelled;
    whole = first.front ∙ ap (λ (t : List ℕ). first.spelling ++ t) second.front;
  };
  shown = parts.shown;
  follows = parts.follows;
  needed = parts.needed;
}

pub no_header : (bytes : List ℕ) → BeginsNone SpellsHeader bytes → IsMalformed bytes
no_header bytes none message is =
    none is.header is.spelled.head (is.spelled.body ++ is.payload) is.spelled.head_spelled is.spelled.whole

pub no_fields : (header : Header) (old mid : List ℕ) → Reads SpellsHeader header old mid
    → BeginsNone (SpellsSoMany header.count) mid → IsMalformed old
no_fields header old mid first none message is =
    let spelled = is.spelled in
    let heads = header-one_way header is.header first.spelling spelled.head mid (spelled.body ++ is.payload) first.spelled
    spelled.head_spelled (sym first.front ∙ spelled.whole) in
    let count : is.header.count ≡ header.count = ap (λ (h : Header). h.count) (sym heads.0) in
    none is.fields spelled.body is.payload
    (subst (λ (n : ℕ). SpellsSoMany n is.fields spelled.body) count spelled.body_spelled) heads.1

pub one_message : (bytes : List ℕ) (message other : Message) → IsMessage bytes message → IsMessage bytes other
    → message ≡ other
one_message bytes message other is also =
    let spelled = is.spelled in
    let first : Reads SpellsHeader is.header bytes (spelled.body ++ is.payload) = record {
      spelling = spelled.head;
      spelled = spelled.head_spelled;
      front = spelled.whole;
    } in
    let second : Reads (SpellsSoMany is.header.count) is.fields (spelled.body ++ is.payload) is.payload = record {
      spelling = spelled.body;
      spelled = spelled.body_spelled;
      front = refl;
    } in
    is.shown ∙ sym (parts-are is.header is.fields bytes (spelled.body ++ is.payload) is.payload other first second also).shown

-- where what is behind the fields may not stand there
pub cannot_follow : (header : Header) (fields : List Part) (old mid rest payload : List ℕ)
    → Reads SpellsHeader header old mid → Reads (SpellsSoMany header.count) fields mid rest → payload ≡ rest
    → (MayFollow header.kind payload → ⊥) → IsMalformed old
cannot_follow header fields old mid rest payload first second is cannot message also =
    let parts = parts-are header fields old mid rest message first second also in
    cannot (subst (λ (t : List ℕ). MayFollow header.kind t) (sym is) parts.follows)

-- where something that is needed is not there
pub lacks_needed : (header : Header) (fields : List Part) (old mid rest : List ℕ) (shown : Message)
    → Reads SpellsHeader header old mid → Reads (SpellsSoMany header.count) fields mid rest
    → shown ≡ shown_by header fields rest → (HasNeeded shown.kind shown → ⊥) → IsMalformed old
lacks_needed header fields old mid rest shown first second is lacks message also =
    let parts = parts-are header fields old mid rest message first second also in
    let same : message ≡ shown = parts.shown ∙ sym is in
    let kind : header.kind ≡ shown.kind = ap (λ (m : Message). m.kind) (sym is) in
    lacks (subst (λ (k : MsgKind). HasNeeded k shown) kind
    (subst (λ (m : Message). HasNeeded header.kind m) same parts.needed))

pub needed_of : (header : Header) (fields : List Part) (rest : List ℕ) (shown : Message)
    → shown ≡ shown_by header fields rest → HasNeeded shown.kind shown → HasNeeded header.kind shown
needed_of header fields rest shown is needed =
    subst (λ (k : MsgKind). HasNeeded k shown) (ap (λ (m : Message). m.kind) is) needed

-- what comes of the reading of a message
abbrev pub Outcome : {X E : Type 0} → (X → Message) → List ℕ → Result X E → Type 0
Outcome seen bytes result =
    MatchResult result (λ x. IsMessage bytes (seen x)) (λ fault. IsMalformed bytes)

pub outcome-only : {X E : Type 0} (seen : X → Message) (bytes : List ℕ) (result : Result X E) → Outcome seen bytes result
    → (message : Message) → IsMessage bytes message → IsOkAnd result (λ x. seen x ≡ message)
outcome-only seen bytes (Ok x) is message also = one_message bytes (seen x) message is also
outcome-only seen bytes (Err e) none message also = absurd (none message also)

pub outcome-malformed : {X E : Type 0} (seen : X → Message) (bytes : List ℕ) (result : Result X E)
    → Outcome seen bytes result → IsErr result ↔ IsMalformed bytes
outcome-malformed seen bytes (Ok x) is = ((λ err. absurd cc), (λ none. absurd (none (seen x) is)))
outcome-malformed seen bytes (Err e) none = ((λ err. none), (λ also. refl))
