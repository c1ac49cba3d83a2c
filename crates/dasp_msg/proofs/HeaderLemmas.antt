-- Headers: each has one spelling, and bytes begin with one at most.
use Rattle.std.proofs.Common.{◌≡◌, ℕ, ◌+◌, ◌/◌, ◌%◌, ◌<◌, ◌==◌, if◌then◌else◌, List, [], ◌∷◌, ◌++◌, length, refl, sym, ◌∙◌, ap, arith, append_assoc, length-append}
use Rattle.sed_wire.specs.Number.{SpellsNumber}
use Rattle.sed_wire.specs.Reading.{Reads}
use Rattle.sed_wire.proofs.FrontLemmas.{one_number, read_number}
use Rattle.dasp_msg.specs.declared.header.Header.{Header}
use Rattle.dasp_msg.specs.declared.kind.MsgKind.{MsgKind}
use Rattle.dasp_msg.specs.declared.kind.MsgKind.TheVariants.{Hello, Challenge, Authenticate, Welcome, KeepAlive, Datagram, Close}
use Rattle.dasp_msg.specs.Header.{SpellsHeader, kind_and_count}
use Rattle.dasp_msg.specs.Kind.{number_of_kind}
use Rattle.dasp_msg.specs.Reading.{BeginsNone}
use Rattle.dasp_msg.proofs.ReaderLemmas.{front-byte}

kind_at : ℕ → MsgKind
kind_at n =
    if n == 1 then Hello else if n == 2 then Challenge else if n == 3 then Authenticate else if n == 4 then Welcome
    else if n == 5 then KeepAlive else if n == 6 then Datagram else Close

kind_at-number : (kind : MsgKind) → kind_at (number_of_kind kind) ≡ kind
unfolding kind_at
kind_at-number Hello = refl
kind_at-number Challenge = refl
kind_at-number Authenticate = refl
kind_at-number Welcome = refl
kind_at-number KeepAlive = refl
kind_at-number Datagram = refl
kind_at-number Close = refl

same_kind : (kind other : MsgKind) → number_of_kind kind ≡ number_of_kind other → kind ≡ other
same_kind kind other e = sym (kind_at-number kind) ∙ ap kind_at e ∙ kind_at-number other

abbrev header : ℕ → ℕ → MsgKind → ℕ → Header
header to sequence kind count = record { to = to; sequence = sequence; kind = kind; count = count }

-- the three parts of a header, and what is behind it
pub header-parts : (h : Header) (spelling after : List ℕ) (spelled : SpellsHeader h spelling)
    → spelling ++ after ≡ spelled.to ++ (spelled.sequence ++ (kind_and_count h ∷ after))
header-parts h spelling after spelled =
    ap (λ (t : List ℕ). t ++ after) spelled.whole
    ∙ append_assoc spelled.to (spelled.sequence ++ kind_and_count h ∷ []) after
    ∙ ap (λ (t : List ℕ). spelled.to ++ t) (append_assoc spelled.sequence (kind_and_count h ∷ []) after)

pub header-one_way : (h g : Header) (a b after others : List ℕ) → SpellsHeader h a → SpellsHeader g b
    → a ++ after ≡ b ++ others → (h ≡ g) × (after ≡ others)
header-one_way h g a b after others of_h of_g e =
    let whole = sym (header-parts h a after of_h) ∙ e ∙ header-parts g b others of_g in
    let to = read_number 2 h.to g.to of_h.to of_g.to (of_h.sequence ++ (kind_and_count h ∷ after))
    (of_g.sequence ++ (kind_and_count g ∷ others)) of_h.to_spelled of_g.to_spelled whole in
    let sequence = read_number 2 h.sequence g.sequence of_h.sequence of_g.sequence (kind_and_count h ∷ after)
    (kind_and_count g ∷ others) of_h.sequence_spelled of_g.sequence_spelled to.2 in
    let byte : kind_and_count h ≡ kind_and_count g = let both = sequence.2 in cc in
    let behind : after ≡ others = let both = sequence.2 in cc in
    let number : number_of_kind h.kind ≡ number_of_kind g.kind = omega (arith, byte, of_h.few, of_g.few) in
    let count : h.count ≡ g.count = omega (arith, byte, number) in (
      ap (λ (n : ℕ). header n h.sequence h.kind h.count) to.0
          ∙ ap (λ (n : ℕ). header g.to n h.kind h.count) sequence.0
          ∙ ap (λ (k : MsgKind). header g.to g.sequence k h.count) (same_kind h.kind g.kind number)
          ∙ ap (λ (n : ℕ). header g.to g.sequence g.kind n) count,
      behind,
    )

pub header-one : (h : Header) (a b : List ℕ) → SpellsHeader h a → SpellsHeader h b → a ≡ b
header-one h a b of_a of_b =
    let to = one_number 2 h.to of_a.to of_b.to of_a.to_spelled of_b.to_spelled in
    let sequence = one_number 2 h.sequence of_a.sequence of_b.sequence of_a.sequence_spelled of_b.sequence_spelled in
    of_a.whole ∙ ap (λ (t : List ℕ). t ++ (of_a.sequence ++ kind_and_count h ∷ [])) to
    ∙ ap (λ (t : List ℕ). of_b.to ++ (t ++ kind_and_count h ∷ [])) sequence ∙ sym of_b.whole

pub header-size : (h : Header) (a : List ℕ) → SpellsHeader h a → length a ≡ 5
header-size h a of_a =
    omega (
      arith,
      ap length of_a.whole,
      length-append of_a.to (of_a.sequence ++ kind_and_count h ∷ []),
      length-append of_a.sequence (kind_and_count h ∷ []),
      of_a.to_spelled.as_many,
      of_a.sequence_spelled.as_many,
    )

-- where fewer than five bytes are left there is no header
pub header-short : (old : List ℕ) → length old < 5 → BeginsNone SpellsHeader old
header-short old short h spelling follows spelled front =
    omega (arith, short, ap length front, length-append spelling follows, header-size h spelling spelled)

pub left-behind : (width n : ℕ) (old new : List ℕ) → Reads (SpellsNumber width) n old new
    → length old ≡ width + length new
left-behind width n old new found =
    omega (arith, ap length found.front, length-append found.spelling new, found.spelled.as_many)

-- where the byte's number is no kind's
pub header-no_kind : (to sequence byte : ℕ) (old a b new : List ℕ) → Reads (SpellsNumber 2) to old a
    → Reads (SpellsNumber 2) sequence a b → Reads (SpellsNumber 1) byte b new
    → ((kind : MsgKind) → number_of_kind kind ≡ byte / 16 → ⊥) → BeginsNone SpellsHeader old
header-no_kind to sequence byte old a b new of_to of_sequence of_byte none h spelling follows spelled front =
    let whole = sym of_to.front ∙ front ∙ header-parts h spelling follows spelled in
    let first = read_number 2 to h.to of_to.spelling spelled.to a (spelled.sequence ++ (kind_and_count h ∷ follows))
    of_to.spelled spelled.to_spelled whole in
    let second = read_number 2 sequence h.sequence of_sequence.spelling spelled.sequence b (kind_and_count h ∷ follows)
    of_sequence.spelled spelled.sequence_spelled (sym of_sequence.front ∙ first.2) in
    let third : byte ∷ new ≡ kind_and_count h ∷ follows = sym (front-byte byte b new of_byte) ∙ second.2 in
    let is : byte ≡ kind_and_count h = cc in
    none h.kind (omega (arith, is, spelled.few))

pub header-read : (to sequence byte : ℕ) (kind : MsgKind) (old a b new : List ℕ) → Reads (SpellsNumber 2) to old a
    → Reads (SpellsNumber 2) sequence a b → Reads (SpellsNumber 1) byte b new → number_of_kind kind ≡ byte / 16
    → Reads SpellsHeader (record { to = to; sequence = sequence; kind = kind; count = byte % 16 }) old new
header-read to sequence byte kind old a b new of_to of_sequence of_byte is =
    let h = header to sequence kind (byte % 16) in
    let whole : byte ≡ kind_and_count h = omega (arith, is) in
    let last : b ≡ kind_and_count h ∷ new =
    front-byte byte b new of_byte ∙ ap (λ (n : ℕ). n ∷ new) whole in
    let spelled : SpellsHeader h (of_to.spelling ++ (of_sequence.spelling ++ kind_and_count h ∷ [])) = record {
      to = of_to.spelling;
      sequence = of_sequence.spelling;
      to_spelled = of_to.spelled;
      sequence_spelled = of_sequence.spelled;
      few = omega arith;
      whole = refl;
    } in
    record {
      spelling = of_to.spelling ++ (of_sequence.spelling ++ kind_and_count h ∷ []);
      spelled = spelled;
      front = of_to.front ∙ ap (λ (t : List ℕ). of_to.spelling ++ t) of_sequence.front
          ∙ ap (λ (t : List ℕ). of_to.spelling ++ (of_sequence.spelling ++ t)) last
          ∙ sym (header-parts h _ new spelled);
    }
