-- What is read, where the calls of a reader say what they found.
use Rattle.std.proofs.Common.{◌≡◌, ℕ, ◌%◌, ◌<◌, List, [], ◌∷◌, ◌++◌, length, Result, Ok, Err, IsErr, MatchResult, refl, sym, ◌∙◌, ap, arith, length-append}
use Rattle.sed_wire.specs.Number.{SpellsNumber}
use Rattle.sed_wire.specs.Reading.{Reads, ReadsAgain}
use Rattle.sed_wire.proofs.ReadingLemmas.{one_byte}
use Rattle.dasp_msg.specs.Field.{Content, nil, number, form_of, SpellsContent, SpellsField, SpellsRun}
use Rattle.dasp_msg.specs.Reading.{BeginsNone, ReadsOrNone}

-- where a call that reads refuses, nothing is spelled
pub refused-none : {A E : Type 0} (Spells : A → List ℕ → Type 0) (fault : E) (result : Result A E) (old new : List ℕ)
    → ReadsAgain Spells result old new → result ≡ Err fault → BeginsNone Spells old
refused-none Spells fault result old new again is thing spelling follows spelled front =
    let read = (again thing spelling follows spelled front).0 in
    absurd (cc)

-- where less is left than a number takes, none is spelled
pub short-none : (width : ℕ) (old : List ℕ) → length old < width → BeginsNone (SpellsNumber width) old
short-none width old short n spelling follows spelled front =
    omega (arith, short, ap length front, length-append spelling follows, spelled.as_many)

-- the byte in front
pub front-byte : (n : ℕ) (old new : List ℕ) → Reads (SpellsNumber 1) n old new → old ≡ n ∷ new
front-byte n old new found =
    found.front ∙ ap (λ (t : List ℕ). t ++ new) (one_byte n found.spelling found.spelled)

-- ---- so many bytes

pub run-read : (contents old mid new : List ℕ) (count : ℕ) → count < 256 → Reads (SpellsNumber 1) count old mid
    → length contents ≡ count → mid ≡ contents ++ new → Reads SpellsRun contents old new
run-read contents old mid new count small found long front = record {
  spelling = length contents ∷ contents;
  spelled = (omega (arith, small, long), refl);
  front = front-byte count old mid found ∙ ap (λ (n : ℕ). n ∷ mid) (sym long)
      ∙ ap (λ (t : List ℕ). length contents ∷ t) front;
}

pub run-no_count : (old : List ℕ) → length old < 1 → BeginsNone SpellsRun old
run-no_count old short contents spelling follows spelled front =
    omega (arith, short, ap length front, length-append spelling follows, ap length spelled.1)

pub run-cut : (old mid : List ℕ) (count : ℕ) → Reads (SpellsNumber 1) count old mid → length mid < count
    → BeginsNone SpellsRun old
run-cut old mid count found short contents spelling follows spelled front =
    let whole : count ∷ mid ≡ length contents ∷ (contents ++ follows) =
    sym (front-byte count old mid found) ∙ front ∙ ap (λ (t : List ℕ). t ++ follows) spelled.1 in
    let same : count ≡ length contents = cc in
    let behind : mid ≡ contents ++ follows = cc in
    omega (arith, short, same, ap length behind, length-append contents follows)

-- ---- what is behind a field's byte

abbrev pub OfForm : ℕ → Content → List ℕ → Type 0
OfForm form content bytes = (form ≡ form_of content) × SpellsContent content bytes

pub nil-read : (form : ℕ) (old : List ℕ) → form ≡ 0 → Reads (OfForm form) nil old old
nil-read form old is = record { spelling = []; spelled = (is, refl); front = refl }

pub number-read : (form n : ℕ) (old new : List ℕ) → form ≡ 1 → Reads (SpellsNumber 2) n old new
    → Reads (OfForm form) (number n) old new
number-read form n old new is found = record {
  spelling = found.spelling;
  spelled = (is, found.spelled);
  front = found.front;
}

-- ---- a field

pub field-no_byte : (old : List ℕ) → length old < 1 → BeginsNone SpellsField old
field-no_byte old short part spelling follows spelled front =
    omega (arith, short, ap length front, length-append spelling follows, ap length spelled.whole)

pub field-read : (byte : ℕ) (content : Content) (old mid new : List ℕ) → byte < 256
    → Reads (SpellsNumber 1) byte old mid → Reads (OfForm (byte % 4)) content mid new
    → Reads SpellsField (record { byte = byte; content = content }) old new
field-read byte content old mid new small first found = record {
  spelling = byte ∷ found.spelling;
  spelled = record {
    byte = small;
    form = found.spelled.0;
    content = found.spelling;
    spelled = found.spelled.1;
    whole = refl;
  };
  front = front-byte byte old mid first ∙ ap (λ (t : List ℕ). byte ∷ t) found.front;
}

pub field-none : (byte : ℕ) (old mid : List ℕ) → Reads (SpellsNumber 1) byte old mid
    → BeginsNone (OfForm (byte % 4)) mid → BeginsNone SpellsField old
field-none byte old mid first none part spelling follows spelled front =
    let whole : byte ∷ mid ≡ part.byte ∷ (spelled.content ++ follows) =
    sym (front-byte byte old mid first) ∙ front ∙ ap (λ (t : List ℕ). t ++ follows) spelled.whole in
    let same : byte ≡ part.byte = cc in
    let behind : mid ≡ spelled.content ++ follows = cc in
    none part.content spelled.content follows (ap (λ (n : ℕ). n % 4) same ∙ spelled.form, spelled.spelled) behind

-- ---- refusals

pub is_where_err : {X E : Type 0} (P : X → Type 0) (Q : Type 0) (result : Result X E) → IsErr result → Q
    → MatchResult result P (λ fault. Q)
is_where_err P Q (Ok x) err q = absurd cc
is_where_err P Q (Err e) err q = q

pub none_where_err : {X A E : Type 0} (seen : X → A) (Spells : A → List ℕ → Type 0) (result : Result X E)
    (old new : List ℕ) → IsErr result → BeginsNone Spells old → ReadsOrNone seen Spells result old new
none_where_err seen Spells (Ok x) old new err none = absurd cc
none_where_err seen Spells (Err e) old new err none = none
