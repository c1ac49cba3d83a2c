-- Bytes are split behind their whole entries in one way.
use Rattle.std.proofs.Common.{◌≡◌, ◌≢◌, ℕ, zero, suc, ◌-◌, ◌≤◌, ◌<◌, inl, inr, true, false, ◌==◌, if◌then◌else◌, Option, Some, None, Result, Ok, Err, MatchResult, IsOkAnd, IsErrAnd, List, [], ◌∷◌, ◌++◌, length, refl, sym, subst, ◌∙◌, ap, arith, append_assoc, length-append}
use Rattle.std.proofs.lemmas.Bool.{eqb-true}
use Rattle.std.proofs.lemmas.Bool.Decides.{nat_tests}
use Rattle.std.proofs.lemmas.List.{append-nil}
use Rattle.sed_wire.proofs.FrontLemmas.{one_number, one_signed, same_front}
use Rattle.std.specs.Int.{w64}
use Rattle.replay_log.specs.declared.records.NotARecord.{NotARecord}
use Rattle.replay_log.specs.Entry.{Entry, datagram, tick, SpellsEntry}
use Rattle.replay_log.specs.Reading.{distance_at, entries_in, entries_of, entry_at}
use Rattle.replay_log.specs.Record.{BeginsNoEntry, EndsWrong, no_mark, goes_on, no_entry, IsRecord, IsRefusedAt, SpellsEntries}
use Rattle.replay_log.specs.Split.{IsSplit}
use Rattle.replay_log.proofs.EntryLemmas.{entry_at-complete, entry_at-none, entry_at-sound}
use Rattle.replay_log.proofs.NumberLemmas.{some_eq, split}

-- an entry has a letter at least
entry-letter : (entry : Entry) (text : List ℕ) → SpellsEntry entry text → 0 < length text
entry-letter (datagram sender bytes) text spells = omega (arith, ap length spells.whole)
entry-letter (tick moment) text spells = omega (arith, ap length spells.whole)

-- what is behind an entry is shorter
pub shorter : (bytes : List ℕ) (entry : Entry) (rest : List ℕ) → entry_at bytes ≡ Some (entry, rest)
    → length rest < length bytes
shorter bytes entry rest e =
    let found = entry_at-sound bytes entry rest e in
    let some = entry-letter entry found.spelling found.spelled in
    omega (arith, some, ap length found.front, length-append found.spelling rest)

-- ---- all entries that bytes begin with

one_step : (most : ℕ) (bytes : List ℕ) (entry : Entry) (rest : List ℕ) → entry_at bytes ≡ Some (entry, rest)
    → entries_in (suc most) bytes ≡ entry ∷ entries_in most rest
one_step most bytes entry rest e = rw e refl

no_step : (most : ℕ) (bytes : List ℕ) → entry_at bytes ≡ None → entries_in most bytes ≡ []
no_step zero bytes e = refl
no_step (suc most) bytes e = rw e refl

nothing-left : (bytes : List ℕ) → length bytes ≤ 0 → entry_at bytes ≡ None
unfolding entry_at
nothing-left [] none = refl
nothing-left (byte ∷ bytes) none = absurd (omega (arith, none))

enough-step : (n m : ℕ) (bytes : List ℕ) (o : Option (Entry × List ℕ)) → entry_at bytes ≡ o
    → ((rest : List ℕ) → length rest ≤ n → length rest ≤ m → entries_in n rest ≡ entries_in m rest)
    → length bytes ≤ suc n → length bytes ≤ suc m → entries_in (suc n) bytes ≡ entries_in (suc m) bytes
enough-step n m bytes None e again of_n of_m = no_step (suc n) bytes e ∙ sym (no_step (suc m) bytes e)
enough-step n m bytes (Some read) e again of_n of_m =
    let less = shorter bytes read.0 read.1 e in
    one_step n bytes read.0 read.1 e
    ∙ ap (λ (es : List Entry). read.0 ∷ es) (again read.1 (omega (arith, less, of_n)) (omega (arith, less, of_m)))
    ∙ sym (one_step m bytes read.0 read.1 e)

-- more room than there are bytes finds no more entries
enough : (n m : ℕ) (bytes : List ℕ) → length bytes ≤ n → length bytes ≤ m → entries_in n bytes ≡ entries_in m bytes
enough zero m bytes of_n of_m = sym (no_step m bytes (nothing-left bytes of_n))
enough (suc n) zero bytes of_n of_m = no_step (suc n) bytes (nothing-left bytes of_m)
enough (suc n) (suc m) bytes of_n of_m = enough-step n m bytes (entry_at bytes) refl (enough n m) of_n of_m

of_none : (bytes : List ℕ) → entry_at bytes ≡ None → entries_of bytes ≡ []
unfolding entries_of
of_none bytes e = no_step (length bytes) bytes e

of_some : (n : ℕ) (bytes : List ℕ) (entry : Entry) (rest : List ℕ) → length bytes ≡ n
    → entry_at bytes ≡ Some (entry, rest) → entries_of bytes ≡ entry ∷ entries_of rest
unfolding entries_of
of_some zero bytes entry rest long e = absurd (let less = shorter bytes entry rest e in omega (arith, less, long))
of_some (suc n) bytes entry rest long e =
    let less = shorter bytes entry rest e in
    ap (λ (k : ℕ). entries_in k bytes) long ∙ one_step n bytes entry rest e
    ∙ ap (λ (es : List Entry). entry ∷ es) (enough n (length rest) rest (omega (arith, less, long)) (omega arith))

-- what is left once one entry more is given
pub left_after : (bytes : List ℕ) (entry : Entry) (rest : List ℕ) → entry_at bytes ≡ Some (entry, rest)
    → entries_of bytes ≡ entry ∷ entries_of rest
left_after bytes entry rest e = of_some (length bytes) bytes entry rest refl e

pub none_left : (bytes : List ℕ) → entry_at bytes ≡ None → entries_of bytes ≡ []
none_left bytes e = of_none bytes e

-- ---- one entry after the other

pub entries-join : (xs ys : List Entry) (a b : List ℕ) → SpellsEntries xs a → SpellsEntries ys b
    → SpellsEntries (xs ++ ys) (a ++ b)
entries-join [] ys a b of_a of_b = subst (SpellsEntries ys) (ap (λ (t : List ℕ). t ++ b) (sym of_a)) of_b
entries-join (x ∷ xs) ys a b of_a of_b = (
  of_a.0,
  of_a.1 ++ b,
  of_a.2,
  entries-join xs ys of_a.1 b of_a.3 of_b,
  ap (λ (t : List ℕ). t ++ b) of_a.4 ∙ append_assoc of_a.0 of_a.1 b,
)

pub entry_alone : (entry : Entry) (text : List ℕ) → SpellsEntry entry text → SpellsEntries (entry ∷ []) text
entry_alone entry text spells = (text, [], spells, refl, sym (append-nil text))

-- what is behind some whole entries
pub record IsBehind (bytes rest : List ℕ) : Type 0 where
  pub entries : List Entry
  pub text : List ℕ
  pub spelled : SpellsEntries entries text
  pub parted : bytes ≡ text ++ rest

pub behind-start : (bytes : List ℕ) → IsBehind bytes bytes
behind-start bytes = record { entries = []; text = []; spelled = refl; parted = refl }

pub behind-more : (bytes left : List ℕ) (entry : Entry) (rest : List ℕ) → IsBehind bytes left
    → entry_at left ≡ Some (entry, rest) → IsBehind bytes rest
behind-more bytes left entry rest before e =
    let found = entry_at-sound left entry rest e in
    record {
      entries = before.entries ++ entry ∷ [];
      text = before.text ++ found.spelling;
      spelled = entries-join before.entries (entry ∷ []) before.text found.spelling before.spelled
          (entry_alone entry found.spelling found.spelled);
      parted = before.parted ∙ ap (λ (t : List ℕ). before.text ++ t) found.front
          ∙ sym (append_assoc before.text found.spelling rest);
    }

pub behind-end : (bytes rest : List ℕ) → IsBehind bytes rest → entry_at rest ≡ None → IsSplit bytes rest
behind-end bytes rest before e = record {
  entries = before.entries;
  text = before.text;
  spelled = before.spelled;
  parted = before.parted;
  none = entry_at-none rest e;
}

-- ---- one split

no_none : (bytes : List ℕ) → BeginsNoEntry bytes → entry_at bytes ≡ None
no_none bytes begins = cases (entry_at bytes) (λ read e.
    let found = entry_at-sound bytes read.0 read.1 e in
    begins read.0 found.spelling read.1 found.spelled found.front)
  where
    cases : (o : Option (Entry × List ℕ)) → ((read : Entry × List ℕ) → o ≡ Some read → ⊥) → o ≡ None
    cases None never = refl
    cases (Some read) never = absurd (never read refl)

-- entries with a text are all that the bytes begin with
all_found : (entries : List Entry) (text rest : List ℕ) → SpellsEntries entries text → BeginsNoEntry rest
    → entries_of (text ++ rest) ≡ entries
all_found [] text rest spells begins =
    ap (λ (t : List ℕ). entries_of (t ++ rest)) spells ∙ of_none rest (no_none rest begins)
all_found (entry ∷ behind) text rest spells begins =
    let parted : text ++ rest ≡ spells.0 ++ (spells.1 ++ rest) =
    ap (λ (t : List ℕ). t ++ rest) spells.4 ∙ append_assoc spells.0 spells.1 rest in
    let first = entry_at-complete entry spells.0 (spells.1 ++ rest) spells.2 in
    ap entries_of parted ∙ left_after (spells.0 ++ (spells.1 ++ rest)) entry (spells.1 ++ rest) first
    ∙ ap (λ (es : List Entry). entry ∷ es) (all_found behind spells.1 rest spells.3 begins)

-- fronts before the same rest are one
same_before : (a b rest : List ℕ) → a ++ rest ≡ b ++ rest → a ≡ b
same_before a b rest e =
    let long : length a ≡ length b = omega (arith, ap length e, length-append a rest, length-append b rest) in
    (same_front a b rest rest long e).0

pub one_text : (entries : List Entry) (a b : List ℕ) → SpellsEntries entries a → SpellsEntries entries b → a ≡ b
one_text [] a b of_a of_b = of_a ∙ sym of_b
one_text (entry ∷ behind) a b of_a of_b =
    let first = one_entry entry of_a.0 of_b.0 of_a.2 of_b.2 in
    let others = one_text behind of_a.1 of_b.1 of_a.3 of_b.3 in
    of_a.4 ∙ ap (λ (t : List ℕ). t ++ of_a.1) first ∙ ap (λ (t : List ℕ). of_b.0 ++ t) others ∙ sym of_b.4
  where
    one_entry : (entry : Entry) (a b : List ℕ) → SpellsEntry entry a → SpellsEntry entry b → a ≡ b
    one_entry (datagram sender bytes) a b of_a of_b =
        let port = one_number 2 sender.port of_a.port of_b.port of_a.port_spelled of_b.port_spelled in
        let count = one_number 2 (length bytes) of_a.count of_b.count of_a.count_spelled of_b.count_spelled in
        of_a.whole ∙ ap (λ (t : List ℕ). 100 ∷ (sender.ip ++ (t ++ (of_a.count ++ bytes)))) port
        ∙ ap (λ (t : List ℕ). 100 ∷ (sender.ip ++ (of_b.port ++ (t ++ bytes)))) count ∙ sym of_b.whole
    one_entry (tick moment) a b of_a of_b =
        of_a.whole
        ∙ ap (λ (t : List ℕ). 116 ∷ t) (one_signed w64 moment of_a.number of_b.number of_a.spelled of_b.spelled)
        ∙ sym of_b.whole

pub record SameSplit (bytes a b : List ℕ) (of_a : IsSplit bytes a) (of_b : IsSplit bytes b) : Type 0 where
  pub entries : of_a.entries ≡ of_b.entries
  pub text : of_a.text ≡ of_b.text
  pub rest : a ≡ b

pub one_split : (bytes a b : List ℕ) (of_a : IsSplit bytes a) (of_b : IsSplit bytes b) → SameSplit bytes a b of_a of_b
one_split bytes a b of_a of_b =
    let found_a : entries_of bytes ≡ of_a.entries =
    ap entries_of of_a.parted ∙ all_found of_a.entries of_a.text a of_a.spelled of_a.none in
    let found_b : entries_of bytes ≡ of_b.entries =
    ap entries_of of_b.parted ∙ all_found of_b.entries of_b.text b of_b.spelled of_b.none in
    let entries : of_a.entries ≡ of_b.entries = sym found_a ∙ found_b in
    let text : of_a.text ≡ of_b.text =
    one_text of_b.entries of_a.text of_b.text
    (subst (λ (es : List Entry). SpellsEntries es of_a.text) entries of_a.spelled) of_b.spelled in
    let whole : of_a.text ++ a ≡ of_b.text ++ b = sym of_a.parted ∙ of_b.parted in
    record {
      entries = entries;
      text = text;
      rest = (same_front of_a.text of_b.text a b (ap length text) whole).1;
    }

-- ---- how bytes end

no_entry_at_mark : (others : List ℕ) → BeginsNoEntry (122 ∷ others)
unfolding entry_at
no_entry_at_mark others = entry_at-none (122 ∷ others) refl

no_entry_at_end : BeginsNoEntry []
unfolding entry_at
no_entry_at_end = entry_at-none [] refl

split-record : (bytes : List ℕ) (entries : List Entry) → IsRecord bytes entries → IsSplit bytes (122 ∷ [])
split-record bytes entries is = record {
  entries = entries;
  text = is.text;
  spelled = is.spelled;
  parted = is.ended;
  none = no_entry_at_mark [];
}

wrong-none : (rest : List ℕ) (distance : ℕ) → EndsWrong rest distance → BeginsNoEntry rest
wrong-none _ _ no_mark = no_entry_at_end
wrong-none _ _ (goes_on next others) = no_entry_at_mark (next ∷ others)
wrong-none _ _ (no_entry first others other begins) = begins

-- nothing is wrong with the end mark alone
wrong-mark : (rest : List ℕ) (distance : ℕ) → EndsWrong rest distance → rest ≡ 122 ∷ [] → ⊥
wrong-mark _ _ no_mark e = cc
wrong-mark _ _ (goes_on next others) e = cc
wrong-mark _ _ (no_entry first others other begins) e = other cc

distance_of : List ℕ → ℕ
distance_of [] = 0
distance_of (first ∷ []) = 0
distance_of (first ∷ next ∷ others) = if first == 122 then 1 else 0

wrong-distance : (rest : List ℕ) (distance : ℕ) → EndsWrong rest distance → distance ≡ distance_of rest
unfolding distance_of
wrong-distance _ _ no_mark = refl
wrong-distance _ _ (goes_on next others) = refl
wrong-distance _ _ (no_entry first [] other begins) = refl
wrong-distance _ _ (no_entry first (next ∷ others) other begins) =
    let differs : (first == 122) ≡ false = grind (arith, nat_tests) in
    rw differs refl

split-refused : (bytes : List ℕ) (place : ℕ) → (is : IsRefusedAt bytes place) → IsSplit bytes is.rest
split-refused bytes place is = record {
  entries = is.entries;
  text = is.text;
  spelled = is.spelled;
  parted = is.parted;
  none = wrong-none is.rest is.distance is.wrong;
}

-- ---- the laws

pub one_record : (bytes : List ℕ) (a b : List Entry) → IsRecord bytes a → IsRecord bytes b → a ≡ b
unfolding split-record
one_record bytes a b of_a of_b =
    (one_split bytes _ _ (split-record bytes a of_a) (split-record bytes b of_b)).entries

pub one_record_text : (a b : List ℕ) (entries : List Entry) → IsRecord a entries → IsRecord b entries → a ≡ b
one_record_text a b entries of_a of_b =
    of_a.ended ∙ ap (λ (t : List ℕ). t ++ 122 ∷ []) (one_text entries of_a.text of_b.text of_a.spelled of_b.spelled)
    ∙ sym of_b.ended

pub one_place : (bytes : List ℕ) (a b : ℕ) → IsRefusedAt bytes a → IsRefusedAt bytes b → a ≡ b
unfolding split-refused
one_place bytes a b of_a of_b =
    let same = one_split bytes _ _ (split-refused bytes a of_a) (split-refused bytes b of_b) in
    let distance : of_a.distance ≡ of_b.distance =
    wrong-distance of_a.rest of_a.distance of_a.wrong ∙ ap distance_of same.rest
    ∙ sym (wrong-distance of_b.rest of_b.distance of_b.wrong) in
    omega (arith, of_a.stands, of_b.stands, ap length same.text, distance)

pub no_refusal : (bytes : List ℕ) (entries : List Entry) (place : ℕ) → IsRecord bytes entries
    → IsRefusedAt bytes place → ⊥
no_refusal bytes entries place is refused =
    let same = one_split bytes _ _ (split-refused bytes place refused) (split-record bytes entries is) in
    wrong-mark refused.rest refused.distance refused.wrong same.rest

-- ---- what opening answers

pub opens : (bytes : List ℕ) → IsSplit bytes (122 ∷ []) → IsRecord bytes (entries_of bytes)
opens bytes of_split =
    let found : entries_of bytes ≡ of_split.entries =
    ap entries_of of_split.parted
    ∙ all_found of_split.entries of_split.text (122 ∷ []) of_split.spelled of_split.none in
    subst (IsRecord bytes) (sym found)
    (record { text = of_split.text; spelled = of_split.spelled; ended = of_split.parted })

pub refuses : (bytes rest : List ℕ) (at distance : ℕ) → IsSplit bytes rest → EndsWrong rest distance
    → distance ≤ length rest → at ≡ length bytes - (length rest - distance) → IsRefusedAt bytes at
refuses bytes rest at distance of_split wrong within is = record {
  entries = of_split.entries;
  text = of_split.text;
  rest = rest;
  distance = distance;
  spelled = of_split.spelled;
  parted = of_split.parted;
  wrong = wrong;
  stands = omega (arith, is, within, ap length of_split.parted, length-append of_split.text rest);
}

pub mark_alone : (rest : List ℕ) → distance_at rest ≡ None → rest ≡ 122 ∷ []
unfolding distance_at
mark_alone [] e = absurd cc
mark_alone (first ∷ []) e = elim (split (first == 122) None (Some 0) None e) [
  | inl is ↦ ap (λ (n : ℕ). n ∷ []) (eqb-true first 122 is.0)
  | inr other ↦ absurd (let n : Some 0 ≡ None = other.1 in cc)
]
mark_alone (first ∷ next ∷ others) e = elim (split (first == 122) (Some 1) (Some 0) None e) [
  | inl is ↦ absurd (let n : Some 1 ≡ None = is.1 in cc)
  | inr other ↦ absurd (let n : Some 0 ≡ None = other.1 in cc)
]

no_mark-wrong : (first : ℕ) (others : List ℕ) (distance : ℕ) → BeginsNoEntry (first ∷ others) → (first == 122) ≡ false
    → Some 0 ≡ Some distance → EndsWrong (first ∷ others) distance
no_mark-wrong first others distance begins differs is =
    let other : first ≢ 122 = λ e. (let same : (first == 122) ≡ true = ap (λ (n : ℕ). n == 122) e in cc) in
    subst (EndsWrong (first ∷ others)) (some_eq 0 distance is) (no_entry first others other begins)

pub ends_wrong : (rest : List ℕ) (distance : ℕ) → BeginsNoEntry rest → distance_at rest ≡ Some distance
    → EndsWrong rest distance
unfolding distance_at
ends_wrong [] distance begins e = subst (EndsWrong []) (some_eq 0 distance e) no_mark
ends_wrong (first ∷ []) distance begins e = elim (split (first == 122) None (Some 0) (Some distance) e) [
  | inl is ↦ absurd (let n : None ≡ Some distance = is.1 in cc)
  | inr other ↦ no_mark-wrong first [] distance begins other.0 other.1
]
ends_wrong (first ∷ next ∷ others) distance begins e =
    elim (split (first == 122) (Some 1) (Some 0) (Some distance) e) [
      | inl is ↦
          subst (λ (n : ℕ). EndsWrong (n ∷ next ∷ others) distance) (sym (eqb-true first 122 is.0))
          (subst (EndsWrong (122 ∷ next ∷ others)) (some_eq 1 distance is.1) (goes_on next others))
      | inr other ↦ no_mark-wrong first (next ∷ others) distance begins other.0 other.1
    ]

abbrev pub IsOpened : List ℕ → Result (List Entry) NotARecord → Type 0
IsOpened bytes result = MatchResult result (λ records. IsRecord bytes records) (λ fault. IsRefusedAt bytes fault.at)

pub opened-only : (bytes : List ℕ) (result : Result (List Entry) NotARecord) → IsOpened bytes result
    → (entries : List Entry) → IsRecord bytes entries → IsOkAnd result (λ records. records ≡ entries)
opened-only bytes (Ok records) is entries of_entries = one_record bytes records entries is of_entries
opened-only bytes (Err fault) refused entries of_entries = absurd (no_refusal bytes entries fault.at of_entries refused)

pub opened-refused : (bytes : List ℕ) (result : Result (List Entry) NotARecord) → IsOpened bytes result
    → (place : ℕ) → IsRefusedAt bytes place → IsErrAnd result (λ fault. fault.at ≡ place)
opened-refused bytes (Ok records) is place refused = absurd (no_refusal bytes records place is refused)
opened-refused bytes (Err fault) is place refused = one_place bytes fault.at place is refused
