-- Texts, and the first 0 of a list of bytes.
use Rattle.std.proofs.Common.{◌≡◌, ℕ, zero, suc, ◌+◌, ◌-◌, ◌<◌, ◌≤◌, ◌⊎◌, inl, inr, true, false, not, ◌==◌, nat_lt, IsTrue, List, [], ◌∷◌, ◌++◌, length, take, drop, Some, None, Result, Ok, Err, IsErrOf, IsOkAnd, MatchResult, ◌↔◌, refl, sym, subst, ◌∙◌, ap, arith, append_assoc}
use Rattle.std.proofs.Math.Seq.{take-length}
use Rattle.std.proofs.lemmas.List.{take-append-drop}
use Rattle.std.proofs.lemmas.Bool.Decides.{nat_tests}
use Rattle.std.proofs.lemmas.List.Folds.{list_all-append}
use Rattle.std.specs.List.{list_all, list_any, position, prefix_len}
use Rattle.sed_wire.specs.declared.fault.StrFault.{StrFault}
use Rattle.sed_wire.specs.declared.fault.StrFault.TheVariants.{NoEnd, NotAscii}
use Rattle.sed_wire.specs.Faults.{BeginsNoText, HasNoEnd, IsNotAscii}
use Rattle.sed_wire.specs.Reading.{Reads, IsReadOneWay}
use Rattle.sed_wire.specs.Text.{is_text, SpellsText}

-- of two lists without a 0, each with one behind it, at the front of the same bytes
same_before : (v w after others : List ℕ) → IsTrue (list_all (nat_lt 0) v) → IsTrue (list_all (nat_lt 0) w)
    → v ++ 0 ∷ after ≡ w ++ 0 ∷ others → (v ≡ w) × (after ≡ others)
same_before [] [] after others all_v all_w e = (refl, cc)
same_before [] (y ∷ ys) after others all_v all_w e =
    let first : 0 ≡ y = cc in
    absurd (grind (arith, nat_tests))
same_before (x ∷ xs) [] after others all_v all_w e =
    let first : x ≡ 0 = cc in
    absurd (grind (arith, nat_tests))
same_before (x ∷ xs) (y ∷ ys) after others all_v all_w e =
    let all_x : IsTrue (list_all (nat_lt 0) xs) = grind (arith, nat_tests) in
    let all_y : IsTrue (list_all (nat_lt 0) ys) = grind (arith, nat_tests) in
    let tails : xs ++ 0 ∷ after ≡ ys ++ 0 ∷ others = cc in
    let first : x ≡ y = cc in
    let rest = same_before xs ys after others all_x all_y tails in
    let same = rest.0 in
    (cc, rest.1)

text-without_0 : (text : List ℕ) → IsTrue (is_text text) → IsTrue (list_all (nat_lt 0) text)
text-without_0 [] characters = refl
text-without_0 (byte ∷ behind) characters =
    let others : IsTrue (is_text behind) = grind (arith, nat_tests) in
    let rest = text-without_0 behind others in
    grind (arith, nat_tests)

text-none_above : (text : List ℕ) → IsTrue (is_text text) → IsTrue (list_any (nat_lt 127) text) → ⊥
text-none_above [] characters above = cc
text-none_above (byte ∷ behind) characters above =
    let others : IsTrue (is_text behind) = grind (arith, nat_tests) in
    let first : nat_lt 127 byte ≡ false = grind (arith, nat_tests) in
    text-none_above behind others (grind (arith, nat_tests))

pub text-of_bytes : (bytes : List ℕ) → IsTrue (list_all (nat_lt 0) bytes) → list_any (nat_lt 127) bytes ≡ false
    → IsTrue (is_text bytes)
text-of_bytes [] all none = refl
text-of_bytes (byte ∷ behind) all none =
    let others : IsTrue (list_all (nat_lt 0) behind) = grind (arith, nat_tests) in
    let lower : list_any (nat_lt 127) behind ≡ false = grind (arith, nat_tests) in
    let rest = text-of_bytes behind others lower in
    grind (arith, nat_tests)

text_behind : (text bytes after : List ℕ) → bytes ≡ text ++ 0 ∷ [] → bytes ++ after ≡ text ++ 0 ∷ after
text_behind text bytes after e = ap (λ (b : List ℕ). b ++ after) e ∙ append_assoc text (0 ∷ []) after

pub read_text : IsReadOneWay SpellsText
read_text v w a b after others of_a of_b e =
    let whole : v ++ 0 ∷ after ≡ w ++ 0 ∷ others =
    sym (text_behind v a after of_a.ended) ∙ e ∙ text_behind w b others of_b.ended in
    let parts = same_before v w after others (text-without_0 v of_a.characters)
    (text-without_0 w of_b.characters) whole in
    let same = parts.0 in
    (same, of_a.ended ∙ ap (λ (t : List ℕ). t ++ 0 ∷ []) same ∙ sym of_b.ended, parts.1)

-- the bytes in front of the first 0, and whether there is one

zero_or_above : (x : ℕ) → (x ≡ 0) ⊎ (0 < x)
zero_or_above zero = inl refl
zero_or_above (suc n) = inr (omega arith)

abbrev before : List ℕ → ℕ
before bytes = prefix_len (λ (byte : ℕ). not (byte == 0)) bytes

before-without_0 : (bytes : List ℕ) → IsTrue (list_all (nat_lt 0) (take (before bytes) bytes))
before-without_0 [] = refl
before-without_0 (byte ∷ behind) = elim (zero_or_above byte) [
  | inl is ↦ let test : (byte == 0) ≡ true = grind arith in rw test refl
  | inr above ↦
      let test : (byte == 0) ≡ false = grind arith in
      let next : 1 + before behind ≡ suc (before behind) = omega arith in
      let rest = before-without_0 behind in
      rw (test, next) (grind (arith, nat_tests))
]

before-end : (bytes : List ℕ) → before bytes < length bytes → drop (before bytes) bytes ≡ 0 ∷ drop (suc
    (before bytes)) bytes
before-end [] within = absurd (omega arith)
before-end (byte ∷ behind) within = elim (zero_or_above byte) [
  | inl is ↦ let test : (byte == 0) ≡ true = grind arith in rw test (ap (λ (b : ℕ). b ∷ behind) is)
  | inr above ↦
      let test : (byte == 0) ≡ false = grind arith in
      let next : 1 + before behind ≡ suc (before behind) = omega arith in
      let all : before (byte ∷ behind) < length (byte ∷ behind) = within in
      let shorter = rw (test, next) at all in
      rw (test, next) (before-end behind (omega (arith, shorter)))
]

before-all : (bytes : List ℕ) → length bytes ≤ before bytes → IsTrue (list_all (nat_lt 0) bytes)
before-all [] long = refl
before-all (byte ∷ behind) long = elim (zero_or_above byte) [
  | inl is ↦
      let test : (byte == 0) ≡ true = grind arith in
      let none = rw test at long in
      absurd (omega (arith, none))
  | inr above ↦
      let test : (byte == 0) ≡ false = grind arith in
      let next : 1 + before behind ≡ suc (before behind) = omega arith in
      let longer = rw (test, next) at long in
      let rest = before-all behind (omega (arith, longer)) in
      grind (arith, nat_tests)
]

pub position-none : (bytes : List ℕ) → position (λ (byte : ℕ). byte == 0) bytes ≡ None → HasNoEnd bytes
position-none bytes none = before-all bytes (grind (arith, nat_tests))

pub position-some : (bytes : List ℕ) (end : ℕ) → position (λ (byte : ℕ). byte == 0) bytes ≡ Some end
    → (end < length bytes) × IsTrue (list_all (nat_lt 0) (take end bytes)) × (drop end bytes ≡ 0 ∷ drop (suc end) bytes)
position-some bytes end some =
    let is : before bytes ≡ end = grind (arith, nat_tests) in
    let within : before bytes < length bytes = grind (arith, nat_tests) in
    let P : ℕ → Type 0 = λ n. (n < length bytes) × IsTrue (list_all (nat_lt 0) (take n bytes))
    × (drop n bytes ≡ 0 ∷ drop (suc n) bytes) in
    subst P is (within, before-without_0 bytes, before-end bytes within)

-- what is read of a text, by the place of the first 0
pub parted-above : (bytes text : List ℕ) (end : ℕ) → position (λ (byte : ℕ). byte == 0) bytes ≡ Some end
    → text ≡ take end bytes → list_any (nat_lt 127) text ≡ true → IsNotAscii bytes
parted-above bytes text end some is above =
    let found = position-some bytes end some in
    record {
      before = take end bytes;
      behind = drop (suc end) bytes;
      parted = sym (take-append-drop end bytes) ∙ ap (λ (b : List ℕ). take end bytes ++ b) found.2;
      first = found.1;
      above = ap (list_any (nat_lt 127)) (sym is) ∙ above;
    }

rest_of : (byte : ℕ) (behind : List ℕ) → take (length (byte ∷ behind) - 1) (drop 1 (byte ∷ behind)) ≡ behind
rest_of byte behind =
    let as_many : length (byte ∷ behind) - 1 ≡ length behind = omega arith in
    rw as_many (take-length behind)

pub parted-text : (bytes text rest : List ℕ) (end : ℕ) → position (λ (byte : ℕ). byte == 0) bytes ≡ Some end
    → text ≡ take end bytes → rest ≡ drop end bytes → list_any (nat_lt 127) text ≡ false
    → IsTrue (is_text text) × (bytes ≡ text ++ 0 ∷ take (length rest - 1) (drop 1 rest))
parted-text bytes text rest end some is rest_is none =
    let found = position-some bytes end some in
    let parts : rest ≡ 0 ∷ drop (suc end) bytes = rest_is ∙ found.2 in
    let without_0 : IsTrue (list_all (nat_lt 0) text) = ap (list_all (nat_lt 0)) is ∙ found.1 in
    let behind : take (length rest - 1) (drop 1 rest) ≡ drop (suc end) bytes =
    ap (λ (b : List ℕ). take (length b - 1) (drop 1 b)) parts ∙ rest_of 0 (drop (suc end) bytes) in
    let whole : bytes ≡ text ++ rest =
    sym (take-append-drop end bytes) ∙ ap (λ (b : List ℕ). b ++ drop end bytes) (sym is)
    ∙ ap (λ (b : List ℕ). text ++ b) (sym rest_is) in (
      text-of_bytes text without_0 none,
      whole ∙ ap (λ (b : List ℕ). text ++ b) (parts ∙ ap (λ (b : List ℕ). 0 ∷ b) (sym behind)),
    )

-- what refuses a text excludes that there is one, and what refuses it otherwise

end-clash : (left before behind : List ℕ) → left ≡ before ++ 0 ∷ behind → HasNoEnd left → ⊥
end-clash left before behind parted none =
    let all : IsTrue (list_all (nat_lt 0) (before ++ 0 ∷ behind)) = rw (← parted) none in
    let parts = list_all-append (nat_lt 0) before (0 ∷ behind) in
    grind (arith, nat_tests)

pub text-clash : (fault : StrFault) (text old new : List ℕ) → Reads SpellsText text old new → BeginsNoText fault old → ⊥
text-clash NoEnd text old new found none =
    end-clash old text new (found.front ∙ text_behind text found.spelling new found.spelled.ended) none
text-clash NotAscii text old new found above =
    let whole : above.before ++ 0 ∷ above.behind ≡ text ++ 0 ∷ new =
    sym above.parted ∙ found.front ∙ text_behind text found.spelling new found.spelled.ended in
    let characters = found.spelled.characters in
    let parts = same_before above.before text above.behind new above.first (text-without_0 text characters) whole in
    text-none_above text characters (rw (← parts.0) above.above)

one_fault : (f g : StrFault) (left : List ℕ) → BeginsNoText f left → BeginsNoText g left → f ≡ g
one_fault NoEnd NoEnd left of_f of_g = refl
one_fault NotAscii NotAscii left of_f of_g = refl
one_fault NoEnd NotAscii left of_f of_g = absurd (end-clash left of_g.before of_g.behind of_g.parted of_f)
one_fault NotAscii NoEnd left of_f of_g = absurd (end-clash left of_f.before of_f.behind of_f.parted of_g)

-- what comes of the reading of a text
abbrev pub TextOutcome : {T : Type 0} → (T → List ℕ) → Result T StrFault → List ℕ → List ℕ → Type 0
TextOutcome now result old new =
    MatchResult result (λ text. Reads SpellsText (now text) old new) (λ fault. BeginsNoText fault old × (new ≡ old))

pub text-fault : {T : Type 0} (now : T → List ℕ) (fault : StrFault) (result : Result T StrFault) (old new : List ℕ)
    → TextOutcome now result old new → IsErrOf result fault ↔ BeginsNoText fault old
text-fault now fault (Ok text) old new found =
    ((λ is. absurd cc), (λ begins. absurd (text-clash fault (now text) old new found begins)))
text-fault now fault (Err other) old new refused = (
  (λ is. let same : other ≡ fault = cc in
      let P : StrFault → Type 0 = λ f. BeginsNoText f old in subst P same refused.0),
  (λ begins. ap Err (one_fault other fault old refused.0 begins)),
)

pub text-again : {T : Type 0} (now : T → List ℕ) (result : Result T StrFault) (old new : List ℕ)
    → TextOutcome now result old new → (text spelling follows : List ℕ) → SpellsText text spelling
    → old ≡ spelling ++ follows → IsOkAnd result (λ read. now read ≡ text) × (new ≡ follows)
text-again now (Ok read) old new found text spelling follows spelled front =
    let same = read_text (now read) text found.spelling spelling new follows found.spelled spelled
    (sym found.front ∙ front) in
    (same.0, same.2)
text-again now (Err fault) old new refused text spelling follows spelled front =
    absurd (text-clash fault text old follows
    (record { spelling = spelling; spelled = spelled; front = front }) refused.0)
