-- What a writer has written after each call.
use Rattle.std.proofs.Common.{◌≡◌, ℕ, ◌+◌, ◌-◌, ◌^◌, ◌<◌, ◌≤◌, IsTrue, List, [], ◌∷◌, ◌++◌, length, take, drop, Result, Ok, Err, OnOk, refl, sym, subst, ◌∙◌, ap, arith, append_assoc, length-append}
use Rattle.std.proofs.Math.Seq.{take-append_seam, drop-append_seam}
use Rattle.std.proofs.lemmas.List.{length-drop, length-take-le, drop-drop}
use Rattle.sed_wire.specs.declared.writer.Writer.{Writer}
use Rattle.sed_wire.specs.Number.{SpellsNumber}
use Rattle.sed_wire.specs.Spelling.{SpellsContents}
use Rattle.sed_wire.specs.Text.{SpellsText, is_text}
use Rattle.sed_wire.specs.Writing.{Appends, Puts, Writes, room, untouched, written}
use Rattle.std.specs.Int.{bytes_high_first}
use Rattle.sed_wire.proofs.FrontLemmas.{one_number}
use Rattle.sed_wire.proofs.NumberLemmas.{written_spells}
use Rattle.sed_wire.proofs.ReadingLemmas.{one_byte}

-- a slice after bytes are put into it, as its front and its rest
pub put-parts : (at : ℕ) (bytes old new : List ℕ) → at + length bytes ≤ length old
    → new ≡ take at old ++ (bytes ++ drop (at + length bytes) old)
    → (take (at + length bytes) new ≡ take at old ++ bytes) × (drop (at + length bytes) new ≡ drop (length bytes)
    (drop at old))
put-parts at bytes old new fits put =
    let front : List ℕ = take at old ++ bytes in
    let as_many : at + length bytes ≡ length front =
    omega (arith, length-append (take at old) bytes, length-take-le at old (omega arith)) in
    let parted : new ≡ front ++ drop (at + length bytes) old =
    put ∙ sym (append_assoc (take at old) bytes (drop (at + length bytes) old)) in
    let rest : drop (at + length bytes) new ≡ drop (at + length bytes) old =
    ap (λ (n : ℕ). drop n new) as_many ∙ ap (drop (length front)) parted
    ∙ drop-append_seam front (drop (at + length bytes) old) in (
      ap (λ (n : ℕ). take n new) as_many ∙ ap (take (length front)) parted
          ∙ take-append_seam front (drop (at + length bytes) old),
      rest ∙ sym (drop-drop (length bytes) at old),
    )

-- two pieces, one behind the other
pub appends-then : (a b c : Writer) (first second : List ℕ) → Appends a b first → Appends b c second
    → Appends a c (first ++ second)
appends-then a b c first second of_first of_second = record {
  same_slice = of_second.same_slice ∙ of_first.same_slice;
  written = of_second.written ∙ ap (λ (bytes : List ℕ). bytes ++ second) of_first.written
      ∙ append_assoc (written a) first second;
  untouched = of_second.untouched ∙ ap (drop (length second)) of_first.untouched
      ∙ drop-drop (length second) (length first) (untouched a)
      ∙ ap (λ (n : ℕ). drop n (untouched a)) (sym (length-append first second));
}

append-nil : (bytes : List ℕ) → bytes ≡ bytes ++ []
append-nil [] = refl
append-nil (byte ∷ behind) = ap (λ (bs : List ℕ). byte ∷ bs) (append-nil behind)

pub appends-none : (writer : Writer) → Appends writer writer []
appends-none writer = record { same_slice = refl; written = append-nil (written writer); untouched = refl }

pub text-done : {T E : Type 0} (result : Result T E) (text : List ℕ) (a b c : Writer) → IsTrue (is_text text)
    → Appends a b text → OnOk result (Writes (SpellsNumber 1) 0 b c) → OnOk result (Writes SpellsText text a c)
text-done (Ok done) text a b c characters first second =
    let zero : second.spelling ≡ 0 ∷ [] = one_byte 0 second.spelling second.spelled in
    record {
      spelling = text ++ second.spelling;
      spelled = record { characters = characters; ended = ap (λ (b : List ℕ). text ++ b) zero };
      appends = appends-then a b c text second.spelling first second.appends;
    }
text-done (Err full) text a b c characters first second = second

pub contents-done : {T E : Type 0} (result : Result T E) (contents : List ℕ) (a b c : Writer)
    → Writes (SpellsNumber 2) (length contents) a b → OnOk result (Appends b c contents)
    → OnOk result (Writes SpellsContents contents a c)
contents-done (Ok done) contents a b c first second = record {
  spelling = first.spelling ++ contents;
  spelled = record { count = first.spelling; counts = first.spelled; front = refl };
  appends = appends-then a b c first.spelling contents first.appends second;
}
contents-done (Err full) contents a b c first second = second

-- each piece takes its room
pub room-after : (a b : Writer) (bytes : List ℕ) → Appends a b bytes → room b ≡ room a - length bytes
room-after a b bytes done = ap length done.untouched ∙ length-drop (length bytes) (untouched a)

-- the one spelling of a number is put
pub number-put : (width n : ℕ) (a b : Writer) → n < 256 ^ width → Writes (SpellsNumber width) n a b
    → Appends a b (bytes_high_first width n)
number-put width n a b below done =
    let written = written_spells width n below in
    subst (Appends a b) (one_number width n done.spelling (bytes_high_first width n) done.spelled written) done.appends

-- the writer's slice at the end
pub front-put : (text : List ℕ) (a b : Writer) (count : ℕ) (old new : List ℕ) → written a ≡ [] → untouched a ≡ old
    → Appends a b text → count ≡ length (written b) → new ≡ written b ++ untouched b → Puts text count old new
front-put text a b count old new nothing all done counted front =
    let is : written b ≡ text = done.written ∙ ap (λ (t : List ℕ). t ++ text) nothing in
    record {
      counted = counted ∙ ap length is;
      front = front ∙ ap (λ (t : List ℕ). t ++ untouched b) is
          ∙ ap (λ (t : List ℕ). text ++ t) (done.untouched ∙ ap (drop (length text)) all);
    }

-- what was put in front of a slice is its first bytes, as many as were counted
pub puts-taken : (text : List ℕ) (count : ℕ) (old new : List ℕ) → Puts text count old new → take count new ≡ text
puts-taken text count old new puts =
    ap (λ (n : ℕ). take n new) puts.counted ∙ ap (take (length text)) puts.front
    ∙ take-append_seam text (drop (length text) old)

pub puts-fit : (text : List ℕ) (count : ℕ) (old new : List ℕ) → Puts text count old new → count ≤ length new
puts-fit text count old new puts =
    omega (arith, puts.counted, ap length puts.front, length-append text (drop (length text) old))
