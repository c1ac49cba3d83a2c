-- The fields that bytes are made of: numbers, texts and runs of bytes.
use Rattle.std.specs.Prelude.{◌≡◌, ℕ, ◌==◌, ◌&&◌, ◌<◌, ◌≤◌, ◌^◌, nat_le, ℤ, Bool, true, false, cond, IsTrue, Option}
use Rattle.std.specs.Prelude.{Some, None, List, [], ◌∷◌, ◌++◌, length, take, drop, refl}
use Rattle.std.specs.Option.{option_map}
use Rattle.std.proofs.Common.{ap, ap₂, sym, ◌∙◌, arith, take-append-drop, length-take-le, le-leb, leb-true, eqb-true}
use Rattle.std.proofs.lemmas.Bool.{and_from, and_parts}
use Rattle.std.proofs.lemmas.List.{take_at, drop_at, length-append}
use Rattle.std.specs.Int.{w32, cast_signed}
use Rattle.std.specs.List.{list_all}
use Rattle.sed_wire.specs.Number.{is_byte, number_of, SpellsNumber, SpellsSigned}
use Rattle.std.proofs.lemmas.Int.{to_z-of_z, of_z-to_z}
use Rattle.std.proofs.Math.Facts.{Fits-of_lt, sfits_to_z}
use Rattle.sed_wire.specs.Text.{is_character, is_text, SpellsText}
use Rattle.sed_wire.specs.OneSpelling.{one_number, one_signed, one_text, number_of-below}
use Rattle.sed_wire.specs.FormReading.{Reading, Found, Stuck, ReadsAs}
use Rattle.sed_wire.specs.FormSpelling.{Begins, SpellsRun}
use Rattle.sed_wire.specs.Form.{Form, begins_again, field, seen_as, only, sized, stuck_eq, found_eq, not_found}
use Rattle.sed_wire.specs.Form.{not_stuck}

-- the first so many bytes, where there are as many
abbrev pub is_front : ℕ → List ℕ → Bool
is_front n bytes = nat_le n (length bytes) && list_all is_byte (take n bytes)

abbrev pub front_reads : {A : Type 0} → (List ℕ → A) → ℕ → ReadsAs A
front_reads see n bytes = cond (is_front n bytes) (Found (see (take n bytes)) (drop n bytes)) (Stuck bytes)

-- so many bytes
pub record IsRun (n : ℕ) (bytes : List ℕ) : Type 0 where
  pub as_many : length bytes ≡ n
  pub are_bytes : IsTrue (list_all is_byte bytes)

pub front_found : {A : Type 0} (see : List ℕ → A) (n : ℕ) (bytes : List ℕ) (a : A) (rest : List ℕ)
    → front_reads see n bytes ≡ Found a rest
    → IsRun n (take n bytes) × (see (take n bytes) ≡ a) × (bytes ≡ take n bytes ++ rest)
front_found {A} see n bytes a rest e = by_test (is_front n bytes) refl e
  where
    by_test : (b : Bool) → is_front n bytes ≡ b → cond b (Found (see (take n bytes)) (drop n bytes)) (Stuck bytes)
        ≡ Found a rest
        → IsRun n (take n bytes) × (see (take n bytes) ≡ a) × (bytes ≡ take n bytes ++ rest)
    by_test false is e = absurd (not_found bytes rest a e)
    by_test true is e =
        let parts = and_parts (nat_le n (length bytes)) (list_all is_byte (take n bytes)) is in
        let g = found_eq (see (take n bytes)) (drop n bytes) a rest e in (
          record { as_many = length-take-le n bytes (leb-true n (length bytes) parts.0); are_bytes = parts.1 },
          g.0,
          sym (take-append-drop n bytes) ∙ ap (λ (r : List ℕ). take n bytes ++ r) g.1,
        )

pub front_whole : {A : Type 0} (see : List ℕ → A) (n : ℕ) (front rest : List ℕ)
    → IsRun n front → front_reads see n (front ++ rest) ≡ Found (see front) rest
front_whole see n front rest is =
    let taken : take n (front ++ rest) ≡ front = take_at front rest n is.as_many in
    let left : drop n (front ++ rest) ≡ rest = drop_at front rest n is.as_many in
    let enough : nat_le n (length (front ++ rest)) ≡ true =
    le-leb n (length (front ++ rest)) (omega (arith, length-append front rest, is.as_many)) in
    let test : is_front n (front ++ rest) ≡ true =
    and_from (nat_le n (length (front ++ rest))) (list_all is_byte (take n (front ++ rest)))
    enough (ap (list_all is_byte) taken ∙ is.are_bytes) in
    rw (test, taken, left) refl

pub front_stays : {A : Type 0} (see : List ℕ → A) (n : ℕ) (bytes rest : List ℕ)
    → front_reads see n bytes ≡ Stuck rest → bytes ≡ rest
front_stays {A} see n bytes rest e = by_test (is_front n bytes) e
  where
    by_test : (b : Bool) → cond b (Found (see (take n bytes)) (drop n bytes)) (Stuck bytes) ≡ Stuck rest → bytes ≡ rest
    by_test true e = absurd (not_stuck (drop n bytes) rest (see (take n bytes)) e)
    by_test false e = stuck_eq {A = A} bytes rest e

-- ---- numbers

pub number_sound : (width : ℕ) (bytes : List ℕ) (n : ℕ) (rest : List ℕ)
    → front_reads number_of width bytes ≡ Found n rest → Begins (SpellsNumber width n) bytes rest
number_sound width bytes n rest e =
    let h = front_found number_of width bytes n rest e in
    (take width bytes, record { as_many = h.0.as_many; are_bytes = h.0.are_bytes; is_number = h.1 }, h.2)

pub number_whole : (width n : ℕ) (front rest : List ℕ) → SpellsNumber width n front
    → front_reads number_of width (front ++ rest) ≡ Found n rest
number_whole width n front rest is =
    front_whole number_of width front rest (record { as_many = is.as_many; are_bytes = is.are_bytes })
    ∙ ap (λ (m : ℕ). Found m rest) is.is_number

-- a number in so many bytes, the highest first
abbrev pub number : ℕ → Form ℕ
number width = field (SpellsNumber width) (front_reads number_of width)
    (one_number width) (number_sound width) (number_whole width) (front_stays number_of width)

-- of the widths that there are, as calls see them
unfoldable pub u1 : Form ℕ
u1 = number 1

unfoldable pub u2 : Form ℕ
u2 = number 2

unfoldable pub u4 : Form ℕ
u4 = number 4

abbrev pub signed_of : List ℕ → ℤ
signed_of bytes = cast_signed w32 (number_of bytes)

pub signed_sound : (bytes : List ℕ) (n : ℤ) (rest : List ℕ) → front_reads signed_of 4 bytes ≡ Found n rest
    → Begins (SpellsSigned w32 n) bytes rest
signed_sound bytes n rest e =
    let h = front_found signed_of 4 bytes n rest e in
    let below = number_of-below (take 4 bytes) h.0.are_bytes in
    let fits : number_of (take 4 bytes) < 2 ^ 32 = omega (arith, ap (λ (k : ℕ). 256 ^ k) h.0.as_many, below) in
    let back = of_z-to_z w32 (number_of (take 4 bytes)) fits in
    begins_again (SpellsSigned w32) bytes (signed_of (take 4 bytes)) n rest rest h.1 refl (
      take 4 bytes,
      record {
        fits = sfits_to_z (Fits-of_lt fits);
        complement = record { as_many = h.0.as_many; are_bytes = h.0.are_bytes; is_number = sym back };
      },
      h.2,
    )

pub signed_whole : (n : ℤ) (front rest : List ℕ) → SpellsSigned w32 n front
    → front_reads signed_of 4 (front ++ rest) ≡ Found n rest
signed_whole n front rest is =
    front_whole signed_of 4 front rest (record { as_many = is.complement.as_many; are_bytes = is.complement.are_bytes })
    ∙ ap (λ (m : ℕ). Found (cast_signed w32 m) rest) is.complement.is_number
    ∙ ap (λ (m : ℤ). Found m rest) (to_z-of_z w32 n is.fits)

-- a signed number in four bytes
abbrev pub i4 : Form ℤ
i4 = field (SpellsSigned w32) (front_reads signed_of 4) (one_signed w32)
    signed_sound signed_whole (front_stays signed_of 4)

pub mark_is : (n m : ℕ) → IsTrue (m == n) → n ≡ m
mark_is n m is = sym (eqb-true m n is)

-- one number in so many bytes
abbrev pub mark : ℕ → ℕ → Form (Unit {0})
mark width n = seen_as (λ m. tt) (λ u. n) (λ u. refl) (only (λ m. m == n) (number width)) (λ m s h. mark_is n m h.1)

-- ---- runs of bytes

abbrev pub run_reads : ℕ → ReadsAs (List ℕ)
run_reads n bytes = cond (nat_le n (length bytes)) (Found (take n bytes) (drop n bytes)) (Stuck bytes)

pub run_sound : (n : ℕ) (bytes run rest : List ℕ) → run_reads n bytes ≡ Found run rest
    → Begins (SpellsRun n run) bytes rest
run_sound n bytes run rest e = by_test (nat_le n (length bytes)) refl e
  where
    by_test : (b : Bool) → nat_le n (length bytes) ≡ b
        → cond b (Found (take n bytes) (drop n bytes)) (Stuck bytes) ≡ Found run rest
        → Begins (SpellsRun n run) bytes rest
    by_test false is e = absurd (not_found bytes rest run e)
    by_test true is e =
        let g = found_eq (take n bytes) (drop n bytes) run rest e in
        begins_again (SpellsRun n) bytes (take n bytes) run (drop n bytes) rest g.0 g.1 (
          take n bytes,
          record { as_many = length-take-le n bytes (leb-true n (length bytes) is); same = refl },
          sym (take-append-drop n bytes),
        )

pub run_whole : (n : ℕ) (run front rest : List ℕ) → SpellsRun n run front → run_reads n (front ++ rest) ≡ Found run rest
run_whole n run front rest h =
    let as_many : length front ≡ n = ap length h.same ∙ h.as_many in
    let taken : take n (front ++ rest) ≡ front = take_at front rest n as_many in
    let left : drop n (front ++ rest) ≡ rest = drop_at front rest n as_many in
    let enough : nat_le n (length (front ++ rest)) ≡ true =
    le-leb n (length (front ++ rest)) (omega (arith, length-append front rest, as_many)) in
    rw (enough, taken, left) (ap (λ (s : List ℕ). Found s rest) h.same)

pub run_stays : (n : ℕ) (bytes rest : List ℕ) → run_reads n bytes ≡ Stuck rest → bytes ≡ rest
run_stays n bytes rest e = by_test (nat_le n (length bytes)) e
  where
    by_test : (b : Bool) → cond b (Found (take n bytes) (drop n bytes)) (Stuck bytes) ≡ Stuck rest → bytes ≡ rest
    by_test true e = absurd (not_stuck (drop n bytes) rest (take n bytes) e)
    by_test false e = stuck_eq {A = List ℕ} bytes rest e

-- so many bytes as they are
abbrev pub run : ℕ → Form (List ℕ)
run n = field (SpellsRun n) (run_reads n) (λ r s t h i. h.same ∙ sym i.same) (run_sound n) (run_whole n) (run_stays n)

-- how many bytes there are, and then they themselves
abbrev pub counted_run : Form ℕ → Form (List ℕ)
counted_run count = sized length count (λ n. run n) (λ n r bytes h. h.as_many)

-- ---- texts

-- a byte in front of a text: its end, a character of it, or neither
abbrev pub text_step : Bool → Bool → ℕ → List ℕ → Option (List ℕ × List ℕ) → Option (List ℕ × List ℕ)
text_step true character byte behind more = Some ([], behind)
text_step false true byte behind more = option_map (λ read. (byte ∷ read.0, read.1)) more
text_step false false byte behind more = None

-- a text, and what is behind its 0
abbrev pub text_at : List ℕ → Option (List ℕ × List ℕ)
text_at [] = None
text_at (byte ∷ behind) = text_step (byte == 0) (is_character byte) byte behind (text_at behind)

abbrev pub told : {A : Type 0} → Option (A × List ℕ) → List ℕ → Reading A
told None bytes = Stuck bytes
told (Some read) bytes = Found read.0 read.1

abbrev pub text_reads : ReadsAs (List ℕ)
text_reads bytes = told (text_at bytes) bytes

pub told_found : {A : Type 0} (o : Option (A × List ℕ)) (bytes : List ℕ) (a : A) (rest : List ℕ)
    → told o bytes ≡ Found a rest → o ≡ Some (a, rest)
told_found None bytes a rest e = absurd (not_found bytes rest a e)
told_found {A} (Some read) bytes a rest e = let g = found_eq read.0 read.1 a rest e
    in ap (λ (p : A × List ℕ). Some p) (ap₂ (λ (x : A) (y : List ℕ). (x, y)) g.0 g.1)

pub told_stays : {A : Type 0} (o : Option (A × List ℕ)) (bytes rest : List ℕ) → told o bytes ≡ Stuck rest → bytes ≡ rest
told_stays {A} None bytes rest e = stuck_eq {A = A} bytes rest e
told_stays (Some read) bytes rest e = absurd (not_stuck read.1 rest read.0 e)

some_eq : {A : Type 0} (a b : A) → Some a ≡ Some b → a ≡ b
some_eq a b e = cc

pair_eq : {A B : Type 0} (a c : A) (b d : B) → ◌≡◌ {A = Option (A × B)} (Some (a, b)) (Some (c, d)) → (a ≡ c) × (b ≡ d)
pair_eq {A} {B} a c b d e =
    let both : ◌≡◌ {A = A × B} (a, b) (c, d) = some_eq {A = A × B} (a, b) (c, d) e in
    (ap (λ (p : A × B). p.0) both, ap (λ (p : A × B). p.1) both)

-- one step of the reading of a text
step_found : (zero_byte character : Bool) (byte : ℕ) (behind : List ℕ)
    (o : Option (List ℕ × List ℕ)) (text rest : List ℕ)
    → (byte == 0) ≡ zero_byte → is_character byte ≡ character
    → ((t r : List ℕ) → o ≡ Some (t, r) → Begins (SpellsText t) behind r)
    → text_step zero_byte character byte behind o ≡ Some (text, rest)
    → Begins (SpellsText text) (byte ∷ behind) rest
step_found true character byte behind o text rest is_zero is_one shorter e =
    let g = pair_eq {A = List ℕ} [] text behind rest e in
    let first : byte ≡ 0 = eqb-true byte 0 is_zero in
    begins_again SpellsText (byte ∷ behind) [] text behind rest g.0 g.1
    (0 ∷ [], record { characters = refl; ended = refl }, ap (λ (b : ℕ). b ∷ behind) first)
step_found false true byte behind None text rest is_zero is_one shorter e = absurd cc
step_found false true byte behind (Some (t, r)) text rest is_zero is_one shorter e =
    let g = pair_eq (byte ∷ t) text r rest e in
    let h = shorter t r refl in
    let all : IsTrue (is_text (byte ∷ t)) = and_from (is_character byte) (is_text t) is_one h.1.characters in
    begins_again SpellsText (byte ∷ behind) (byte ∷ t) text r rest g.0 g.1 (
      byte ∷ h.0,
      record { characters = all; ended = ap (λ (s : List ℕ). byte ∷ s) h.1.ended },
      ap (λ (s : List ℕ). byte ∷ s) h.2,
    )
step_found false false byte behind o text rest is_zero is_one shorter e = absurd cc

text_at_found : (bytes text rest : List ℕ) → text_at bytes ≡ Some (text, rest) → Begins (SpellsText text) bytes rest
text_at_found [] text rest e = absurd cc
text_at_found (byte ∷ behind) text rest e =
    step_found (byte == 0) (is_character byte) byte behind (text_at behind)
    text rest refl refl (λ t r. text_at_found behind t r) e

pub text_sound : (bytes text rest : List ℕ) → text_reads bytes ≡ Found text rest → Begins (SpellsText text) bytes rest
text_sound bytes text rest e = text_at_found bytes text rest (told_found (text_at bytes) bytes text rest e)

text_at_whole : (text rest : List ℕ) → IsTrue (is_text text) → text_at ((text ++ 0 ∷ []) ++ rest) ≡ Some (text, rest)
text_at_whole [] rest is = refl
text_at_whole (byte ∷ more) rest is =
    let parts = and_parts (is_character byte) (is_text more) is in
    let within = and_parts (nat_le 1 byte) (nat_le byte 127) parts.0 in
    let above : 1 ≤ byte = leb-true 1 byte within.0 in
    let other : (byte == 0) ≡ false = grind (arith, above) in
    let shorter = text_at_whole more rest parts.1 in
    rw (other, parts.0, shorter) refl

pub text_whole : (text front rest : List ℕ) → SpellsText text front → text_reads (front ++ rest) ≡ Found text rest
text_whole text front rest h =
    let e : text_at (front ++ rest) ≡ Some (text, rest) =
    ap (λ (s : List ℕ). text_at (s ++ rest)) h.ended ∙ text_at_whole text rest h.characters in
    ap (λ (o : Option (List ℕ × List ℕ)). told o (front ++ rest)) e

-- characters of ASCII, and the 0 that ends them
abbrev pub text : Form (List ℕ)
text = field SpellsText text_reads one_text text_sound text_whole (λ bytes rest. told_stays (text_at bytes) bytes rest)
