-- Reading numbers, step by step.
use Rattle.std.proofs.Common.{◌≡◌, ℕ, ◌<◌, ◌≤◌, ◌^◌, ℤ, ◌⊎◌, inl, inr, Bool, true, false, ◌&&◌, nat_le, if◌then◌else◌, Option, Some, None, List, ◌++◌, length, take, drop, refl, sym, subst, ◌∙◌, ap, arith, length-append}
use Rattle.std.proofs.Math.Facts.{Fits-of_lt, sfits_to_z}
use Rattle.std.proofs.Math.Seq.{take-append_seam, drop-append_seam}
use Rattle.std.proofs.lemmas.Bool.Decides.{nat_tests}
use Rattle.std.proofs.lemmas.Int.{of_z-to_z, to_z-of_z}
use Rattle.std.proofs.lemmas.List.{length-take-le, take-append-drop}
use Rattle.std.specs.Int.{w64, cast_signed, cast_unsigned}
use Rattle.std.specs.List.{list_all}
use Rattle.std.specs.Option.{option_and_then}
use Rattle.sed_wire.specs.Number.{is_byte, number_of, SpellsNumber, SpellsSigned}
use Rattle.sed_wire.specs.Reading.{Reads}
use Rattle.sed_wire.proofs.FrontLemmas.{number_of-below}
use Rattle.replay_log.specs.Reading.{number_at, moment_at, bytes_at}
pub use Rattle.std.proofs.lemmas.Option.{same_Some as some_eq}
use Rattle.std.proofs.lemmas.Bool.{and_parts as both}

-- which way a test went
pub split : {A : Type 0} (t : Bool) (x y z : A) → (if t then x else y) ≡ z → ((t ≡ true) × (x ≡ z)) ⊎ ((t ≡ false)
    × (y ≡ z))
split true x y z e = inl (refl, e)
split false x y z e = inr (refl, e)

-- a test that gave something
pub passed : {A : Type 0} (t : Bool) (x y : A) → (if t then Some x else None) ≡ Some y → (t ≡ true) × (x ≡ y)
passed true x y e = (refl, cc)
passed false x y e = absurd cc

-- the value of a step that found one
pub step_found : {A B : Type 0} (o : Option A) (f : A → Option B) (y : B) → option_and_then f o ≡ Some y
    → (x : A) × (o ≡ Some x) × (f x ≡ Some y)
step_found None f y e = absurd cc
step_found (Some x) f y e = (x, refl, e)

pub number_at-complete : (width number : ℕ) (spelling rest : List ℕ) → SpellsNumber width number spelling
    → number_at width (spelling ++ rest) ≡ Some (number, rest)
unfolding number_at
number_at-complete width number spelling rest spells =
    let front : take width (spelling ++ rest) ≡ spelling =
    ap (λ (n : ℕ). take n (spelling ++ rest)) (sym spells.as_many) ∙ take-append_seam spelling rest in
    let behind : drop width (spelling ++ rest) ≡ rest =
    ap (λ (n : ℕ). drop n (spelling ++ rest)) (sym spells.as_many) ∙ drop-append_seam spelling rest in
    let long : width ≤ length (spelling ++ rest) = omega (arith, length-append spelling rest, spells.as_many) in
    let fits : nat_le width (length (spelling ++ rest)) ≡ true = grind (arith, nat_tests) in
    let all : list_all is_byte (take width (spelling ++ rest)) ≡ true = ap (list_all is_byte) front
    ∙ spells.are_bytes in
    rw (fits, all, front, behind, spells.is_number) refl

pub number_at-sound : (width : ℕ) (bytes : List ℕ) (number : ℕ) (rest : List ℕ)
    → number_at width bytes ≡ Some (number, rest) → Reads (SpellsNumber width) number bytes rest
unfolding number_at
number_at-sound width bytes number rest e =
    let found = passed (nat_le width (length bytes) && list_all is_byte (take width bytes)) _ _ e in
    let tests = both _ _ found.0 in
    let fits : nat_le width (length bytes) ≡ true = tests.0 in
    let long : width ≤ length bytes = grind (arith, nat_tests) in
    let number_is : number_of (take width bytes) ≡ number = ap (λ (p : ℕ × List ℕ). p.0) found.1 in
    let rest_is : drop width bytes ≡ rest = ap (λ (p : ℕ × List ℕ). p.1) found.1 in
    record {
      spelling = take width bytes;
      spelled = record {
        as_many = length-take-le width bytes long;
        are_bytes = tests.1;
        is_number = number_is;
      };
      front = sym (take-append-drop width bytes) ∙ ap (λ (t : List ℕ). take width bytes ++ t) rest_is;
    }

pub number_at-read : (width number : ℕ) (old new : List ℕ) → Reads (SpellsNumber width) number old new
    → number_at width old ≡ Some (number, new)
number_at-read width number old new found =
    ap (number_at width) found.front ∙ number_at-complete width number found.spelling new found.spelled

pub number_at-short : (width : ℕ) (bytes : List ℕ) → length bytes < width → number_at width bytes ≡ None
unfolding number_at
number_at-short width bytes short =
    let fits : nat_le width (length bytes) ≡ false = grind (arith, nat_tests) in
    rw fits refl

pub moment_at-complete : (moment : ℤ) (spelling rest : List ℕ) → SpellsSigned w64 moment spelling
    → moment_at (spelling ++ rest) ≡ Some (moment, rest)
unfolding moment_at
moment_at-complete moment spelling rest spells =
    rw (number_at-complete 8 (cast_unsigned w64 moment) spelling rest spells.complement)
    (ap (λ (z : ℤ). Some (z, rest)) (to_z-of_z w64 moment spells.fits))

pub moment_at-sound : (bytes : List ℕ) (moment : ℤ) (rest : List ℕ) → moment_at bytes ≡ Some (moment, rest)
    → Reads (SpellsSigned w64) moment bytes rest
unfolding moment_at
moment_at-sound bytes moment rest e =
    let read = step_found (number_at 8 bytes) _ (moment, rest) e in
    let number : ℕ = read.0.0 in
    let found = number_at-sound 8 bytes read.0.0 read.0.1 read.1 in
    let same = some_eq _ _ read.2 in
    let moment_is : cast_signed w64 read.0.0 ≡ moment = ap (λ (p : ℤ × List ℕ). p.0) same in
    let rest_is : read.0.1 ≡ rest = ap (λ (p : ℤ × List ℕ). p.1) same in
    let below = number_of-below found.spelling found.spelled.are_bytes in
    let bound : read.0.0 < 2 ^ 64 =
    fits_64 found.spelling read.0.0 found.spelled.as_many found.spelled.is_number below in
    let back = of_z-to_z w64 read.0.0 bound in
    record {
      spelling = found.spelling;
      spelled = subst (λ (z : ℤ). SpellsSigned w64 z found.spelling) moment_is
          (record {
            fits = sfits_to_z (Fits-of_lt bound);
            complement = subst (λ (n : ℕ). SpellsNumber 8 n found.spelling) (sym back) found.spelled;
          });
      front = found.front ∙ ap (λ (t : List ℕ). found.spelling ++ t) rest_is;
    }
  where
    fits_64 : (bytes : List ℕ) (n : ℕ) → length bytes ≡ 8 → number_of bytes ≡ n → number_of bytes < 256 ^ length bytes
        → n < 2 ^ 64
    fits_64 bytes n eight is below =
        let worth : 256 ^ length bytes ≡ 2 ^ 64 = ap (λ (k : ℕ). 256 ^ k) eight in
        omega (arith, is, below, worth)

pub moment_at-read : (moment : ℤ) (old new : List ℕ) → Reads (SpellsSigned w64) moment old new
    → moment_at old ≡ Some (moment, new)
moment_at-read moment old new found =
    ap moment_at found.front ∙ moment_at-complete moment found.spelling new found.spelled

pub moment_at-short : (bytes : List ℕ) → length bytes < 8 → moment_at bytes ≡ None
unfolding moment_at
moment_at-short bytes short = rw (number_at-short 8 bytes short) refl

pub bytes_at-complete : (count : ℕ) (bytes rest : List ℕ) → length bytes ≡ count → count ≤ 512
    → bytes_at count (bytes ++ rest) ≡ Some (bytes, rest)
unfolding bytes_at
bytes_at-complete count bytes rest counted few =
    let front : take count (bytes ++ rest) ≡ bytes =
    ap (λ (n : ℕ). take n (bytes ++ rest)) (sym counted) ∙ take-append_seam bytes rest in
    let behind : drop count (bytes ++ rest) ≡ rest =
    ap (λ (n : ℕ). drop n (bytes ++ rest)) (sym counted) ∙ drop-append_seam bytes rest in
    let long : count ≤ length (bytes ++ rest) = omega (arith, length-append bytes rest, counted) in
    let fits : nat_le count (length (bytes ++ rest)) ≡ true = grind (arith, nat_tests) in
    let small : nat_le count 512 ≡ true = grind (arith, nat_tests) in
    rw (small, fits, front, behind) refl

pub record AreNext (count : ℕ) (all bytes rest : List ℕ) : Type 0 where
  pub counted : length bytes ≡ count
  pub few : count ≤ 512
  pub front : all ≡ bytes ++ rest

pub bytes_at-sound : (count : ℕ) (all bytes rest : List ℕ) → bytes_at count all ≡ Some (bytes, rest)
    → AreNext count all bytes rest
unfolding bytes_at
bytes_at-sound count all bytes rest e =
    let found = passed (nat_le count 512 && nat_le count (length all)) _ _ e in
    let tests = both _ _ found.0 in
    let small : nat_le count 512 ≡ true = tests.0 in
    let fits : nat_le count (length all) ≡ true = tests.1 in
    let few : count ≤ 512 = grind (arith, nat_tests) in
    let long : count ≤ length all = grind (arith, nat_tests) in
    let bytes_are : take count all ≡ bytes = ap (λ (p : List ℕ × List ℕ). p.0) found.1 in
    let rest_is : drop count all ≡ rest = ap (λ (p : List ℕ × List ℕ). p.1) found.1 in
    record {
      counted = ap length (sym bytes_are) ∙ length-take-le count all long;
      few = few;
      front = sym (take-append-drop count all) ∙ ap (λ (t : List ℕ). t ++ drop count all) bytes_are
          ∙ ap (λ (t : List ℕ). bytes ++ t) rest_is;
    }
