-- What a reader of bytes gives, as the readings of the fields: where it reads a thing the field is found, where it refuses
-- reading gets stuck.
use Rattle.std.proofs.Common.{◌≡◌, ℕ, ◌<◌, false, cond, List, ◌++◌, length, Result, Err, IsOkAnd, subst, refl, ap, ◌∙◌, arith}
use Rattle.std.specs.Prelude.{nat_le, ◌&&◌, take, drop, ℤ}
use Rattle.std.specs.Int.{w32}
use Rattle.std.specs.List.{list_all}
use Rattle.sed_wire.specs.Number.{is_byte, SpellsNumber, SpellsSigned, number_of}
use Rattle.sed_wire.specs.Reading.{Reads}
use Rattle.sed_wire.specs.Text.{SpellsText}
use Rattle.sed_wire.specs.declared.fault.StrFault.{StrFault}
use Rattle.sed_wire.specs.FormReading.{Found, Stuck}
use Rattle.sed_wire.specs.Leaves.{front_reads, number, number_whole, i4, signed_of, signed_whole, run, run_whole, text, text_whole}

pub number_read : (width n : ℕ) (old new : List ℕ) → Reads (SpellsNumber width) n old new → (number width).reads old ≡ Found n new
number_read width n old new r = ap (number width).reads r.front ∙ number_whole width n r.spelling new r.spelled

pub signed_read : (n : ℤ) (old new : List ℕ) → Reads (SpellsSigned w32) n old new → i4.reads old ≡ Found n new
signed_read n old new r = ap i4.reads r.front ∙ signed_whole n r.spelling new r.spelled

front_short : {A : Type 0} (see : List ℕ → A) (n : ℕ) (old : List ℕ) → length old < n → front_reads see n old ≡ Stuck old
front_short {A} see n old short = by_test (nat_le n (length old)) (list_all is_byte (take n old)) few
  where
    few : nat_le n (length old) ≡ false
    few = grind (arith, short)

    by_test : (b c : _) → b ≡ false → cond (b && c) (Found (see (take n old)) (drop n old)) (Stuck old) ≡ Stuck old
    by_test b c e = rw e refl

pub number_short : (width : ℕ) (old : List ℕ) → length old < width → (number width).reads old ≡ Stuck old
number_short width old short = front_short number_of width old short

pub signed_short : (old : List ℕ) → length old < 4 → i4.reads old ≡ Stuck old
signed_short old short = front_short signed_of 4 old short

pub run_short : (n : ℕ) (old : List ℕ) → length old < n → (run n).reads old ≡ Stuck old
run_short n old short =
    let few : nat_le n (length old) ≡ false = grind (arith, short) in
    rw few refl

pub run_read : (n : ℕ) (bytes old new : List ℕ) → length bytes ≡ n → old ≡ bytes ++ new → (run n).reads old ≡ Found bytes new
run_read n bytes old new as_many parted =
    ap (run n).reads parted ∙ run_whole n bytes bytes new (record { as_many = as_many; same = refl })

pub text_read : (t old new : List ℕ) → Reads SpellsText t old new → text.reads old ≡ Found t new
text_read t old new r = ap text.reads r.front ∙ text_whole t r.spelling new r.spelled

pub text_none : {T : Type 0} (now : T → List ℕ) (result : Result T StrFault) (fault : StrFault) (old new : List ℕ) → result ≡ Err fault
    → ((t spelling follows : List ℕ) → SpellsText t spelling → old ≡ spelling ++ follows → IsOkAnd result (λ read. now read ≡ t) × (new ≡ follows))
    → text.reads old ≡ Stuck old
text_none {T} now result fault old new e again =
    text.fault old old (
      (λ t rest begun.
          let h = again t begun.0 rest begun.1 begun.2 in
          subst (λ (r : Result T StrFault). IsOkAnd r (λ read. now read ≡ t)) e h.0),
      refl,
    )

pub ruleset number_fields = (number_read, number_short)
