use Rattle.std.proofs.Common.{◌≡◌, ℕ, List, true, ◌*◌, refl, length, sym, ◌∙◌, ap, subst, arith}
use Rattle.std.specs.Prelude.{Option, Some, None, Result, Ok, Err, MatchResult}
use Rattle.std.specs.Cmp.Lexicographic.{bytes_decides}
use Rattle.std.proofs.lemmas.Bool.{both_ways}
use Rattle.hex.specs.Hex.{encode_lower, decode_sized, IsBytes}
use Rattle.hex.specs.declared.error.FromHexError.{FromHexError}
use Rattle.hex.proofs.HexLemmas.{decode_sized-encode_lower, decode_sized-twice, decode_of-ok}
use Rattle.dasp_session.proofs.line.credential_of.Goals as goal

some_eq : {A : Type 0} {a b : A} → Some a ≡ Some b → a ≡ b
some_eq e = cc

-- what was decoded of digits that some bytes write
of_written : (digits bytes : List ℕ) (found : Option (List ℕ)) → length bytes ≡ 20 → IsBytes bytes → digits ≡ encode_lower bytes
    → MatchResult (decode_sized digits 20) (λ bytes. found ≡ Some bytes) (λ fault. found ≡ None) → found ≡ Some bytes
of_written digits bytes found twenty are is decoded =
    let e : decode_sized digits 20 ≡ Ok bytes = ap (λ (text : List ℕ). decode_sized text 20) is ∙ decode_sized-encode_lower bytes 20 twenty are in
    rw e at decoded

-- and that these are bytes
bytes_of : (digits bytes : List ℕ) (found : Option (List ℕ)) (read : Result (List ℕ) FromHexError) → length digits ≡ 40 → decode_sized digits 20 ≡ read
    → MatchResult read (λ bytes. found ≡ Some bytes) (λ fault. found ≡ None) → found ≡ Some bytes → IsBytes bytes
bytes_of digits bytes found (Ok other) forty is gives some =
    let twice : length digits ≡ 2 * 20 = omega arith in
    subst IsBytes (some_eq (sym gives ∙ some)) (decode_of-ok digits other (sym (decode_sized-twice digits 20 twice) ∙ is)).3
bytes_of digits bytes found (Err fault) forty is none some = absurd (cc)

pub returns-else-is_written_so : goal.returns-else-is_written_so
returns-else-is_written_so c = λ bytes twenty are is.
    let found = of_written c.args.digits.now bytes c.decoded.result twenty are is c.decoded.ensures in
    let same : c.in-Some.credential ≡ bytes = some_eq (sym c.in-Some.is ∙ found) in
    let written : c.is_written_so.result ≡ true =
    c.is_written_so.ensures ∙ (bytes_decides (encode_lower c.in-Some.credential) c.args.digits.now).1 (ap encode_lower same ∙ sym is) in
    absurd (both_ways c.is_written_so.result c.if-is_written_so.false written)

pub returns-in-None : goal.returns-in-None
returns-in-None c = λ bytes twenty are is.
    let found = of_written c.args.digits.now bytes c.decoded.result twenty are is c.decoded.ensures in
    let none = c.in-None.is in
    absurd (cc)

pub returns-then-is_written_so : goal.returns-then-is_written_so
returns-then-is_written_so c = (
  bytes_of c.args.digits.now c.in-Some.credential c.decoded.result (decode_sized c.args.digits.now 20) c.requires refl c.decoded.ensures c.in-Some.is,
  sym ((bytes_decides (encode_lower c.in-Some.credential) c.args.digits.now).0 (sym c.is_written_so.ensures ∙ c.if-is_written_so.true)),
)
