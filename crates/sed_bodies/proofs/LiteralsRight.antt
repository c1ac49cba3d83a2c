-- What literals come to is typed, and unknown only with a fault.
use Rattle.std.proofs.Common.{◌≡◌, ◌<◌, ◌≤◌, ℕ, pos, ◌-◌, ◌*◌, ◌^◌, Bool, true, false, ◌&&◌, ◌==◌, cond, nat_le, IsTrue, List, [], ◌∷◌, length, codes, Option, Some, None, IfSome, option_and_then, FitsSigned, refl, arith, lit≤}
use Rattle.std.specs.Int.{w32, w64, int_wrap}
use Rattle.std.specs.Option.{option_or}
use Rattle.std.specs.Str.{bytes_eq}
use Rattle.std.proofs.lemmas.Bool.Decides.{nat_tests}
use Rattle.std.proofs.lemmas.Int.{SFits-int_wrap}
use Rattle.sed_value.specs.Characters.{is_digit}
use Rattle.sed_value.specs.Value.{is_signed}
use Rattle.sed_lexer.specs.declared.numbers.Number.{Number}
use Rattle.sed_lexer.specs.declared.numbers.Number.TheVariants.{Int, Long}
use Rattle.sed_lexer.specs.Integers.{is_hex_digit, are_digits}
use Rattle.sed_lexer.specs.Spellings.{is_plain, escaped}
use Rattle.sed_lexer.specs.Values.{digits_value, time_factor, int_within, long_within, decimal_number, hex_number}
use Rattle.sed_names.specs.Spelled.{digits_of, suffix_of, decimal_of, hex_of, prefixed_hex_of, integer_of, character_of}
use Rattle.sed_units.specs.declared.leaves.Literal.{Literal}
use Rattle.sed_units.specs.declared.leaves.LiteralKind.{LiteralKind}
use Rattle.sed_units.specs.declared.leaves.LiteralKind.TheVariants as literal
use Rattle.sed_typed.specs.TypedExpr.{Context}
use Rattle.sed_names.specs.Names.{Names}
use Rattle.sed_terms.specs.Faults.{all_faults, broken, Right}
use Rattle.sed_bodies.specs.declared.context.Body.{Body}
use Rattle.sed_bodies.specs.Inside.{IsIn, IsReady}
use Rattle.sed_bodies.specs.Literals.{integer, character, text, literal_of, literal_judged}
use Rattle.sed_body_rules.specs.Scope.{Scope}
use Rattle.sed_bodies.proofs.Right.{one_right}
use Rattle.std.proofs.lemmas.Bool.{eqb-true as same_byte}

-- ---- integers fit their widths

abbrev FitsNumber : Number → Type 0
FitsNumber (Int n) = IsTrue (is_signed w32 n)
FitsNumber (Long n) = IsTrue (is_signed w64 n)

int_fits : (n : ℕ) → IsTrue (is_signed w32 (int_wrap w32 (pos n)))
int_fits n = let f : FitsSigned w32 (int_wrap w32 (pos n)) = SFits-int_wrap w32 (pos n) in grind (arith, nat_tests)

long_fits : (n : ℕ) → IsTrue (is_signed w64 (int_wrap w64 (pos n)))
long_fits n = let f : FitsSigned w64 (int_wrap w64 (pos n)) = SFits-int_wrap w64 (pos n) in grind (arith, nat_tests)

within_int : (bound n : ℕ) → IfSome (int_within bound n) FitsNumber
within_int bound n = by_test (nat_le n bound)
  where
    by_test : (t : Bool) → IfSome (cond t (Some (Int (int_wrap w32 (pos n)))) None) FitsNumber
    by_test true = int_fits n
    by_test false = tt

within_long : (bound n : ℕ) → IfSome (long_within bound n) FitsNumber
within_long bound n = by_test (nat_le n bound)
  where
    by_test : (t : Bool) → IfSome (cond t (Some (Long (int_wrap w64 (pos n)))) None) FitsNumber
    by_test true = long_fits n
    by_test false = tt

either : (t : Bool) (x y : Option Number) → IfSome x FitsNumber → IfSome y FitsNumber → IfSome (cond t x y) FitsNumber
either true x y h g = h
either false x y h g = g

time_fits : (n : ℕ) (o : Option ℕ) → IfSome (option_and_then (λ factor. long_within (2 ^ 63 - 1) (n * factor)) o) FitsNumber
time_fits n (Some factor) = within_long (2 ^ 63 - 1) (n * factor)
time_fits n None = tt

decimal_fits : (suffix : List ℕ) (n : ℕ) → IfSome (decimal_number suffix n) FitsNumber
decimal_fits suffix n =
    either (bytes_eq suffix []) _ _ (within_int (2 ^ 31) n)
    (either (bytes_eq suffix (codes "L")) _ _ (within_long (2 ^ 63) n) (time_fits n (time_factor suffix)))

hex_fits : (suffix : List ℕ) (n : ℕ) → IfSome (hex_number suffix n) FitsNumber
hex_fits suffix n =
    either (bytes_eq suffix []) _ _ (within_int (2 ^ 32 - 1) n) (either (bytes_eq suffix (codes "L")) _ None (within_long (2 ^ 64 - 1) n) tt)

decimal_of_fits : (bytes : List ℕ) → IfSome (decimal_of bytes) FitsNumber
decimal_of_fits bytes =
    either (are_digits is_digit (digits_of is_digit bytes)) _ None (decimal_fits (suffix_of is_digit bytes) (digits_value 10 (digits_of is_digit bytes))) tt

hex_of_fits : (bytes : List ℕ) → IfSome (hex_of bytes) FitsNumber
hex_of_fits bytes =
    either (are_digits is_hex_digit (digits_of is_hex_digit bytes)) _ None (hex_fits (suffix_of is_hex_digit bytes) (digits_value 16 (digits_of is_hex_digit bytes))) tt

prefixed_fits : (bytes : List ℕ) → IfSome (prefixed_hex_of bytes) FitsNumber
prefixed_fits [] = tt
prefixed_fits (z ∷ []) = tt
prefixed_fits (z ∷ x ∷ bytes) = either ((z == 48) && (x == 120)) (hex_of bytes) None (hex_of_fits bytes) tt

integer_fits : (bytes : List ℕ) → IfSome (integer_of bytes) FitsNumber
integer_fits bytes = at (prefixed_hex_of bytes) (prefixed_fits bytes)
  where
    at : (o : Option Number) → IfSome o FitsNumber → IfSome (option_or o (decimal_of bytes)) FitsNumber
    at (Some n) h = h
    at None h = decimal_of_fits bytes

-- ---- characters fit

small_fits : (n : ℕ) → n ≤ 126 → IsTrue (is_signed w32 (pos n))
small_fits n h = grind (arith, nat_tests)

abbrev IsSmall : ℕ → Type 0
IsSmall c = IsTrue (is_signed w32 (pos c))

plain_small : (b : ℕ) → is_plain 39 b ≡ true → IsSmall b
plain_small b h = small_fits b (grind (arith, nat_tests))

-- each escape stands for a character of at most 126
pick : (t : Bool) (x y : Option ℕ) → (t ≡ true → IfSome x IsSmall) → IfSome y IsSmall → IfSome (cond t x y) IsSmall
pick true x y h g = h refl
pick false x y h g = g

itself : (a b : ℕ) → b ≤ 126 → (a == b) ≡ true → IsSmall a
itself a b h e = let same : a ≡ b = same_byte a b e in small_fits a (omega (arith, h, same))

escaped_small : (b : ℕ) → IfSome (escaped b) IsSmall
escaped_small b =
    pick (b == 110) (Some 10) _ (λ e. small_fits 10 (omega arith)) (
    pick (b == 114) (Some 13) _ (λ e. small_fits 13 (omega arith)) (
    pick (b == 116) (Some 9) _ (λ e. small_fits 9 (omega arith)) (
    pick (b == 48) (Some 0) _ (λ e. small_fits 0 (omega arith)) (
    pick (b == 92) (Some b) _ (λ e. itself b 92 (omega arith) e) (
    pick (b == 39) (Some b) _ (λ e. itself b 39 (omega arith) e) (
    pick (b == 34) (Some b) _ (λ e. itself b 34 (omega arith) e) (
    pick (b == 36) (Some b) None (λ e. itself b 36 (omega arith) e) tt)))))))

character_small : (bytes : List ℕ) → IfSome (character_of bytes) IsSmall
character_small [] = tt
character_small (q ∷ []) = tt
character_small (q ∷ b ∷ []) = tt
character_small (q ∷ b ∷ r ∷ []) = by_tests (q == 39) (r == 39) (is_plain 39 b) refl
  where
    by_tests : (s t u : Bool) → is_plain 39 b ≡ u → IfSome (cond (s && t && u) (Some b) None) IsSmall
    by_tests true true true e = plain_small b e
    by_tests true true false e = tt
    by_tests true false u e = tt
    by_tests false t u e = tt
character_small (q ∷ s ∷ b ∷ r ∷ []) = pick ((q == 39) && (s == 92) && (r == 39)) (escaped b) None (λ e. escaped_small b) tt
character_small (q ∷ s ∷ b ∷ r ∷ t ∷ bytes) = tt

-- ---- literals

integer_right : (c : Context) (at : ℕ) (o : Option Number) → IfSome o FitsNumber → Right (IsReady c) (integer all_faults at o)
integer_right c at (Some (Int n)) h = (h, λ u. absurd (let k : false ≡ true = u in cc))
integer_right c at (Some (Long n)) h = (h, λ u. absurd (let k : false ≡ true = u in cc))
integer_right c at None h = one_right (IsReady c) (broken 21 at)

character_right : (c : Context) (at : ℕ) (o : Option ℕ) → IfSome o IsSmall → Right (IsReady c) (character all_faults at o)
character_right c at (Some d) h = (h, λ u. absurd (let k : false ≡ true = u in cc))
character_right c at None h = one_right (IsReady c) (broken 21 at)

text_right : (c : Context) (at : ℕ) (o : Option ℕ) → IfSome o (λ i. i < length c.program.texts) → Right (IsReady c) (text all_faults at o)
text_right c at (Some i) h = (h, λ u. absurd (let k : false ≡ true = u in cc))
text_right c at None h = one_right (IsReady c) (broken 22 at)

pub literal_right : (c : Context) (n : Names) (b : Body) (s : Scope) → IsIn c n b s → (l : Literal) → Right (IsReady c) (literal_judged all_faults n l)
literal_right c n b s i l = by_kind l.kind
  where
    by_kind : (k : LiteralKind) → Right (IsReady c) (literal_of all_faults n l.at k l.bytes)
    by_kind literal.Integer = integer_right c l.at (integer_of l.bytes) (integer_fits l.bytes)
    by_kind literal.Character = character_right c l.at (character_of l.bytes) (character_small l.bytes)
    by_kind literal.Text = text_right c l.at (n.text l.bytes) (i.texts l.bytes)
    by_kind literal.True = (lit≤ tt, λ u. absurd (let k : false ≡ true = u in cc))
    by_kind literal.False = (lit≤ tt, λ u. absurd (let k : false ≡ true = u in cc))
    by_kind literal.Null = tt
