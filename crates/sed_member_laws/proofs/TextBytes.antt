-- The characters of a text literal are bytes.
use Rattle.std.proofs.Common.{◌≡◌, ◌-◌, ◌==◌, ℕ, zero, suc, Bool, true, false, nat_lt, if◌then◌else◌, List, [], ◌∷◌, ◌++◌, length, take, drop, Option, Some, None, refl}
use Rattle.std.specs.Option.{unwrap_or}
use Rattle.std.specs.Str.{byte}
use Rattle.std.proofs.lemmas.Bool.{and_from}
use Rattle.sed_value.specs.Value.{are_bytes}
use Rattle.sed_lexer.specs.Spellings.{escaped}
use Rattle.sed_classes.specs.Literals.{characters_in, text_of}
use Rattle.sed_member_laws.proofs.Own.{and_left, and_right}

abbrev IsSmall : Option ℕ → Type 0
IsSmall None = Unit {0}
IsSmall (Some b) = nat_lt b 256 ≡ true

small_if : (t : Bool) (x : ℕ) (rest : Option ℕ) → nat_lt x 256 ≡ true → IsSmall rest →
    IsSmall (if t then Some x else rest)
small_if true x rest p q = p
small_if false x rest p q = q

escaped_small : (b : ℕ) → nat_lt b 256 ≡ true → IsSmall (escaped b)
escaped_small b h =
    small_if (b == byte "n") 10 (if b == byte "r" then Some 13 else if b == byte "t" then Some 9
    else if b == byte "0" then Some 0 else if b == byte "\\" then Some b else if b == byte "'" then Some b
    else if b == byte "\"" then Some b else if b == byte "$" then Some b else None) refl
    (small_if (b == byte "r") 13 (if b == byte "t" then Some 9 else if b == byte "0" then Some 0
    else if b == byte "\\" then Some b else if b == byte "'" then Some b else if b == byte "\"" then Some b
    else if b == byte "$" then Some b else None) refl
    (small_if (b == byte "t") 9 (if b == byte "0" then Some 0 else if b == byte "\\" then Some b
    else if b == byte "'" then Some b else if b == byte "\"" then Some b else if b == byte "$" then Some b
    else None) refl
    (small_if (b == byte "0") 0 (if b == byte "\\" then Some b else if b == byte "'" then Some b
    else if b == byte "\"" then Some b else if b == byte "$" then Some b else None) refl
    (small_if (b == byte "\\") b (if b == byte "'" then Some b else if b == byte "\"" then Some b
    else if b == byte "$" then Some b else None) h
    (small_if (b == byte "'") b (if b == byte "\"" then Some b else if b == byte "$" then Some b else None) h
    (small_if (b == byte "\"") b (if b == byte "$" then Some b else None) h
    (small_if (b == byte "$") b None h tt)))))))

unwrapped : (o : Option ℕ) (b : ℕ) → IsSmall o → nat_lt b 256 ≡ true → nat_lt (unwrap_or o b) 256 ≡ true
unwrapped None b s h = h
unwrapped (Some c) b s h = s

characters_small : (slashed : Bool) (bytes : List ℕ) → are_bytes bytes ≡ true →
    are_bytes (characters_in slashed bytes) ≡ true
characters_small slashed [] h = refl
characters_small true (b ∷ bs) h =
    and_from
    (nat_lt (unwrap_or (escaped b) b) 256)
    (are_bytes (characters_in false bs))
    (unwrapped (escaped b) b (escaped_small b (and_left (nat_lt b 256) (are_bytes bs) h)) (and_left (nat_lt b 256)
    (are_bytes bs) h))
    (characters_small false bs (and_right (nat_lt b 256) (are_bytes bs) h))
characters_small false (b ∷ bs) h =
    by_test (b == byte "\\") (characters_small true bs (and_right (nat_lt b 256) (are_bytes bs) h))
    (characters_small false bs (and_right (nat_lt b 256) (are_bytes bs) h))
  where
    by_test : (t : Bool) → are_bytes (characters_in true bs) ≡ true → are_bytes (characters_in false bs) ≡ true →
        are_bytes (if t then characters_in true bs else b ∷ characters_in false bs) ≡ true
    by_test true p q = p
    by_test false p q = and_from (nat_lt b 256) (are_bytes (characters_in false bs)) (and_left (nat_lt b 256)
        (are_bytes bs) h) q

taken_small : (n : ℕ) (bytes : List ℕ) → are_bytes bytes ≡ true → are_bytes (take n bytes) ≡ true
taken_small zero bytes h = refl
taken_small (suc n) [] h = refl
taken_small (suc n) (b ∷ bs) h =
    and_from
    (nat_lt b 256)
    (are_bytes (take n bs))
    (and_left (nat_lt b 256) (are_bytes bs) h)
    (taken_small n bs (and_right (nat_lt b 256) (are_bytes bs) h))

dropped_small : (bytes : List ℕ) → are_bytes bytes ≡ true → are_bytes (drop 1 bytes) ≡ true
dropped_small [] h = refl
dropped_small (b ∷ bs) h = and_right (nat_lt b 256) (are_bytes bs) h

pub text_small : (bytes : List ℕ) → are_bytes bytes ≡ true → are_bytes (text_of bytes) ≡ true
text_small bytes h = characters_small false (take (length bytes - 2) (drop 1 bytes)) (taken_small (length bytes - 2)
    (drop 1 bytes) (dropped_small bytes h))

-- with a byte behind them
pub ended_small : (bytes : List ℕ) (b : ℕ) → are_bytes bytes ≡ true → nat_lt b 256 ≡ true →
    are_bytes (bytes ++ b ∷ []) ≡ true
ended_small [] b h s = and_from (nat_lt b 256) true s refl
ended_small (c ∷ cs) b h s =
    and_from
    (nat_lt c 256)
    (are_bytes (cs ++ b ∷ []))
    (and_left (nat_lt c 256) (are_bytes cs) h)
    (ended_small cs b (and_right (nat_lt c 256) (are_bytes cs) h) s)
