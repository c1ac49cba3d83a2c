-- What the pieces of a text are: tokens, and what lies between tokens.
use Rattle.std.specs.Prelude.{ℕ, Bool, true, ◌==◌, ◌&&◌, not, IsTrue, List, ◌∷◌, codes, Option, Some, None}
use Rattle.std.specs.Str.{byte, bytes_eq}
use Rattle.sed_value.specs.Characters.{is_letter_or_digit}
use Rattle.sed_lexer.specs.declared.kind.TokenKind.{TokenKind}
use Rattle.sed_lexer.specs.declared.kind.TokenKind.TheVariants.{Id, Key, Integer, Character, Text, Mark}
use Rattle.sed_lexer.specs.Gaps.{IsGap}
use Rattle.sed_lexer.specs.Words.{IsId, is_key_word, is_mark}
use Rattle.sed_lexer.specs.Integers.{IsInteger}
use Rattle.sed_lexer.specs.Spellings.{IsCharacter, IsText}

-- a piece of a text: its bytes, and the kind of token that they are, none for what lies between tokens
pub record Segment : Type 0 where
  pub kind : Option TokenKind
  pub bytes : List ℕ

-- the bytes are a piece of this kind
abbrev pub IsPiece : Option TokenKind → List ℕ → Type 0
IsPiece None bytes = IsGap bytes
IsPiece (Some Id) bytes = IsId bytes
IsPiece (Some Key) bytes = IsTrue (is_key_word bytes)
IsPiece (Some Integer) bytes = IsInteger bytes
IsPiece (Some Character) bytes = IsCharacter bytes
IsPiece (Some Text) bytes = IsText bytes
IsPiece (Some Mark) bytes = IsTrue (is_mark bytes)

-- The piece can end before the rest of a text: no letter or digit stands directly after an integer, and no `*` after
-- the mark `/`, since that would begin a comment without an end.
abbrev pub can_end : Option TokenKind → List ℕ → List ℕ → Bool
can_end (Some Integer) bytes (b ∷ rest) = not (is_letter_or_digit b)
can_end (Some Mark) bytes (b ∷ rest) = not (bytes_eq bytes (codes "/") && (b == byte "*"))
can_end kind bytes rest = true
