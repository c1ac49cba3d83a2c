-- Where the tokens of a text lie, and what their bytes are.
use Rattle.std.specs.Prelude.{◌≡◌, ℕ, ◌<◌, ◌≤◌, List, length, slice_range, All, Some}
use Rattle.sed_lexer.specs.Token.{Token, token_at, end_of}
use Rattle.sed_lexer.specs.Pieces.{IsPiece}

-- the token is at least one byte of the text, at its place
pub record LiesIn (text : List ℕ) (token : Token) : Type 0 where
  pub not_empty : token.start < end_of token
  pub within : end_of token ≤ length text
  pub bytes : token.bytes ≡ slice_range text token.start (end_of token)

-- the tokens lie in the text one after another
pub record AreInOrder (text : List ℕ) (tokens : List Token) : Type 0 where
  pub lie : All (LiesIn text) tokens
  pub apart : (i j : ℕ) → i < j → j < length tokens → end_of (token_at tokens i) ≤ (token_at tokens j).start

-- the bytes of the token are a piece of its kind
abbrev pub IsOfItsKind : Token → Type 0
IsOfItsKind token = IsPiece (Some token.kind) token.bytes
