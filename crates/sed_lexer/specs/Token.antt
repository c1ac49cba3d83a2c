-- A token as contracts see it.
use Rattle.std.specs.Prelude.{ℕ, ◌+◌, List, [], length, Bool, false, slice_index_or}
use Rattle.sed_lexer.specs.declared.kind.TokenKind.{TokenKind}
use Rattle.sed_lexer.specs.declared.kind.TokenKind.TheVariants.{Mark}

-- its kind, its place in the text, its bytes, and whether it is the first on its line
pub record Token : Type 0 where
  pub kind : TokenKind
  pub start : ℕ
  pub bytes : List ℕ
  pub first : Bool

-- the place after its last byte
abbrev pub end_of : Token → ℕ
end_of token = token.start + length token.bytes

-- the token of this number; past the last one it is a mark of no bytes
abbrev pub token_at : List Token → ℕ → Token
token_at tokens i = slice_index_or tokens i (record { kind = Mark; start = 0; bytes = []; first = false })
