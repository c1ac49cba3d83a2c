-- How tokens are kept: by their places in the text.
use Rattle.std.specs.Prelude.{ℕ, ◌≤◌, List, length, slice_range}
use Rattle.sed_lexer.specs.declared.tokens.Span.{Span}
use Rattle.sed_lexer.specs.Token.{Token}

-- the token of a text that a span keeps
abbrev pub token_of : List ℕ → Span → Token
token_of text span =
    record { kind = span.kind; start = span.start; bytes = slice_range text span.start span.end; first = span.first }

-- a span lies in the text
pub record Lies (text : List ℕ) (span : Span) : Type 0 where
  pub ordered : span.start ≤ span.end
  pub within : span.end ≤ length text
