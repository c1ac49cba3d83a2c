-- How far a text has been cut.
use Rattle.std.specs.Prelude.{◌≡◌, ℕ, ◌≤◌, Bool, true, List, ◌++◌, length, take, drop, map, All}
use Rattle.sed_lexer.specs.declared.piece.Piece.{Piece}
use Rattle.sed_lexer.specs.declared.tokens.Span.{Span}
use Rattle.sed_lexer.specs.Pieces.{Segment, IsPiece}
use Rattle.sed_lexer.specs.Lexes.{Cuts, CanStand, IsLongest, tokens_from}
use Rattle.sed_lexer.specs.Spans.{token_of, Lies}

-- the segment of a text that this many of its first bytes are
abbrev pub segment_of : List ℕ → Piece → Segment
segment_of text piece = record { kind = piece.kind; bytes = take piece.len text }

-- the longest piece that begins the text
pub record IsLongestPiece (text : List ℕ) (piece : Piece) : Type 0 where
  pub within : piece.len ≤ length text
  pub is_piece : IsPiece piece.kind (take piece.len text)
  pub longest : IsLongest (take piece.len text) text

-- no piece begins the text
abbrev pub NoPiece : List ℕ → Type 0
NoPiece text = (segment : Segment) (rest : List ℕ) → text ≡ segment.bytes ++ rest
    → IsPiece segment.kind segment.bytes → ⊥

-- the piece can stand at the start of the text
pub record Stands (text : List ℕ) (piece : Piece) : Type 0 where
  pub within : piece.len ≤ length text
  pub stands : CanStand (segment_of text piece) text (drop piece.len text)

-- The text is cut up to this place, and these are its tokens so far: however it goes on, the tokens that follow are
-- those from this place on. `first` says whether a token that begins here is first on its line.
pub record IsCut (text : List ℕ) (spans : List Span) (at : ℕ) (first : Bool) : Type 0 where
  pub within : at ≤ length text
  pub lie : All (Lies text) spans
  pub on : (segments : List Segment) (rest : List ℕ) → Cuts segments (drop at text) rest
      → (all : List Segment) × Cuts all text rest
      × (tokens_from 0 true all ≡ map (token_of text) spans ++ tokens_from at first segments)
