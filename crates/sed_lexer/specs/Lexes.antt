-- Which tokens a text has. A text is cut, from its start on, into the longest pieces that begin there.
use Rattle.std.specs.Prelude.{◌≡◌, ◌≢◌, ◌≤◌, ℕ, ◌+◌, Bool, true, false, ◌||◌, IsTrue, List, [], ◌∷◌, ◌++◌, length}
use Rattle.std.specs.Prelude.{Option, Some, None}
use Rattle.sed_lexer.specs.declared.kind.TokenKind.{TokenKind}
use Rattle.sed_lexer.specs.Token.{Token}
use Rattle.sed_lexer.specs.Gaps.{has_line_end}
use Rattle.sed_lexer.specs.Pieces.{Segment, IsPiece, can_end}

-- no piece that begins the text is longer than these bytes
abbrev pub IsLongest : List ℕ → List ℕ → Type 0
IsLongest bytes text = (other : Segment) (after : List ℕ) → text ≡ other.bytes ++ after
    → IsPiece other.kind other.bytes → length other.bytes ≤ length bytes

-- The text begins with this piece, and goes on with the rest. No longer piece begins there, and this one can end there.
pub record CanStand (segment : Segment) (text rest : List ℕ) : Type 0 where
  pub begins : text ≡ segment.bytes ++ rest
  pub is_piece : IsPiece segment.kind segment.bytes
  pub longest : IsLongest segment.bytes text
  pub ends : IsTrue (can_end segment.kind segment.bytes rest)

-- these segments, one after another, lead from the text to the rest
abbrev pub Cuts : List Segment → List ℕ → List ℕ → Type 0
Cuts [] text rest = text ≡ rest
Cuts (segment ∷ segments) text rest = (after : List ℕ) × CanStand segment text after × Cuts segments after rest

-- the token that a segment is, none where it lies between tokens
abbrev pub tokens_of : ℕ → Bool → Option TokenKind → List ℕ → List Token
tokens_of at first None bytes = []
tokens_of at first (Some kind) bytes = record { kind = kind; start = at; bytes = bytes; first = first } ∷ []

-- whether a token that follows is first on its line: a line end lies between it and the token before it, or no token
-- does
abbrev pub first_after : Bool → Option TokenKind → List ℕ → Bool
first_after first None bytes = first || has_line_end bytes
first_after first (Some kind) bytes = false

-- the tokens among the segments, of which the first begins at this place
abbrev pub tokens_from : ℕ → Bool → List Segment → List Token
tokens_from at first [] = []
tokens_from at first (segment ∷ segments) = tokens_of at first segment.kind segment.bytes
    ++ tokens_from (at + length segment.bytes) (first_after first segment.kind segment.bytes) segments

-- the tokens of a whole text
abbrev pub Lexes : List ℕ → List Token → Type 0
Lexes text tokens = (segments : List Segment) × Cuts segments text [] × (tokens ≡ tokens_from 0 true segments)

-- no piece can stand at the start of the text
abbrev pub NothingStands : List ℕ → Type 0
NothingStands text = (segment : Segment) (rest : List ℕ) → CanStand segment text rest → ⊥

-- The text, cut from its start on, goes on at this place, and nothing begins there.
abbrev pub FaultsAt : List ℕ → ℕ → Type 0
FaultsAt text at = (segments : List Segment) × (rest : List ℕ)
    × Cuts segments text rest × (at + length rest ≡ length text) × (rest ≢ []) × NothingStands rest
