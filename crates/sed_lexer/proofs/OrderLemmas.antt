-- The tokens of a text lie in it one after another.
use Rattle.std.proofs.Common.{◌≡◌, ℕ, zero, suc, ◌+◌, ◌<◌, ◌≤◌, Bool, true, List, [], ◌∷◌, ◌++◌, length, take, drop, slice_range, slice_index_or, All, Option, Some, None, refl, sym, ap, subst, ◌∙◌, arith}
use Rattle.std.proofs.lemmas.List.{length-append, length-drop, drop-drop, take_at, drop_at}
use Rattle.sed_lexer.specs.declared.kind.TokenKind.{TokenKind}
use Rattle.sed_lexer.specs.Token.{Token, token_at, end_of}
use Rattle.sed_lexer.specs.Pieces.{Segment, IsPiece}
use Rattle.sed_lexer.specs.Lexes.{Cuts, tokens_of, first_after, tokens_from, Lexes}
use Rattle.sed_lexer.specs.Order.{LiesIn, AreInOrder, IsOfItsKind}
use Rattle.sed_lexer.proofs.KindLemmas.{piece_not_empty}

-- the tokens lie in the text one after another, from this place on
abbrev Ascend : ℕ → List ℕ → List Token → Type 0
Ascend at text [] = Unit {0}
Ascend at text (token ∷ tokens) = (at ≤ token.start) × LiesIn text token × Ascend (end_of token) text tokens

ascend_sooner : (at later : ℕ) (text : List ℕ) (tokens : List Token) → at ≤ later → Ascend later text tokens → Ascend at text tokens
ascend_sooner at later text [] le more = tt
ascend_sooner at later text (token ∷ tokens) le (behind, lies, more) = (omega arith, lies, more)

piece_some : (kind : Option TokenKind) (bytes : List ℕ) → IsPiece kind bytes → 0 < length bytes
piece_some kind [] is = absurd (piece_not_empty kind is)
piece_some kind (b ∷ bs) is = omega arith

with_token : (kind : Option TokenKind) (bytes after text : List ℕ) (at : ℕ) (first : Bool) (tokens : List Token) → at ≤ length text → drop at text ≡ bytes ++ after
    → 0 < length bytes → at + length bytes ≤ length text → Ascend (at + length bytes) text tokens → Ascend at text (tokens_of at first kind bytes ++ tokens)
with_token None bytes after text at first tokens inside begins some within more = ascend_sooner at (at + length bytes) text tokens (omega arith) more
with_token (Some kind) bytes after text at first tokens inside begins some within more =
    (omega arith, record { not_empty = omega arith; within = within; bytes = same }, more)
  where
    same : bytes ≡ slice_range text at (at + length bytes)
    same = sym (ap (λ (n : ℕ). take n (drop at text)) (omega arith) ∙ ap (take (length bytes)) begins ∙ take_at bytes after (length bytes) refl)

ascends : (segments : List Segment) (text rest : List ℕ) (at : ℕ) (first : Bool) → at ≤ length text → Cuts segments (drop at text) rest
    → Ascend at text (tokens_from at first segments)
ascends [] text rest at first inside cuts = tt
ascends (segment ∷ segments) text rest at first inside (after, stands, cuts) =
    let within : at + length segment.bytes ≤ length text =
    omega (arith, length-append segment.bytes after, ap length stands.begins, length-drop at text) in
    let behind : drop (at + length segment.bytes) text ≡ after =
    sym (drop-drop (length segment.bytes) at text) ∙ ap (drop (length segment.bytes)) stands.begins ∙ drop_at segment.bytes after (length segment.bytes) refl in
    with_token segment.kind segment.bytes after text at first (tokens_from (at + length segment.bytes) (first_after first segment.kind segment.bytes) segments)
    inside stands.begins (piece_some segment.kind segment.bytes stands.is_piece) within
    (ascends segments text rest (at + length segment.bytes) (first_after first segment.kind segment.bytes) within
    (subst (λ (x : List ℕ). Cuts segments x rest) (sym behind) cuts))

lie_at : (at : ℕ) (text : List ℕ) (tokens : List Token) (i : ℕ) (d : Token) → Ascend at text tokens → i < length tokens
    → LiesIn text (slice_index_or tokens i d) × (at ≤ (slice_index_or tokens i d).start)
lie_at at text [] i d more inside = absurd (omega arith)
lie_at at text (token ∷ tokens) zero d (behind, lies, more) inside = (lies, behind)
lie_at at text (token ∷ tokens) (suc i) d (behind, lies, more) inside =
    let later = lie_at (end_of token) text tokens i d more (omega arith) in
    (later.0, omega (arith, later.1, behind))

apart_at : (at : ℕ) (text : List ℕ) (tokens : List Token) (i j : ℕ) → Ascend at text tokens → i < j → j < length tokens → end_of (token_at tokens i) ≤ (token_at tokens j).start
apart_at at text [] i j more before inside = absurd (omega arith)
apart_at at text (token ∷ tokens) i zero more before inside = absurd (omega arith)
apart_at at text (token ∷ tokens) zero (suc j) (behind, lies, more) before inside = (lie_at (end_of token) text tokens j _ more (omega arith)).1
apart_at at text (token ∷ tokens) (suc i) (suc j) (behind, lies, more) before inside = apart_at (end_of token) text tokens i j more (omega arith) (omega arith)

pub in_order : (text : List ℕ) (tokens : List Token) → Lexes text tokens → AreInOrder text tokens
in_order text tokens (segments, cuts, are) = subst (AreInOrder text) (sym are) (record {
  lie = λ i d inside. (lie_at 0 text (tokens_from 0 true segments) i d ascending inside).0;
  apart = λ i j before inside. apart_at 0 text (tokens_from 0 true segments) i j ascending before inside;
})
  where
    ascending : Ascend 0 text (tokens_from 0 true segments)
    ascending = ascends segments text [] 0 true (omega arith) cuts

-- the tokens' bytes are pieces of their kinds
abbrev ArePieces : List Token → Type 0
ArePieces [] = Unit {0}
ArePieces (token ∷ tokens) = IsOfItsKind token × ArePieces tokens

pieces_of : (kind : Option TokenKind) (bytes : List ℕ) (at : ℕ) (first : Bool) (tokens : List Token) → IsPiece kind bytes → ArePieces tokens
    → ArePieces (tokens_of at first kind bytes ++ tokens)
pieces_of None bytes at first tokens is more = more
pieces_of (Some kind) bytes at first tokens is more = (is, more)

pieces_from : (segments : List Segment) (text rest : List ℕ) (at : ℕ) (first : Bool) → Cuts segments text rest → ArePieces (tokens_from at first segments)
pieces_from [] text rest at first cuts = tt
pieces_from (segment ∷ segments) text rest at first (after, stands, cuts) =
    pieces_of segment.kind segment.bytes at first (tokens_from (at + length segment.bytes) (first_after first segment.kind segment.bytes) segments)
    stands.is_piece (pieces_from segments after rest (at + length segment.bytes) (first_after first segment.kind segment.bytes) cuts)

piece_at : (tokens : List Token) (i : ℕ) (d : Token) → ArePieces tokens → i < length tokens → IsOfItsKind (slice_index_or tokens i d)
piece_at [] i d more inside = absurd (omega arith)
piece_at (token ∷ tokens) zero d (is, more) inside = is
piece_at (token ∷ tokens) (suc i) d (is, more) inside = piece_at tokens i d more (omega arith)

pub are_pieces : (text : List ℕ) (tokens : List Token) → Lexes text tokens → All IsOfItsKind tokens
are_pieces text tokens (segments, cuts, are) i d inside =
    piece_at tokens i d (subst ArePieces (sym are) (pieces_from segments text [] 0 true cuts)) inside
