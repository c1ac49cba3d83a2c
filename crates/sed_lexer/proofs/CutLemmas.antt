-- Cuts of a text: there is one, and how it goes on.
use Rattle.std.proofs.Common.{◌≡◌, ℕ, zero, suc, ◌+◌, ◌<◌, ◌≤◌, Bool, true, false, ◌||◌, List, [], ◌∷◌, ◌++◌, length, take, drop, slice_range, map, All, Option, Some, None, Err, IsErrOf, ◌⊎◌, inl, inr, refl, sym, ap, subst, ◌∙◌, arith, append_assoc}
use Rattle.std.proofs.lemmas.List.{length-take-le, take-append-drop, length-drop, drop-drop, drop_all, append-nil, map-append}
use Rattle.std.proofs.lemmas.List.Elements.{All-nil, All-push}
use Rattle.sed_lexer.specs.declared.kind.TokenKind.{TokenKind}
use Rattle.sed_lexer.specs.declared.piece.Piece.{Piece}
use Rattle.sed_lexer.specs.declared.tokens.Span.{Span}
use Rattle.sed_lexer.specs.declared.lexing.LexRefusal.{LexRefusal}
use Rattle.sed_lexer.specs.declared.lexing.LexRefusal.TheVariants.{Fault, Memory}
use Rattle.sed_lexer.specs.Token.{Token}
use Rattle.sed_lexer.specs.Gaps.{has_line_end}
use Rattle.sed_lexer.specs.Pieces.{Segment, IsPiece, can_end}
use Rattle.sed_lexer.specs.Lexes.{CanStand, Cuts, tokens_of, first_after, tokens_from, Lexes, NothingStands, FaultsAt}
use Rattle.sed_lexer.specs.Spans.{token_of, Lies}
use Rattle.sed_lexer.specs.Cutting.{IsLongestPiece, NoPiece, Stands, IsCut}
use Rattle.sed_lexer.proofs.FrontLemmas.{same_fronts}
use Rattle.sed_lexer.proofs.KindLemmas.{piece_not_empty, one_kind}

abbrev segment : Option TokenKind → List ℕ → Segment
segment kind bytes = record { kind = kind; bytes = bytes }

abbrev token : TokenKind → ℕ → List ℕ → Bool → Token
token kind start bytes first = record { kind = kind; start = start; bytes = bytes; first = first }

same_segment : (s t : Segment) → s.kind ≡ t.kind → s.bytes ≡ t.bytes → s ≡ t
same_segment s t kinds bytes = ap (λ (k : Option TokenKind). segment k s.bytes) kinds ∙ ap (segment t.kind) bytes

-- one segment can stand at the start of a text
pub one_stands : (s t : Segment) (text r q : List ℕ) → CanStand s text r → CanStand t text q → (s ≡ t) × (r ≡ q)
one_stands s t text r q here there =
    let no_longer : length t.bytes ≤ length s.bytes = here.longest t q there.begins there.is_piece in
    let no_shorter : length s.bytes ≤ length t.bytes = there.longest s r here.begins here.is_piece in
    let size : length s.bytes ≡ length t.bytes = omega arith in
    let same = same_fronts s.bytes t.bytes r q (sym here.begins ∙ there.begins) size in
    let kind : s.kind ≡ t.kind = one_kind s.kind t.kind t.bytes (subst (IsPiece s.kind) same.0 here.is_piece) there.is_piece in
    (same_segment s t kind same.0, same.1)

pub nothing_in_nothing : NothingStands []
nothing_in_nothing segment rest stands = no_bytes segment.bytes rest stands.begins stands.is_piece
  where
    no_bytes : (bytes rest : List ℕ) → [] ≡ bytes ++ rest → IsPiece segment.kind bytes → ⊥
    no_bytes [] rest e is = piece_not_empty segment.kind is
    no_bytes (b ∷ bs) rest e is = cc

-- a text is cut in one way, as far as it can be
pub one_cut : (ss ts : List Segment) (text r q : List ℕ) → Cuts ss text r → Cuts ts text q → NothingStands r → NothingStands q → (ss ≡ ts) × (r ≡ q)
one_cut [] [] text r q here there end end' = (refl, sym here ∙ there)
one_cut [] (t ∷ ts) text r q here (after, stands, more) end end' = absurd (end t after (subst (λ (x : List ℕ). CanStand t x after) here stands))
one_cut (s ∷ ss) [] text r q (after, stands, more) there end end' = absurd (end' s after (subst (λ (x : List ℕ). CanStand s x after) there stands))
one_cut (s ∷ ss) (t ∷ ts) text r q (after, stands, more) (after', stands', more') end end' =
    let same = one_stands s t text after after' stands stands' in
    let rest = one_cut ss ts after r q more (subst (λ (x : List ℕ). Cuts ts x q) (sym same.1) more') end end' in
    (let head : s ≡ t = same.0 in let tail : ss ≡ ts = rest.0 in cc, rest.1)

pub one_tokens : (text : List ℕ) (tokens others : List Token) → Lexes text tokens → Lexes text others → tokens ≡ others
one_tokens text tokens others (ss, cuts, are) (ts, cuts', are') =
    are ∙ ap (tokens_from 0 true) (one_cut ss ts text [] [] cuts cuts' nothing_in_nothing nothing_in_nothing).0 ∙ sym are'

pub one_fault : (text : List ℕ) (at other : ℕ) → FaultsAt text at → FaultsAt text other → at ≡ other
one_fault text at other (ss, r, cuts, place, some, nothing) (ts, q, cuts', place', some', nothing') =
    let same : r ≡ q = (one_cut ss ts text r q cuts cuts' nothing nothing').1 in
    omega (arith, place, place', ap length same)

pub no_fault : (text : List ℕ) (tokens : List Token) (at : ℕ) → Lexes text tokens → FaultsAt text at → ⊥
no_fault text tokens at (ss, cuts, are) (ts, q, cuts', place, some, nothing) =
    some (sym (one_cut ss ts text [] q cuts cuts' nothing_in_nothing nothing).1)

-- the longest piece can stand where it can end
pub can_stand : (text : List ℕ) (piece : Piece) → IsLongestPiece text piece → can_end piece.kind (take piece.len text) (drop piece.len text) ≡ true → Stands text piece
can_stand text piece longest ends = record {
  within = longest.within;
  stands = record {
    begins = sym (take-append-drop piece.len text);
    is_piece = longest.is_piece;
    longest = longest.longest;
    ends = ends;
  };
}

-- where the longest piece can't end, nothing stands
pub cannot_stand : (text : List ℕ) (piece : Piece) → IsLongestPiece text piece → can_end piece.kind (take piece.len text) (drop piece.len text) ≡ false → NothingStands text
cannot_stand text piece longest no_end s rest stands =
    let begins : take piece.len text ++ drop piece.len text ≡ s.bytes ++ rest = take-append-drop piece.len text ∙ stands.begins in
    let no_longer : length s.bytes ≤ length (take piece.len text) = longest.longest s rest stands.begins stands.is_piece in
    let no_shorter : length (take piece.len text) ≤ length s.bytes =
    stands.longest (segment piece.kind (take piece.len text)) (drop piece.len text) (sym (take-append-drop piece.len text)) longest.is_piece in
    let same = same_fronts (take piece.len text) s.bytes (drop piece.len text) rest begins (omega arith) in
    let kind : piece.kind ≡ s.kind = one_kind piece.kind s.kind s.bytes (subst (IsPiece piece.kind) same.0 longest.is_piece) stands.is_piece in
    let after : drop piece.len text ≡ rest = same.1 in
    let bytes : take piece.len text ≡ s.bytes = same.0 in
    let ends : can_end s.kind s.bytes rest ≡ true = stands.ends in
    let not_ended : can_end piece.kind (take piece.len text) (drop piece.len text) ≡ false = no_end in
    cc

-- nothing stands where no piece begins
pub no_piece_stands : (text : List ℕ) → NoPiece text → NothingStands text
no_piece_stands text none s rest stands = none s rest stands.begins stands.is_piece

pub cut_none : (text : List ℕ) → IsCut text [] 0 true
cut_none text = record { within = omega arith; lie = All-nil (Lies text); on = λ segments rest cuts. (segments, cuts, refl) }

-- one piece more
cut_more : (text : List ℕ) (spans more : List Span) (at : ℕ) (first next : Bool) (piece : Piece) → IsCut text spans at first → Stands (drop at text) piece
    → map (token_of text) more ≡ map (token_of text) spans ++ tokens_of at first piece.kind (take piece.len (drop at text))
    → next ≡ first_after first piece.kind (take piece.len (drop at text)) → All (Lies text) more
    → IsCut text more (at + piece.len) next
cut_more text spans more at first next piece cut stands tokens line lie = record { within = within; lie = lie; on = on }
  where
    within : at + piece.len ≤ length text
    within = omega (arith, stands.within, length-drop at text, cut.within)

    size : length (take piece.len (drop at text)) ≡ piece.len
    size = length-take-le piece.len (drop at text) stands.within

    on : (segments : List Segment) (rest : List ℕ) → Cuts segments (drop (at + piece.len) text) rest
        → (all : List Segment) × Cuts all text rest × (tokens_from 0 true all ≡ map (token_of text) more ++ tokens_from (at + piece.len) next segments)
    on segments rest cuts =
        let behind : Cuts segments (drop piece.len (drop at text)) rest = subst (λ (x : List ℕ). Cuts segments x rest) (sym (drop-drop piece.len at text)) cuts in
        let before = cut.on (segment piece.kind (take piece.len (drop at text)) ∷ segments) rest (drop piece.len (drop at text), stands.stands, behind) in
        (before.0, before.1, before.2 ∙ together segments)
      where
        together : (segments : List Segment) → map (token_of text) spans ++ tokens_from at first (segment piece.kind (take piece.len (drop at text)) ∷ segments)
            ≡ map (token_of text) more ++ tokens_from (at + piece.len) next segments
        together segments =
            let bytes : List ℕ = take piece.len (drop at text) in
            ap (λ (n : ℕ). map (token_of text) spans ++ (tokens_of at first piece.kind bytes ++ tokens_from (at + n) (first_after first piece.kind bytes) segments)) size
            ∙ ap (λ (f : Bool). map (token_of text) spans ++ (tokens_of at first piece.kind bytes ++ tokens_from (at + piece.len) f segments)) (sym line)
            ∙ sym (append_assoc (map (token_of text) spans) (tokens_of at first piece.kind bytes) (tokens_from (at + piece.len) next segments))
            ∙ ap (λ (ts : List Token). ts ++ tokens_from (at + piece.len) next segments) (sym tokens)

pub cut_gap : (text : List ℕ) (spans : List Span) (at : ℕ) (first : Bool) (piece : Piece) → IsCut text spans at first → Stands (drop at text) piece
    → piece.kind ≡ None → IsCut text spans (at + piece.len) (first || has_line_end (take piece.len (drop at text)))
cut_gap text spans at first piece cut stands none =
    cut_more text spans spans at first (first || has_line_end (take piece.len (drop at text))) piece cut stands
    (rw none (sym (append-nil (map (token_of text) spans)))) (rw none refl) cut.lie

pub cut_token : (text : List ℕ) (spans : List Span) (at : ℕ) (first : Bool) (piece : Piece) (span : Span) → IsCut text spans at first → Stands (drop at text) piece
    → piece.kind ≡ Some span.kind → span.start ≡ at → span.end ≡ at + piece.len → span.first ≡ first → IsCut text (spans ++ span ∷ []) (at + piece.len) false
cut_token text spans at first piece span cut stands kind start end line =
    cut_more text spans (spans ++ span ∷ []) at first false piece cut stands
    (map-append (token_of text) spans (span ∷ []) ∙ ap (λ (ts : List Token). map (token_of text) spans ++ ts) (rw kind (ap (λ (t : Token). t ∷ []) same_token))) (rw kind refl)
    (All-push (Lies text) spans span cut.lie (record { ordered = omega (arith, start, end); within = omega (arith, end, stands.within, length-drop at text, cut.within) }))
  where
    same_bytes : slice_range text span.start span.end ≡ take piece.len (drop at text)
    same_bytes = ap (λ (s : ℕ). slice_range text s span.end) start ∙ ap (slice_range text at) end
        ∙ ap (λ (n : ℕ). take n (drop at text)) (omega arith)

    same_token : token_of text span ≡ token span.kind at (take piece.len (drop at text)) first
    same_token = ap (λ (s : ℕ). token span.kind s (slice_range text span.start span.end) span.first) start
        ∙ ap (λ (bs : List ℕ). token span.kind at bs span.first) same_bytes ∙ ap (token span.kind at (take piece.len (drop at text))) line

pub cut_fault : (text : List ℕ) (spans : List Span) (at : ℕ) (first : Bool) → IsCut text spans at first → at < length text → NothingStands (drop at text) → FaultsAt text at
cut_fault text spans at first cut inside nothing =
    let before = cut.on [] (drop at text) refl in
    (before.0, drop at text, before.1, omega (arith, length-drop at text), some, nothing)
  where
    some : drop at text ≡ [] → ⊥
    some e = omega (arith, length-drop at text, ap length e)

pub cut_all : (text : List ℕ) (spans : List Span) (at : ℕ) (first : Bool) → IsCut text spans at first → length text ≤ at → Lexes text (map (token_of text) spans)
cut_all text spans at first cut outside =
    let before = cut.on [] [] (drop_all at text outside) in
    (before.0, before.1, sym (before.2 ∙ append-nil (map (token_of text) spans)))

-- a piece that stands has bytes
pub stands_some : (text : List ℕ) (piece : Piece) → Stands text piece → 0 < piece.len
stands_some text piece stands = some piece.len refl
  where
    some : (n : ℕ) → n ≡ piece.len → 0 < n
    some zero e = absurd (piece_not_empty piece.kind (subst (λ (n : ℕ). IsPiece piece.kind (take n text)) (sym e) stands.stands.is_piece))
    some (suc n) e = omega arith

-- a refusal whose place is a fault's
pub refused_text : {T : Type 0} (text : List ℕ) (refusal : LexRefusal) → ((at : ℕ) → IsErrOf {T = T} (Err refusal) (Fault at) → FaultsAt text at)
    → (tokens : List Token) → Lexes text tokens → refusal ≡ Memory
refused_text text (Fault at) faults tokens lexes = absurd (no_fault text tokens at lexes (faults at refl))
refused_text text Memory faults tokens lexes = refl

pub refused_fault : {T : Type 0} (text : List ℕ) (refusal : LexRefusal) → ((at : ℕ) → IsErrOf {T = T} (Err refusal) (Fault at) → FaultsAt text at)
    → (at : ℕ) → FaultsAt text at → (refusal ≡ Fault at) ⊎ (refusal ≡ Memory)
refused_fault text (Fault here) faults at fault = inl (ap Fault (one_fault text here at (faults here refl) fault))
refused_fault text Memory faults at fault = inr refl
