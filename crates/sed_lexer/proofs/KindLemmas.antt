-- Which kinds a piece can have, by its first byte.
use Rattle.std.proofs.Common.{◌≡◌, ℕ, ◌≤◌, nat_le, Bool, true, false, ◌||◌, ◌==◌, not, cond, IsTrue, List, [], ◌∷◌, ◌++◌, length, take, drop, Option, Some, None, inl, inr, refl, sym, ap, subst, ◌∙◌, arith}
use Rattle.std.specs.List.{list_all}
use Rattle.std.proofs.lemmas.Bool.Decides.{nat_tests}
use Rattle.std.proofs.lemmas.List.{length-take-le, take-append-drop}
use Rattle.sed_value.specs.Characters.{is_digit, is_word_byte}
use Rattle.sed_value.specs.Names.{is_identifier}
use Rattle.sed_lexer.specs.declared.kind.TokenKind.{TokenKind}
use Rattle.sed_lexer.specs.declared.kind.TokenKind.TheVariants.{Id, Key, Integer, Character, Text, Mark}
use Rattle.sed_lexer.specs.Gaps.{is_blank, IsGap}
use Rattle.sed_lexer.specs.Words.{key_words, is_key_word, marks, is_mark}
use Rattle.sed_lexer.specs.Integers.{IsInteger}
use Rattle.sed_lexer.specs.Spellings.{IsCharacter, IsText}
use Rattle.sed_lexer.specs.Pieces.{IsPiece}
use Rattle.sed_lexer.specs.Fronts.{NoFront, IsLongestFront}
use Rattle.sed_lexer.specs.Lexes.{IsLongest}
use Rattle.sed_lexer.specs.Cutting.{NoPiece}
use Rattle.sed_lexer.proofs.FrontLemmas.{and_left, is_word_lead, IsWord}
use Rattle.sed_lexer.proofs.AmongLemmas.{among_passes}
use Rattle.sed_lexer.proofs.GapLemmas.{blank_passes}
use Rattle.sed_lexer.proofs.NumeralLemmas.{IsDigits}

-- what a byte can begin
pub data Lead : Type 0 where
  WordLead : Lead
  DigitLead : Lead
  QuoteLead : Lead
  DoubleQuoteLead : Lead
  OtherLead : Lead

abbrev pub lead_of : ℕ → Lead
lead_of b = cond (is_word_lead b) WordLead (cond (is_digit b) DigitLead (cond (b == 39) QuoteLead (cond (b == 34) DoubleQuoteLead OtherLead)))

abbrev pub lead_of_kind : Option TokenKind → Lead
lead_of_kind None = OtherLead
lead_of_kind (Some Id) = WordLead
lead_of_kind (Some Key) = WordLead
lead_of_kind (Some Integer) = DigitLead
lead_of_kind (Some Character) = QuoteLead
lead_of_kind (Some Text) = DoubleQuoteLead
lead_of_kind (Some Mark) = OtherLead

abbrev pub is_other : Lead → Bool
is_other OtherLead = true
is_other lead = false

abbrev pub begins_other : List ℕ → Bool
begins_other [] = false
begins_other (b ∷ bs) = is_other (lead_of b)

other_lead : (lead : Lead) → is_other lead ≡ true → lead ≡ OtherLead
other_lead OtherLead h = refl
other_lead lead h = cc

-- a key word is an identifier
pub key_is_word : (bytes : List ℕ) → is_key_word bytes ≡ true → IsWord bytes
key_is_word bytes is = among_passes is_identifier key_words bytes refl is

pub mark_begins : (bytes : List ℕ) → is_mark bytes ≡ true → begins_other bytes ≡ true
mark_begins bytes is = among_passes begins_other marks bytes refl is

gap_not_empty : IsGap [] → ⊥
gap_not_empty (inl (b, e, is)) = cc
gap_not_empty (inr (inl (words, inl sort, clean))) = cc
gap_not_empty (inr (inl (words, inr sort, clean))) = cc
gap_not_empty (inr (inr (rest, words, e, ends))) = cc

digits_not_empty : (digits suffix : List ℕ) → [] ≡ digits ++ suffix → IsDigits is_digit digits → ⊥
digits_not_empty [] suffix e run = cc
digits_not_empty (d ∷ ds) suffix e run = cc

integer_not_empty : IsInteger [] → ⊥
integer_not_empty (inl (digits, suffix, e, run, is)) = digits_not_empty digits suffix e run
integer_not_empty (inr (numeral, e, is)) = cc

pub piece_not_empty : (kind : Option TokenKind) → IsPiece kind [] → ⊥
piece_not_empty None is = gap_not_empty is
piece_not_empty (Some Id) is = cc
piece_not_empty (Some Key) is = cc
piece_not_empty (Some Integer) is = integer_not_empty is
piece_not_empty (Some Character) (c, (spelling, e, spells)) = cc
piece_not_empty (Some Text) (cs, (spelling, e, spells)) = cc
piece_not_empty (Some Mark) is = cc

head_is : (a b : ℕ) (x y : List ℕ) → a ∷ x ≡ b ∷ y → a ≡ b
head_is a b x y e = cc

word_lead_of : (b : ℕ) (bs : List ℕ) → IsWord (b ∷ bs) → lead_of b ≡ WordLead
word_lead_of b bs is = rw (and_left (is_word_lead b) (list_all is_word_byte bs) is) refl

digit_no_word : (b : ℕ) → is_digit b ≡ true → is_word_lead b ≡ false
digit_no_word b is = grind (arith, nat_tests)

digit_lead : (b : ℕ) (bs digits suffix : List ℕ) → b ∷ bs ≡ digits ++ suffix → IsDigits is_digit digits → lead_of b ≡ DigitLead
digit_lead b bs [] suffix e run = cc
digit_lead b bs (d ∷ ds) suffix e run =
    let digit : is_digit d ≡ true = and_left (is_digit d) (list_all (λ x. is_digit x || (x == 95)) ds) run in
    ap lead_of (head_is b d bs (ds ++ suffix) e) ∙ rw (digit_no_word d digit) (rw digit refl)

-- blanks, `/` and `*` begin no word, integer, character or text
gap_lead : (b : ℕ) (bs : List ℕ) → IsGap (b ∷ bs) → lead_of b ≡ OtherLead
gap_lead b bs (inl (d, e, is)) =
    ap lead_of (head_is b d bs [] e) ∙ blank_passes (λ (x : ℕ). lead_of x ≡ OtherLead) d is refl refl refl refl
gap_lead b bs (inr (inl (words, inl sort, clean))) = ap lead_of (head_is b 47 bs (47 ∷ words) sort)
gap_lead b bs (inr (inl (words, inr sort, clean))) = ap lead_of (head_is b 42 bs (42 ∷ words) sort)
gap_lead b bs (inr (inr (rest, words, e, ends))) = ap lead_of (head_is b 47 bs (42 ∷ rest) e)

integer_lead : (b : ℕ) (bs : List ℕ) → IsInteger (b ∷ bs) → lead_of b ≡ DigitLead
integer_lead b bs (inl (digits, suffix, e, run, is)) = digit_lead b bs digits suffix e run
integer_lead b bs (inr (numeral, e, is)) = ap lead_of (head_is b 48 bs (120 ∷ numeral) e)

character_lead : (b : ℕ) (bs : List ℕ) → IsCharacter (b ∷ bs) → lead_of b ≡ QuoteLead
character_lead b bs (c, (spelling, e, spells)) = ap lead_of (head_is b 39 bs (spelling ++ 39 ∷ []) e)

text_lead : (b : ℕ) (bs : List ℕ) → IsText (b ∷ bs) → lead_of b ≡ DoubleQuoteLead
text_lead b bs (cs, (spelling, e, spells)) = ap lead_of (head_is b 34 bs (spelling ++ 34 ∷ []) e)

-- the first byte of a piece tells of its kind
pub lead_is : (kind : Option TokenKind) (b : ℕ) (bs : List ℕ) → IsPiece kind (b ∷ bs) → lead_of b ≡ lead_of_kind kind
lead_is None b bs is = gap_lead b bs is
lead_is (Some Id) b bs is = word_lead_of b bs is.0
lead_is (Some Key) b bs is = word_lead_of b bs (key_is_word (b ∷ bs) is)
lead_is (Some Integer) b bs is = integer_lead b bs is
lead_is (Some Character) b bs is = character_lead b bs is
lead_is (Some Text) b bs is = text_lead b bs is
lead_is (Some Mark) b bs is = other_lead (lead_of b) (mark_begins (b ∷ bs) is)

no_mark : (bytes others : List ℕ) → bytes ≡ others → is_mark others ≡ false → is_mark bytes ≡ true → ⊥
no_mark bytes others e none is = let same : is_mark bytes ≡ false = ap is_mark e ∙ none in cc

blank_no_mark : (b : ℕ) (bs : List ℕ) → is_blank b ≡ true → is_mark (b ∷ bs) ≡ true → ⊥
blank_no_mark b bs blank is =
    blank_passes (λ (x : ℕ). is_mark (x ∷ bs) ≡ true → ⊥) b blank (λ h. cc) (λ h. cc) (λ h. cc) (λ h. cc) is

-- no gap is a mark
gap_no_mark : (bytes : List ℕ) → IsGap bytes → is_mark bytes ≡ true → ⊥
gap_no_mark bytes (inl (b, e, blank)) is = blank_no_mark b [] blank (ap is_mark (sym e) ∙ is)
gap_no_mark bytes (inr (inl (words, inl sort, clean))) is = no_mark bytes (47 ∷ 47 ∷ words) sort refl is
gap_no_mark bytes (inr (inl (words, inr sort, clean))) is = no_mark bytes (42 ∷ 42 ∷ words) sort refl is
gap_no_mark bytes (inr (inr (rest, words, e, ends))) is = no_mark bytes (47 ∷ 42 ∷ rest) e refl is

kind_by_lead : (kind other : Option TokenKind) (bytes : List ℕ) → lead_of_kind kind ≡ lead_of_kind other → IsPiece kind bytes → IsPiece other bytes → kind ≡ other
kind_by_lead None None bytes e is also = refl
kind_by_lead (Some Id) (Some Id) bytes e is also = refl
kind_by_lead (Some Key) (Some Key) bytes e is also = refl
kind_by_lead (Some Integer) (Some Integer) bytes e is also = refl
kind_by_lead (Some Character) (Some Character) bytes e is also = refl
kind_by_lead (Some Text) (Some Text) bytes e is also = refl
kind_by_lead (Some Mark) (Some Mark) bytes e is also = refl
kind_by_lead (Some Id) (Some Key) bytes e is also = let no : is_key_word bytes ≡ false = is.1 in cc
kind_by_lead (Some Key) (Some Id) bytes e is also = let no : is_key_word bytes ≡ false = also.1 in cc
kind_by_lead None (Some Mark) bytes e is also = absurd (gap_no_mark bytes is also)
kind_by_lead (Some Mark) None bytes e is also = absurd (gap_no_mark bytes also is)
kind_by_lead kind other bytes e is also = cc

-- bytes are a piece of one kind at most
pub one_kind : (kind other : Option TokenKind) (bytes : List ℕ) → IsPiece kind bytes → IsPiece other bytes → kind ≡ other
one_kind kind other [] is also = absurd (piece_not_empty kind is)
one_kind kind other (b ∷ bs) is also = kind_by_lead kind other (b ∷ bs) (sym (lead_is kind b bs is) ∙ lead_is other b bs also) is also

-- two pieces that begin a text begin with one byte
pub one_lead : (kind other : Option TokenKind) (bytes others after rest : List ℕ) → bytes ++ rest ≡ others ++ after
    → IsPiece kind bytes → IsPiece other others → lead_of_kind other ≡ lead_of_kind kind
one_lead kind other [] others after rest e is also = absurd (piece_not_empty kind is)
one_lead kind other (b ∷ bs) [] after rest e is also = absurd (piece_not_empty other also)
one_lead kind other (b ∷ bs) (c ∷ cs) after rest e is also =
    let same : b ≡ c = cc in
    sym (lead_is other c cs also) ∙ ap lead_of (sym same) ∙ lead_is kind b bs is

-- The longest front of what kinds with this lead are is the longest piece.
pub longest_by_lead : (P : List ℕ → Type 0) (kind : Option TokenKind) (text : List ℕ) (n : ℕ)
    → ((other : Option TokenKind) (bytes : List ℕ) → lead_of_kind other ≡ lead_of_kind kind → IsPiece other bytes → P bytes)
    → IsLongestFront P text n → IsPiece kind (take n text) → IsLongest (take n text) text
longest_by_lead P kind text n has found is other after e also =
    let begins : take n text ++ drop n text ≡ other.bytes ++ after = take-append-drop n text ∙ e in
    let lead = one_lead kind other.kind (take n text) other.bytes after (drop n text) begins is also in
    let most : length other.bytes ≤ n = found.most other.bytes after e (has other.kind other.bytes lead also) in
    omega (arith, most, length-take-le n text found.within)

pub of_word : (kind : Option TokenKind) (bytes : List ℕ) → lead_of_kind kind ≡ WordLead → IsPiece kind bytes → IsWord bytes
of_word (Some Id) bytes lead is = is.0
of_word (Some Key) bytes lead is = key_is_word bytes is
of_word kind bytes lead is = cc

pub of_digit : (kind : Option TokenKind) (bytes : List ℕ) → lead_of_kind kind ≡ DigitLead → IsPiece kind bytes → IsInteger bytes
of_digit (Some Integer) bytes lead is = is
of_digit kind bytes lead is = cc

pub of_quote : (kind : Option TokenKind) (bytes : List ℕ) → lead_of_kind kind ≡ QuoteLead → IsPiece kind bytes → IsCharacter bytes
of_quote (Some Character) bytes lead is = is
of_quote kind bytes lead is = cc

pub of_double_quote : (kind : Option TokenKind) (bytes : List ℕ) → lead_of_kind kind ≡ DoubleQuoteLead → IsPiece kind bytes → IsText bytes
of_double_quote (Some Text) bytes lead is = is
of_double_quote kind bytes lead is = cc

-- a mark that begins as a comment does is short
abbrev short_as_comment : List ℕ → Bool
short_as_comment [] = true
short_as_comment (b ∷ bs) = not ((b == 47) || (b == 42)) || nat_le (length bs) 1

at_most_two : (b : ℕ) (bs : List ℕ) → ((b == 47) || (b == 42)) ≡ true → is_mark (b ∷ bs) ≡ true → length bs ≤ 1
at_most_two b bs lead is =
    let short : (not ((b == 47) || (b == 42)) || nat_le (length bs) 1) ≡ true = among_passes short_as_comment marks (b ∷ bs) refl is in
    grind (arith, nat_tests)

mark_in_comment : (b : ℕ) (bs mark rest after : List ℕ) → (b ∷ bs) ++ rest ≡ mark ++ after → ((b == 47) || (b == 42)) ≡ true → 1 ≤ length bs → is_mark mark ≡ true → length mark ≤ length (b ∷ bs)
mark_in_comment b bs [] rest after e lead long is = omega arith
mark_in_comment b bs (c ∷ cs) rest after e lead long is =
    let same : b ≡ c = head_is b c (bs ++ rest) (cs ++ after) e in
    omega (arith, at_most_two c cs (subst (λ (x : ℕ). ((x == 47) || (x == 42)) ≡ true) same lead) is, long)

mark_behind : (gap mark rest after : List ℕ) (b : ℕ) (bs : List ℕ) → gap ++ rest ≡ mark ++ after → gap ≡ b ∷ bs → ((b == 47) || (b == 42)) ≡ true → 1 ≤ length bs → is_mark mark ≡ true
    → length mark ≤ length gap
mark_behind gap mark rest after b bs e front lead long is =
    omega (arith, ap length front, mark_in_comment b bs mark rest after (ap (λ (x : List ℕ). x ++ rest) (sym front) ∙ e) lead long is)

blank_before_mark : (b : ℕ) (gap mark rest after : List ℕ) → gap ++ rest ≡ mark ++ after → gap ≡ b ∷ [] → is_blank b ≡ true → is_mark mark ≡ true → length mark ≤ length gap
blank_before_mark b gap [] rest after e front blank is = omega arith
blank_before_mark b gap (c ∷ cs) rest after e front blank is =
    let same : b ≡ c = head_is b c rest (cs ++ after) (ap (λ (x : List ℕ). x ++ rest) (sym front) ∙ e) in
    absurd (blank_no_mark b cs blank (subst (λ (x : ℕ). is_mark (x ∷ cs) ≡ true) (sym same) is))

-- A mark that begins a text which begins with a gap is no longer than the gap.
pub mark_in_gap : (gap mark rest after : List ℕ) → gap ++ rest ≡ mark ++ after → IsGap gap → is_mark mark ≡ true → length mark ≤ length gap
mark_in_gap gap mark rest after e (inl (b, front, blank)) is = blank_before_mark b gap mark rest after e front blank is
mark_in_gap gap mark rest after e (inr (inl (words, inl sort, clean))) is = mark_behind gap mark rest after 47 (47 ∷ words) e sort refl (omega arith) is
mark_in_gap gap mark rest after e (inr (inl (words, inr sort, clean))) is = mark_behind gap mark rest after 42 (42 ∷ words) e sort refl (omega arith) is
mark_in_gap gap mark rest after e (inr (inr (inner, words, front, ends))) is = mark_behind gap mark rest after 47 (42 ∷ inner) e front refl (omega arith) is

-- A gap that is the longest is the longest piece.
pub longest_gap : (text : List ℕ) (n : ℕ) → IsLongestFront IsGap text n → IsLongest (take n text) text
longest_gap text n found other after e also =
    let begins : take n text ++ drop n text ≡ other.bytes ++ after = take-append-drop n text ∙ e in
    let size : length (take n text) ≡ n = length-take-le n text found.within in
    with_kind other.kind other.bytes e begins size (one_lead None other.kind (take n text) other.bytes after (drop n text) begins found.has also) also
  where
    with_kind : (kind : Option TokenKind) (bytes : List ℕ) → text ≡ bytes ++ after → take n text ++ drop n text ≡ bytes ++ after → length (take n text) ≡ n
        → lead_of_kind kind ≡ OtherLead → IsPiece kind bytes → length bytes ≤ length (take n text)
    with_kind None bytes e begins size lead is = omega (arith, size, found.most bytes after e is)
    with_kind (Some Mark) bytes e begins size lead is = mark_in_gap (take n text) bytes (drop n text) after begins found.has is
    with_kind kind bytes e begins size lead is = cc

-- A mark that is the longest is the longest piece, where no gap begins the text.
pub longest_mark : (text : List ℕ) (n : ℕ) → NoFront IsGap text → IsLongestFront (λ bytes. IsTrue (is_mark bytes)) text n → IsLongest (take n text) text
longest_mark text n no_gap found other after e also =
    let begins : take n text ++ drop n text ≡ other.bytes ++ after = take-append-drop n text ∙ e in
    with_kind other.kind other.bytes e (length-take-le n text found.within) (one_lead (Some Mark) other.kind (take n text) other.bytes after (drop n text) begins found.has also) also
  where
    with_kind : (kind : Option TokenKind) (bytes : List ℕ) → text ≡ bytes ++ after → length (take n text) ≡ n
        → lead_of_kind kind ≡ OtherLead → IsPiece kind bytes → length bytes ≤ length (take n text)
    with_kind None bytes e size lead is = absurd (no_gap bytes after e is)
    with_kind (Some Mark) bytes e size lead is = omega (arith, size, found.most bytes after e is)
    with_kind kind bytes e size lead is = cc

-- no piece begins the text where none of any lead does
pub no_piece : (text : List ℕ) → NoFront IsGap text → NoFront IsWord text → NoFront IsInteger text → NoFront IsCharacter text → NoFront IsText text
    → NoFront (λ bytes. IsTrue (is_mark bytes)) text → NoPiece text
no_piece text gap word integer character string mark segment rest e is = with_kind segment.kind segment.bytes e is
  where
    with_kind : (kind : Option TokenKind) (bytes : List ℕ) → text ≡ bytes ++ rest → IsPiece kind bytes → ⊥
    with_kind None bytes e is = gap bytes rest e is
    with_kind (Some Id) bytes e is = word bytes rest e is.0
    with_kind (Some Key) bytes e is = word bytes rest e (key_is_word bytes is)
    with_kind (Some Integer) bytes e is = integer bytes rest e is
    with_kind (Some Character) bytes e is = character bytes rest e is
    with_kind (Some Text) bytes e is = string bytes rest e is
    with_kind (Some Mark) bytes e is = mark bytes rest e is

pub word_piece : (kind : TokenKind) (bytes : List ℕ) → kind ≡ cond (is_key_word bytes) Key Id → IsWord bytes → IsPiece (Some kind) bytes
word_piece kind bytes e is = subst (λ (k : TokenKind). IsPiece (Some k) bytes) (sym e) (with_test (is_key_word bytes) refl)
  where
    with_test : (t : Bool) → is_key_word bytes ≡ t → IsPiece (Some (cond t Key Id)) bytes
    with_test true e = e
    with_test false e = (is, e)

-- A word that is the longest is the longest piece.
pub longest_word : (text : List ℕ) (n : ℕ) → IsLongestFront IsWord text n → IsLongest (take n text) text
longest_word text n found =
    longest_by_lead IsWord (Some (cond (is_key_word (take n text)) Key Id)) text n (λ other bytes e. of_word other bytes (e ∙ lead (is_key_word (take n text)))) found
    (word_piece (cond (is_key_word (take n text)) Key Id) (take n text) refl found.has)
  where
    lead : (t : Bool) → lead_of_kind (Some (cond t Key Id)) ≡ WordLead
    lead true = refl
    lead false = refl
