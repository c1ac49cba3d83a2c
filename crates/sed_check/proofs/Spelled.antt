-- What a spelled token spells: an identifier, or a literal.
use Rattle.std.proofs.Common.{◌≡◌, ℕ, ◌<◌, ◌==◌, nat_le, Bool, true, false, not, if◌then◌else◌, IsTrue, IfSome, IsSomeAnd, List, [], ◌∷◌, ◌++◌, codes, Option, Some, None, refl, sym, subst, arith}
use Rattle.std.specs.Str.{bytes_eq}
use Rattle.std.proofs.lemmas.Bool.Decides.{Decides-eqb}
use Rattle.sed_value.specs.Names.{is_identifier}
use Rattle.sed_value.specs.Value.{are_bytes}
use Rattle.sed_lexer.specs.declared.kind.TokenKind.{TokenKind}
use Rattle.sed_lexer.specs.declared.kind.TokenKind.TheVariants as kind
use Rattle.sed_lexer.specs.Pieces.{IsPiece}
use Rattle.sed_lexer.specs.Spellings.{is_plain, escaped, Spells, IsCharacter}
use Rattle.sed_lexer.specs.Token.{Token}
use Rattle.sed_names.specs.Spelled.{character_of}
use Rattle.sed_units.specs.declared.leaves.Ident.{Ident}
use Rattle.sed_units.specs.declared.leaves.Literal.{Literal}
use Rattle.sed_units.specs.declared.leaves.LiteralKind.{LiteralKind}
use Rattle.sed_units.specs.declared.leaves.LiteralKind.TheVariants as literal
use Rattle.sed_units.specs.Words.{ident_of, literal_of, literal_with}
use Rattle.sed_parser.specs.Leaves as part
use Rattle.sed_check.specs.Read.{SpellsCharacter, IsLexed}
use Rattle.sed_check.proofs.Kept.{Keeps, one}
use Rattle.std.proofs.lemmas.Option.{none-some as none_some}
use Rattle.sed_value.proofs.Truths.{and_left, and_right}

some_is : {X : Type 0} (a b : X) → ◌≡◌ {A = Option X} (Some a) (Some b) → a ≡ b
some_is a b e = cc

-- ---- characters

abbrev Below : Option ℕ → Type 0
Below o = IfSome o (λ c. c < 256)

choose : (test : Bool) (a b : Option ℕ) → (test ≡ true → Below a) → Below b → Below (if test then a else b)
choose true a b h k = h refl
choose false a b h k = k

same_below : (b c : ℕ) → c < 256 → (b == c) ≡ true → Below (Some b)
same_below b c small h = subst (λ (n : ℕ). n < 256) (sym ((Decides-eqb b c).0 h)) small

escaped_below : (b : ℕ) → Below (escaped b)
escaped_below b =
    choose (b == 110) (Some 10) _ (λ h. omega arith) (
    choose (b == 114) (Some 13) _ (λ h. omega arith) (
    choose (b == 116) (Some 9) _ (λ h. omega arith) (
    choose (b == 48) (Some 0) _ (λ h. omega arith) (
    choose (b == 92) (Some b) _ (same_below b 92 (omega arith)) (
    choose (b == 39) (Some b) _ (same_below b 39 (omega arith)) (
    choose (b == 34) (Some b) _ (same_below b 34 (omega arith)) (
    choose (b == 36) (Some b) None (same_below b 36 (omega arith)) tt)))))))

plain_below : (b : ℕ) → is_plain 39 b ≡ true → b < 256
plain_below b h =
    let most : nat_le b 126 ≡ true =
    and_right (nat_le 32 b) (nat_le b 126) (and_left _ (not (b == 39)) (and_left _ (not (b == 92)) h)) in
    grind (arith, most)

-- what is between quotes is a byte, and is read as one
spelled_below : (spelling : List ℕ) (c : ℕ) → Spells 39 spelling c
    → IsSomeAnd (character_of (39 ∷ (spelling ++ 39 ∷ []))) (λ d. d < 256)
spelled_below [] c h = absurd h
spelled_below (b ∷ []) c h = let plain : is_plain 39 b ≡ true = h.0 in rw plain (plain_below b plain)
spelled_below (s ∷ b ∷ []) c h =
    let slash : s ≡ 92 = h.0 in
    let of : escaped b ≡ Some c = h.1 in
    let small : c < 256 = subst Below of (escaped_below b) in
    subst (λ (a : ℕ). IsSomeAnd (character_of (39 ∷ a ∷ b ∷ 39 ∷ [])) (λ d. d < 256)) (sym slash)
    (subst (λ (o : Option ℕ). IsSomeAnd o (λ d. d < 256)) (sym of) small)
spelled_below (s ∷ b ∷ d ∷ bytes) c h = absurd h

character_below : (bytes : List ℕ) → IsCharacter bytes → IsSomeAnd (character_of bytes) (λ c. c < 256)
character_below bytes h = subst (λ (x : List ℕ). IsSomeAnd (character_of x) (λ c. c < 256)) (sym h.1.1)
    (spelled_below h.1.0 h.0 h.1.2)

-- ---- literals

-- a literal that is no character spells whatever bytes it has
lexed : (at : ℕ) (k : LiteralKind) (bytes : List ℕ) (l : Literal) → IsTrue (are_bytes bytes) → SpellsCharacter k bytes
    → ◌≡◌ {A = Option Literal} (Some (record { at = at; kind = k; bytes = bytes })) (Some l) → IsLexed l
lexed at k bytes l are spells e = subst IsLexed (some_is _ l e) (record { bytes = are; character = spells })

-- what the table of constants may tell
abbrev constant_kind : Bool → Bool → Bool → Option LiteralKind
constant_kind a b c =
    if a then Some literal.True else if b then Some literal.False else if c then Some literal.Null else None

constant : (t : Token) (l : Literal) (a b c : Bool) → IsTrue (are_bytes t.bytes)
    → literal_with t (constant_kind a b c) ≡ Some l → IsLexed l
constant t l true b c are e = lexed t.start literal.True t.bytes l are tt e
constant t l false true c are e = lexed t.start literal.False t.bytes l are tt e
constant t l false false true are e = lexed t.start literal.Null t.bytes l are tt e
constant t l false false false are e = absurd (none_some l e)

literal_at : (k : TokenKind) (start : ℕ) (bytes : List ℕ) (first : Bool) (l : Literal) → IsPiece (Some k) bytes
    → IsTrue (are_bytes bytes) → literal_of (record { kind = k; start = start; bytes = bytes; first = first }) ≡ Some l
    → IsLexed l
literal_at kind.Id start bytes first l piece are e = absurd (none_some l e)
literal_at kind.Key start bytes first l piece are e =
    constant (record { kind = kind.Key; start = start; bytes = bytes; first = first }) l (bytes_eq bytes (codes "true"))
    (bytes_eq bytes (codes "false")) (bytes_eq bytes (codes "null")) are e
literal_at kind.Integer start bytes first l piece are e = lexed start literal.Integer bytes l are tt e
literal_at kind.Character start bytes first l piece are e =
    lexed start literal.Character bytes l are (character_below bytes piece) e
literal_at kind.Text start bytes first l piece are e = lexed start literal.Text bytes l are tt e
literal_at kind.Mark start bytes first l piece are e = absurd (none_some l e)

pub literal_kept : Keeps part.literal.holds IsLexed
unfolding part.literal
literal_kept = one literal_of (λ t l s e. literal_at t.kind t.start t.bytes t.first l s.piece s.bytes e)

-- ---- identifiers

abbrev pub IsNamed : Ident → Type 0
IsNamed id = IsTrue (is_identifier id.bytes)

named : (at : ℕ) (bytes : List ℕ) (id : Ident) → IsTrue (is_identifier bytes)
    → ◌≡◌ {A = Option Ident} (Some (record { at = at; bytes = bytes })) (Some id) → IsNamed id
named at bytes id is e = subst IsNamed (some_is _ id e) is

ident_at : (k : TokenKind) (start : ℕ) (bytes : List ℕ) (first : Bool) (id : Ident) → IsPiece (Some k) bytes
    → ident_of (record { kind = k; start = start; bytes = bytes; first = first }) ≡ Some id → IsNamed id
ident_at kind.Id start bytes first id piece e = named start bytes id piece.0 e
ident_at kind.Key start bytes first id piece e = absurd (none_some id e)
ident_at kind.Integer start bytes first id piece e = absurd (none_some id e)
ident_at kind.Character start bytes first id piece e = absurd (none_some id e)
ident_at kind.Text start bytes first id piece e = absurd (none_some id e)
ident_at kind.Mark start bytes first id piece e = absurd (none_some id e)

pub ident_kept : Keeps part.ident.holds IsNamed
unfolding part.ident
ident_kept = one ident_of (λ t id s e. ident_at t.kind t.start t.bytes t.first id s.piece e)
