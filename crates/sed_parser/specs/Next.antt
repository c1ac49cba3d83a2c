-- What is next: tests of the tokens from a place on.
use Rattle.std.specs.Prelude.{ℕ, Bool, true, false, ◌||◌, ◌&&◌, List, [], ◌∷◌, Option, None, drop, codes}
use Rattle.std.specs.Str.{bytes_eq}
use Rattle.sed_lexer.specs.Token.{Token}
use Rattle.sed_lexer.specs.declared.kind.TokenKind.{TokenKind}
use Rattle.sed_units.specs.Words.{is_some, is_mark, is_key, is_id, literal_kind, prim_of, modifier_of, binary_of}
use Rattle.sed_units.specs.Words.{at_level, assignment_of, update_of, prefix_of, goes}

-- the place of the next token in the text, and 0 at the end
abbrev pub start_of : List Token → ℕ
start_of [] = 0
start_of (t ∷ ts) = t.start

abbrev pub next_mark : List ℕ → List Token → Bool
next_mark text [] = false
next_mark text (t ∷ ts) = is_mark t.kind && bytes_eq t.bytes text

abbrev pub next_key : List ℕ → List Token → Bool
next_key text [] = false
next_key text (t ∷ ts) = is_key t.kind && bytes_eq t.bytes text

abbrev pub next_id : List Token → Bool
next_id [] = false
next_id (t ∷ ts) = is_id t.kind

-- what the next token is by a table
abbrev pub next_as : {A : Type 0} → (TokenKind → List ℕ → Option A) → List Token → Option A
next_as told [] = None
next_as told (t ∷ ts) = told t.kind t.bytes

abbrev pub next_literal : List Token → Bool
next_literal tokens = is_some (next_as literal_kind tokens)

abbrev pub next_prim : List Token → Bool
next_prim tokens = is_some (next_as prim_of tokens)

abbrev pub next_modifier : List Token → Bool
next_modifier tokens = is_some (next_as modifier_of tokens)

-- a binary operator of this level
abbrev pub next_binary : ℕ → List Token → Bool
next_binary level tokens = is_some (at_level level (next_as binary_of tokens))

abbrev pub next_assignment : List Token → Bool
next_assignment tokens = is_some (next_as assignment_of tokens)

abbrev pub next_update : List Token → Bool
next_update tokens = is_some (next_as update_of tokens)

abbrev pub next_prefix : List Token → Bool
next_prefix tokens = is_some (next_as prefix_of tokens)

-- the next token goes on with an expression
abbrev pub next_goes : Bool → List Token → Bool
next_goes inside [] = false
next_goes inside (t ∷ ts) = goes inside t

-- no token is left
abbrev pub at_end : List Token → Bool
at_end [] = true
at_end (t ∷ ts) = false

-- the next token is the first on its line
abbrev pub next_first : List Token → Bool
next_first [] = false
next_first (t ∷ ts) = t.first

-- a statement or a declaration may end here without `;`
abbrev pub may_end : List Token → Bool
may_end [] = true
may_end (t ∷ ts) = t.first || (is_mark t.kind && bytes_eq t.bytes (codes "}"))

-- the token behind the next one is a primitive type
abbrev pub second_prim : List Token → Bool
second_prim tokens = next_prim (drop 1 tokens)
