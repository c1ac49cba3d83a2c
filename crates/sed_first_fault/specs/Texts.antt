-- The texts of a program, each once. A program has at most 4,096, of at most 255 characters.
use Rattle.std.specs.Prelude.{ℕ, ◌&&◌, Bool, true, false, not, nat_lt, if◌then◌else◌, unwrap_or, List, [], ◌∷◌, ◌++◌}
use Rattle.std.specs.Prelude.{length, ◌==◌, Option, Some, None}
use Rattle.std.specs.List.{list_any}
use Rattle.std.specs.Str.{byte, bytes_eq}
use Rattle.sed_lexer.specs.Spellings.{escaped}
use Rattle.sed_units.specs.declared.leaves.Literal.{Literal}
use Rattle.sed_classes.specs.Literals.{text_of}

-- ---- what a literal spells

-- the character that ends with a byte, where a backslash stands before it or not; none with a byte that begins an
-- escape
abbrev pub character : Bool → ℕ → Option ℕ
character true b = Some (unwrap_or (escaped b) b)
character false b = if b == byte "\\" then None else Some b

abbrev pub fitting : List ℕ → Option (List ℕ)
fitting text = if nat_lt 255 (length text) then None else Some text

-- the text that a literal spells, if it has at most 255 characters
abbrev pub text_spelled : List ℕ → Option (List ℕ)
text_spelled literal = fitting (text_of literal)

-- ---- the texts of a program

abbrev pub is_new : List (List ℕ) → List ℕ → Bool
is_new known text = nat_lt (length known) 4096 && not (list_any (λ t. bytes_eq t text) known)

-- a text behind those that are known, where it is none of them, and there is room
abbrev pub with_text : List (List ℕ) → Option (List ℕ) → List (List ℕ)
with_text known None = known
with_text known (Some text) = if is_new known text then known ++ text ∷ [] else known

abbrev pub with_literal : List (List ℕ) → List ℕ → List (List ℕ)
with_literal known literal = with_text known (text_spelled literal)

-- and with the texts of a row of literals
abbrev pub with_literals : List (List ℕ) → List Literal → List (List ℕ)
with_literals known [] = known
with_literals known (l ∷ ls) = with_literals (with_literal known l.bytes) ls
