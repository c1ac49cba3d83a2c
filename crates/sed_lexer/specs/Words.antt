-- Identifiers, key words and marks.
use Rattle.std.specs.Prelude.{◌≡◌, ℕ, Bool, false, IsTrue, List, [], ◌∷◌, codes}
use Rattle.std.specs.List.{list_any}
use Rattle.std.specs.Str.{bytes_eq}
use Rattle.sed_value.specs.Names.{is_identifier}

-- the bytes are one of these words
abbrev pub is_among : List (List ℕ) → List ℕ → Bool
is_among words bytes = list_any (λ word. bytes_eq word bytes) words

-- the words that are no identifiers
abbrev pub key_words : List (List ℕ)
key_words =
    codes "abstract" ∷ codes "action" ∷ codes "bool" ∷ codes "break" ∷ codes "byte" ∷ codes "case"
    ∷ codes "class" ∷ codes "continue" ∷ codes "default" ∷ codes "define" ∷ codes "do" ∷ codes "else"
    ∷ codes "extends" ∷ codes "false" ∷ codes "final" ∷ codes "for" ∷ codes "if" ∷ codes "inline" ∷ codes "int"
    ∷ codes "internal" ∷ codes "long" ∷ codes "null" ∷ codes "override" ∷ codes "private" ∷ codes "property"
    ∷ codes "protected" ∷ codes "public" ∷ codes "return" ∷ codes "short" ∷ codes "static" ∷ codes "super"
    ∷ codes "switch" ∷ codes "this" ∷ codes "true" ∷ codes "virtual" ∷ codes "void" ∷ codes "while" ∷ []

abbrev pub is_key_word : List ℕ → Bool
is_key_word bytes = is_among key_words bytes

abbrev pub marks : List (List ℕ)
marks =
    codes "{" ∷ codes "}" ∷ codes "(" ∷ codes ")" ∷ codes "[" ∷ codes "]" ∷ codes ";" ∷ codes "," ∷ codes "."
    ∷ codes ":" ∷ codes "::" ∷ codes "?" ∷ codes "@" ∷ codes "=" ∷ codes "+=" ∷ codes "-=" ∷ codes "*="
    ∷ codes "/=" ∷ codes "%=" ∷ codes "&=" ∷ codes "|=" ∷ codes "^=" ∷ codes "<<=" ∷ codes ">>=" ∷ codes "||"
    ∷ codes "&&" ∷ codes "|" ∷ codes "^" ∷ codes "&" ∷ codes "==" ∷ codes "!=" ∷ codes "<" ∷ codes "<="
    ∷ codes ">" ∷ codes ">=" ∷ codes "<<" ∷ codes ">>" ∷ codes "+" ∷ codes "-" ∷ codes "*" ∷ codes "/"
    ∷ codes "%" ∷ codes "!" ∷ codes "~" ∷ codes "++" ∷ codes "--" ∷ []

abbrev pub is_mark : List ℕ → Bool
is_mark bytes = is_among marks bytes

-- an identifier that is no key word
abbrev pub IsId : List ℕ → Type 0
IsId bytes = IsTrue (is_identifier bytes) × (is_key_word bytes ≡ false)
