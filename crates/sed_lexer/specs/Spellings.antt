-- How characters and texts are written, and what they denote.
use Rattle.std.specs.Prelude.{◌≡◌, ◌≢◌, ℕ, Bool, ◌==◌, ◌&&◌, not, if◌then◌else◌, IsTrue, List, [], ◌∷◌, ◌++◌, codes}
use Rattle.std.specs.Prelude.{Option, Some, None}
use Rattle.std.specs.Str.{byte}
use Rattle.sed_value.specs.Characters.{is_between}

-- a byte that stands for itself between quotes of this kind
abbrev pub is_plain : ℕ → ℕ → Bool
is_plain quote b = is_between 32 126 b && not (b == quote) && not (b == byte "\\")

-- the character that a backslash and this byte stand for
abbrev pub escaped : ℕ → Option ℕ
escaped b = if b == byte "n" then Some 10
    else if b == byte "r" then Some 13
    else if b == byte "t" then Some 9
    else if b == byte "0" then Some 0
    else if b == byte "\\" then Some b
    else if b == byte "'" then Some b
    else if b == byte "\"" then Some b
    else if b == byte "$" then Some b
    else None

-- between quotes of this kind the bytes spell this character
abbrev pub Spells : ℕ → List ℕ → ℕ → Type 0
Spells quote [] c = ⊥
Spells quote (b ∷ []) c = IsTrue (is_plain quote b) × (b ≡ c)
Spells quote (b ∷ e ∷ []) c = (b ≡ byte "\\") × (escaped e ≡ Some c)
Spells quote (b ∷ e ∷ d ∷ bs) c = ⊥

-- the character that a character in quotes denotes
abbrev pub IsCharacterOf : List ℕ → ℕ → Type 0
IsCharacterOf bytes c = (spelling : List ℕ) × (bytes ≡ codes "'" ++ (spelling ++ codes "'"))
    × Spells (byte "'") spelling c

-- the bytes spell these characters of a text, none of which is 0
abbrev pub SpellText : List ℕ → List ℕ → Type 0
SpellText bytes [] = bytes ≡ []
SpellText bytes (c ∷ cs) = (spelling : List ℕ) × (rest : List ℕ) × (bytes ≡ spelling ++ rest)
    × Spells (byte "\"") spelling c × (c ≢ 0) × SpellText rest cs

-- the characters that a text in double quotes denotes
abbrev pub IsTextOf : List ℕ → List ℕ → Type 0
IsTextOf bytes characters = (spelling : List ℕ) × (bytes ≡ codes "\"" ++ (spelling ++ codes "\""))
    × SpellText spelling characters

abbrev pub IsCharacter : List ℕ → Type 0
IsCharacter bytes = (c : ℕ) × IsCharacterOf bytes c

abbrev pub IsText : List ℕ → Type 0
IsText bytes = (characters : List ℕ) × IsTextOf bytes characters
