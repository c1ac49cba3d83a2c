-- The forms of names, as tests of their bytes.
use Rattle.std.specs.Prelude.{ℕ, Bool, false, ◌==◌, ◌&&◌, ◌||◌, nat_le, List, [], ◌∷◌, length}
use Rattle.std.specs.List.{list_all}
use Rattle.sed_value.specs.Characters.{is_letter, is_letter_or_digit, is_word_byte}

-- a first byte of one kind, then any number of bytes of another
abbrev pub is_first_then : (ℕ → Bool) → (ℕ → Bool) → List ℕ → Bool
is_first_then is_first is_later [] = false
is_first_then is_first is_later (first ∷ later) = is_first first && list_all is_later later

-- a letter or `_`, then letters, digits or `_`
abbrev pub is_identifier : List ℕ → Bool
is_identifier bytes = is_first_then (λ byte. is_letter byte || (byte == 95)) is_word_byte bytes

-- an identifier that is short enough to be declared
abbrev pub is_word : List ℕ → Bool
is_word bytes = is_identifier bytes && nat_le (length bytes) 31

-- a component's name: a letter, then letters, digits or `_`
abbrev pub is_name : List ℕ → Bool
is_name bytes = is_first_then is_letter is_word_byte bytes && nat_le (length bytes) 31

-- a kit's name: a letter, then letters or digits
abbrev pub is_kit_name : List ℕ → Bool
is_kit_name bytes =
    is_first_then is_letter is_letter_or_digit bytes && nat_le (length bytes) 24
