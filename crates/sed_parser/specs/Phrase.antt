-- Phrases of a grammar: which tokens stand from a place on, and which are left behind them.
use Rattle.std.specs.Prelude.{◌≡◌, ◌≤◌, ℕ, Bool, true, false, List, [], ◌∷◌, ◌++◌, length, Option, Some}
use Rattle.sed_lexer.specs.Token.{Token}

-- The phrase holds of the tokens from its start on and of those that are left behind its end.
abbrev pub Phrase : Type 1
Phrase = List Token → List Token → Type 0

-- the rest are the last ones of the tokens
abbrev pub IsLeft : Phrase
IsLeft tokens rest = (front : List Token) × (tokens ≡ front ++ rest)

-- one token, of which the value is told
abbrev pub of_token : {A : Type 0} → (Token → Option A) → A → Phrase
of_token f a [] rest = ⊥
of_token f a (t ∷ ts) rest = (f t ≡ Some a) × (ts ≡ rest)

-- an item wherever one is wanted, by what is next
abbrev pub Many : {A : Type 0} → (List Token → Bool) → (A → Phrase) → List A → Phrase
Many go item [] tokens rest = (go tokens ≡ false) × (tokens ≡ rest)
Many go item (a ∷ xs) tokens rest =
    (go tokens ≡ true) × ((middle : List Token) × item a tokens middle × Many go item xs middle rest)

-- at most so many
abbrev pub ManyAt : {A : Type 0} → (List Token → Bool) → (A → Phrase) → ℕ → List A → Phrase
ManyAt go item most xs tokens rest = Many go item xs tokens rest × (length xs ≤ most)
