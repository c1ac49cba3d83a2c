-- What a reader does. It means the bytes that are left.
use Rattle.std.specs.Prelude.{◌≡◌, ℕ, List, ◌++◌, Result, Ok}

-- something was read: its spelling is the front of the bytes that were left, and what follows is left
pub record Reads {A : Type 0} (Spells : A → List ℕ → Type 0) (read : A) (old new : List ℕ) : Type 0 where
  pub spelling : List ℕ
  pub spelled : Spells read spelling
  pub front : old ≡ spelling ++ new

-- what was spelled is read, whatever follows it
abbrev pub ReadsAgain : {A E : Type 0} → (A → List ℕ → Type 0) → Result A E → List ℕ → List ℕ → Type 0
ReadsAgain {A} Spells result old new =
    (written : A) (spelling follows : List ℕ) → Spells written spelling → old ≡ spelling ++ follows
    → (result ≡ Ok written) × (new ≡ follows)

-- a way to spell things with one spelling for each
abbrev pub HasOneSpelling : {A : Type 0} → (A → List ℕ → Type 0) → Type 0
HasOneSpelling {A} Spells = (thing : A) (a b : List ℕ) → Spells thing a → Spells thing b → a ≡ b

-- a way to spell things by which bytes begin with one spelling at most: it spells one thing, and no other is its front
abbrev pub IsReadOneWay : {A : Type 0} → (A → List ℕ → Type 0) → Type 0
IsReadOneWay {A} Spells =
    (v w : A) (a b after others : List ℕ) → Spells v a → Spells w b → a ++ after ≡ b ++ others
    → (v ≡ w) × (a ≡ b) × (after ≡ others)
