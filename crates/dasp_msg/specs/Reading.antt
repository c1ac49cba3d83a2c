-- What a call that reads does, where it gives what is seen as something else.
use Rattle.std.specs.Prelude.{◌≡◌, ℕ, List, ◌++◌, Result, MatchResult}
use Rattle.sed_wire.specs.Reading.{Reads}

-- nothing of the kind is spelled by the front of the bytes
abbrev pub BeginsNone : {A : Type 0} → (A → List ℕ → Type 0) → List ℕ → Type 0
BeginsNone {A} Spells bytes =
    (thing : A) (spelling follows : List ℕ) → Spells thing spelling → bytes ≡ spelling ++ follows → ⊥

-- what was read is spelled by the front of the bytes, and what follows is left; or nothing of the kind is spelled there
abbrev pub ReadsOrNone : {X A E : Type 0} → (X → A) → (A → List ℕ → Type 0) → Result X E → List ℕ → List ℕ → Type 0
ReadsOrNone seen Spells result old new =
    MatchResult result (λ read. Reads Spells (seen read) old new) (λ fault. BeginsNone Spells old)
