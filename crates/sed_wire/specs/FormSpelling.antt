-- What each form of bytes spells, and where bytes fault it.
--
-- `faults bytes rest`: reading the bytes from the left, the first field that is cut or not allowed stands at the front
-- of the rest.
use Rattle.std.specs.Prelude.{◌≡◌, ◌⊎◌, ℕ, Bool, false, IsTrue, List, [], ◌∷◌, ◌++◌, length}

-- the bytes begin with such ones, and the rest is behind them
abbrev pub Begins : (List ℕ → Type 0) → List ℕ → List ℕ → Type 0
Begins P bytes rest = (front : List ℕ) × P front × (bytes ≡ front ++ rest)

-- the rest are the last ones of the bytes
abbrev pub IsLeft : List ℕ → List ℕ → Type 0
IsLeft bytes rest = (front : List ℕ) × (bytes ≡ front ++ rest)

-- ---- a field: it faults where none of its kind stands, at its own start

-- the front of the bytes spells nothing of the kind
abbrev pub NoneBegins : {A : Type 0} → (A → List ℕ → Type 0) → List ℕ → Type 0
NoneBegins {A} Spells bytes = (a : A) (rest : List ℕ) → Begins (Spells a) bytes rest → ⊥

abbrev pub FieldFaults : {A : Type 0} → (A → List ℕ → Type 0) → List ℕ → List ℕ → Type 0
FieldFaults Spells bytes rest = NoneBegins Spells bytes × (bytes ≡ rest)

-- ---- one form behind another, which may depend on what the first one spells

abbrev pub ThenSpells : {A B : Type 0} → (A → List ℕ → Type 0) → (A → B → List ℕ → Type 0) → A × B → List ℕ → Type 0
ThenSpells P Q both bytes = (first : List ℕ) × (second : List ℕ) × P both.0 first
    × Q both.0 both.1 second × (bytes ≡ first ++ second)

-- the first one faults, or it spells something and the second one faults behind it
abbrev pub ThenFaults : {A : Type 0} → (A → List ℕ → Type 0) → (List ℕ → List ℕ → Type 0)
    → (A → List ℕ → List ℕ → Type 0) → List ℕ → List ℕ → Type 0
ThenFaults {A} P first second bytes rest =
    first bytes rest ⊎ ((a : A) × (middle : List ℕ) × Begins (P a) bytes middle × second a middle rest)

-- ---- only such as pass a test

abbrev pub OnlySpells : {A : Type 0} → (A → Bool) → (A → List ℕ → Type 0) → A → List ℕ → Type 0
OnlySpells test P a bytes = P a bytes × IsTrue (test a)

-- what is spelled and not allowed faults at its own start
abbrev pub OnlyFaults : {A : Type 0} → (A → Bool) → (A → List ℕ → Type 0)
    → (List ℕ → List ℕ → Type 0) → List ℕ → List ℕ → Type 0
OnlyFaults {A} test P faults bytes rest =
    faults bytes rest ⊎ ((a : A) × (behind : List ℕ) × Begins (P a) bytes behind × (test a ≡ false) × (bytes ≡ rest))

-- ---- no byte, for one value: it never faults

abbrev pub GivenSpells : {A : Type 0} → A → A → List ℕ → Type 0
GivenSpells a b bytes = (b ≡ a) × (bytes ≡ [])

abbrev pub NeverFaults : List ℕ → List ℕ → Type 0
NeverFaults bytes rest = ⊥

-- ---- a first one and the others, as a list

abbrev pub ListSpells : {A : Type 0} → (A × List A → List ℕ → Type 0) → List A → List ℕ → Type 0
ListSpells P [] bytes = ⊥
ListSpells P (a ∷ xs) bytes = P (a, xs) bytes

-- ---- so many bytes as they are

pub record SpellsRun (n : ℕ) (run bytes : List ℕ) : Type 0 where
  pub as_many : length run ≡ n
  pub same : bytes ≡ run
