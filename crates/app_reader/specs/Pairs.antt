-- Values of slots that agree.
use Rattle.std.specs.Prelude.{ℕ, ◌≡◌, ◌<◌, IsTrue, List, slice_get, Some}
use Rattle.sed_value.specs.declared.value.Value.{Value}
use Rattle.sed_engine.specs.Code.{Meaning, is_property, is_same_field}

-- of two slots that have one field the values are the same
abbrev pub Agree : Meaning → ℕ → List ℕ → List Value → Type 0
Agree m class numbers values =
    (i j a b : ℕ) (v w : Value) → i < j → slice_get numbers i ≡ Some a
    → slice_get numbers j ≡ Some b → slice_get values i ≡ Some v → slice_get values j ≡ Some w
    → IsTrue (is_same_field m class a b) → v ≡ w

-- the value at a place agrees with those behind it
abbrev pub AgreesFrom : Meaning → ℕ → List ℕ → List Value → ℕ → Type 0
AgreesFrom m class numbers values i =
    (j a b : ℕ) (v w : Value) → i < j → slice_get numbers i ≡ Some a
    → slice_get numbers j ≡ Some b → slice_get values i ≡ Some v → slice_get values j ≡ Some w
    → IsTrue (is_same_field m class a b) → v ≡ w

-- each is a number of a slot that is a property
abbrev pub AreProperties : Meaning → ℕ → List ℕ → Type 0
AreProperties m class numbers = (n a : ℕ) → slice_get numbers n ≡ Some a → IsTrue (is_property m class a)
