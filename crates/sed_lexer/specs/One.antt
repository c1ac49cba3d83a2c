-- The one value with a property.
use Rattle.std.specs.Prelude.{◌≡◌, Option, Some, None}

-- the only value with the property, none where no value has it
abbrev pub FindsOne : {X : Type 0} → (X → Type 0) → Option X → Type 0
FindsOne {X} P None = (x : X) → P x → ⊥
FindsOne {X} P (Some found) = P found × ((other : X) → P other → other ≡ found)
