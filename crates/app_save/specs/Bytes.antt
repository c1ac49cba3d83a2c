-- The bytes that a save writes.
use Rattle.std.specs.Prelude.{◌++◌, ◌∷◌, [], ℕ, List, length}
use Rattle.std.specs.Int.{to_be_bytes, w32}

-- What stands between a gate and its payload: the length in four bytes, the highest first, and the generation.
abbrev pub header_bytes : ℕ → ℕ → List ℕ
header_bytes generation len = to_be_bytes w32 len ++ generation ∷ []

-- A slot with this gate, up to the end of its payload.
abbrev pub slot_bytes : ℕ → ℕ → List ℕ → List ℕ
slot_bytes gate generation payload = gate ∷ (header_bytes generation (length payload) ++ payload)
