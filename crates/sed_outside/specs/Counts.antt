-- Counts of what was given or asked.
use Rattle.std.specs.Prelude.{◌+◌, ◌-◌, ◌^◌, ℕ, zero, suc, min, List, [], ◌∷◌}

-- A count in 64 bits stands still at its end.
abbrev pub counted : ℕ → ℕ
counted count = min count (2 ^ 64 - 1)

-- A count with one more.
abbrev pub one_more : ℕ → ℕ
one_more count = counted (count + 1)

-- The counts of so many things, one after another, behind so many.
abbrev pub counts_behind : ℕ → ℕ → List ℕ
counts_behind count zero = []
counts_behind count (suc n) = one_more count ∷ counts_behind (count + 1) n
