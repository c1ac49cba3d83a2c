-- Walks along the steps of a relation between numbers.
use Rattle.std.specs.Prelude.{ℕ}

-- One step or more lead from the first number to the second.
pub data Walk (Step : ℕ → ℕ → Type 0) : ℕ → ℕ → Type 0 where
  one_step : (i j : ℕ) → Step i j → Walk Step i j
  more_steps : (i j k : ℕ) → Step i j → Walk Step j k → Walk Step i k
