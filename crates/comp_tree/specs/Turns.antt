-- How many turns a root call may take.
use Rattle.std.specs.Prelude.{ℕ, ◌≤◌}
use Rattle.sed_value.specs.declared.limits.TheConstants.{MOST_TURNS}

pub record AreTurns (number : ℕ) : Type 0 where
  pub some : 1 ≤ number
  pub most : number ≤ MOST_TURNS
