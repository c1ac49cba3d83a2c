-- How the count of the failed calls of an outside object tells why a call failed.
use Rattle.std.specs.Prelude.{◌≡◌, ℕ, ◌≤◌}
use Rattle.sed_outside.specs.Counts.{one_more}

-- The count rose, or it stands at its last value: a count kept in 64 bits goes no further.
abbrev pub Rose : ℕ → ℕ → Type 0
Rose before now = one_more before ≤ now

-- A count never falls; where the call failed it rose, and where it did not fail it stays.
pub record HasCause (before now : ℕ) (Failed : Type 0) : Type 0 where
  pub later : before ≤ now
  pub failed : Failed → Rose before now
  pub steady : (Failed → ⊥) → now ≡ before
