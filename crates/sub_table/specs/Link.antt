-- A link, and how many there may be.
use Rattle.std.specs.Prelude.{ℕ}
use Rattle.sed_value.specs.declared.limits.TheConstants.{MOST_LINKS}

-- from a slot of a component to a slot of a component
pub record Link : Type 0 where
  pub from : ℕ
  pub from_slot : ℕ
  pub to : ℕ
  pub to_slot : ℕ

abbrev pub most_links : ℕ
most_links = MOST_LINKS
