-- The numbers of which a record can be generated.
use Rattle.std.specs.Prelude.{ℕ, ◌≤◌}
use Rattle.replay_log.specs.declared.asked.GenAsked.{GenAsked}
use Rattle.replay_log.specs.declared.bounds.TheConstants.{GREATEST_SEED, MOST_ADDED_COMPONENTS}
use Rattle.replay_log.specs.declared.bounds.TheConstants.{MOST_ADDED_LINKS, MOST_TICKS}

-- what the first number is drawn from, and how many components, links and ticks there are
pub record AreWithin (seed components links ticks : ℕ) : Type 0 where
  pub low_seed : seed ≤ GREATEST_SEED
  pub some_components : 1 ≤ components
  pub few_components : components ≤ MOST_ADDED_COMPONENTS
  pub few_links : links ≤ MOST_ADDED_LINKS
  pub few_ticks : ticks ≤ MOST_TICKS

-- the numbers that may be asked for
abbrev pub IsAllowed : GenAsked → Type 0
IsAllowed asked = AreWithin asked.seed asked.components asked.links asked.ticks
