-- How many parts are compared with their last events.
use Rattle.std.specs.Prelude.{ℕ, zero, suc, ◌≡◌, ◌+◌, ◌-◌, ◌^◌, ◌&&◌, not, min, max, Bool, true}
use Rattle.link_prop.specs.Linked.{Linked, one_if}
use Rattle.sub_table.specs.declared.part.Part.{Part}
use Rattle.sub_table.specs.declared.part.Part.TheVariants.{Tree, Config, Runtime, Links}
use Rattle.sub_table.specs.Table.{Subscriptions}
use Rattle.sox_events.specs.Due.{Those, has_event, marked}

-- a part with a last event that was marked for the place and is no more: it has been settled, so it was compared
abbrev pub was_compared : {E : Type 0} → Linked E → Linked E → Subscriptions → ℕ → Those
was_compared old new subs place id part = has_event (subs place id part)
    && (marked old place id part && not (marked new place id part))

abbrev pub of_one : Those → ℕ → ℕ
of_one those id = one_if (those id Tree) + one_if (those id Config)
    + one_if (those id Runtime) + one_if (those id Links)

-- how many parts of the ids below one are meant
unfoldable pub count_below : ℕ → Those → ℕ
count_below zero those = 0
count_below (suc n) those = count_below n those + of_one those n

-- how many of the parts of all ids are meant
abbrev pub how_many : Those → ℕ
how_many those = count_below 4096 those

-- a count after so many more: it never falls, and stays at the most that 64 bits hold
abbrev pub risen : ℕ → ℕ → ℕ
risen count more = max count (min (count + more) (2 ^ 64 - 1))

-- from one application to the next no mark is set for the place, and the count rises by the parts that were compared
pub record Counts {E : Type 0} (old new : Linked E) (subs : Subscriptions) (place before after : ℕ) : Type 0 where
  pub clears : (id : ℕ) (part : Part) → marked new place id part ≡ true → marked old place id part ≡ true
  pub compared : after ≡ risen before (how_many (was_compared old new subs place))
