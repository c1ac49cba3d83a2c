-- What contracts see of a clock in memory.
use Rattle.std.specs.Prelude.{ℕ, drop}
use Rattle.sed_outside.specs.declared.mem_clock.MemClock.{MemClock}
use Rattle.sed_outside.specs.declared.sleep.Sleep.{Sleep}
use Rattle.sed_outside.specs.Clock.{Moments}
use Rattle.sed_outside.specs.Told.{Bounded}

-- The moments still to come, and the last one.
abbrev pub moments_in : MemClock → Moments
moments_in clock = record { last = clock.last; to_come = drop clock.next clock.moments.items }

-- The sleeps that were asked, and the room for them.
abbrev pub asked_in : MemClock → Bounded Sleep
asked_in clock = clock.asked

-- How many moments were given.
abbrev pub given_by : MemClock → ℕ
given_by clock = clock.given
