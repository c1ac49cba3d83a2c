-- The events of a program that runs over a link and a clock.
use Rattle.std.specs.Prelude.{ℕ, List, [], ◌∷◌, ◌++◌, map}
use Rattle.std.specs.List.{flat_map}
use Rattle.sed_outside.specs.declared.datagram.Datagram.{Datagram}
use Rattle.sed_outside.specs.declared.polling.Polling.{Polling}
use Rattle.sed_outside.specs.Clock.{Moments}
use Rattle.sed_outside.specs.Rounds.{LiveCycle, live_cycles}
use Rattle.replay_log.specs.Entry.{Entry, datagram, tick}

abbrev pub heard_as : Datagram → Entry
heard_as came = datagram came.peer came.bytes

-- the datagrams that were heard, and then a tick at the moment
abbrev pub entries_in : LiveCycle → List Entry
entries_in cycle = map heard_as cycle.datagrams ++ tick cycle.moment ∷ []

-- of so many cycles of these polls and moments
abbrev pub live_events : List Polling → Moments → ℕ → List Entry
live_events polls moments cycles = flat_map entries_in (live_cycles polls moments cycles)
