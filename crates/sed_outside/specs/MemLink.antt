-- What contracts see of a link in memory.
use Rattle.std.specs.Prelude.{◌≤◌, ℕ, List, length}
use Rattle.sed_outside.specs.Failing.{Plan}
use Rattle.sed_outside.specs.declared.mem_link.MemLink.{MemLink}
use Rattle.sed_outside.specs.declared.offer.Offer.{Offer}
use Rattle.sed_outside.specs.declared.polling.Polling.{Polling}
use Rattle.sed_outside.specs.Link.{Bound, longest_datagram}
use Rattle.sed_outside.specs.Told.{Bounded, HasRoom}

-- The polls still to come.
abbrev pub polls_in : MemLink → List Polling
polls_in link = link.polls

-- What was offered, and the room for it.
abbrev pub offered_in : MemLink → Bounded Offer
offered_in link = link.offered

-- How many polls were made.
abbrev pub polled_by : MemLink → ℕ
polled_by link = link.polled

-- How often a port was asked for, the last one, and whether that was taken.
abbrev pub bound_in : MemLink → Bound
bound_in link = record { count = link.binds; port = link.port; taken = link.taken }

-- Which of its calls fail, binds and sends numbered together.
abbrev pub plan_of : MemLink → Plan
plan_of link = link.calls

-- How many calls failed.
abbrev pub faults_of : MemLink → ℕ
faults_of link = link.faults

-- There is room for one more datagram, and these bytes are one.
pub record HasRoomFor (bounded : Bounded Offer) (bytes : List ℕ) : Type 0 where
  pub room : HasRoom bounded
  pub short : length bytes ≤ longest_datagram
