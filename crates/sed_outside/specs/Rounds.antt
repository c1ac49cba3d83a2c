-- What a program that runs hears: so many cycles, each with the datagrams of its polls and then the moment of its tick.
use Rattle.std.specs.Prelude.{◌≡◌, ℕ, zero, suc, ◌+◌, ◌*◌, min, ℤ, pos, ◌+ℤ◌, List, [], ◌∷◌, ◌++◌, length, take, Option}
use Rattle.std.specs.Prelude.{Some, None}
use Rattle.std.specs.Int.{w64, saturate_signed}
use Rattle.sed_outside.specs.declared.addr.Addr.{Addr}
use Rattle.sed_outside.specs.declared.datagram.Datagram.{Datagram}
use Rattle.sed_outside.specs.declared.polling.Polling.{Polling}
use Rattle.sed_outside.specs.declared.polling.Polling.TheVariants.{Got, Nothing, Failed}
use Rattle.sed_outside.specs.declared.sleep.Sleep.{Sleep}
use Rattle.sed_outside.specs.Clock.{Moments, next_moment, later_moments}
use Rattle.sed_outside.specs.Counts.{counted, counts_behind}
use Rattle.sed_outside.specs.Link.{next_poll, later_polls}

-- How many polls a cycle has at most.
abbrev pub most_polls : ℕ
most_polls = 16

-- One thing where a poll gives a datagram, and the other where it gives none or fails.
abbrev pub if_got : {A : Type 0} → Polling → (Datagram → A) → A → A
if_got (Got peer bytes) some none = some (record { peer = peer; bytes = bytes })
if_got Nothing some none = none
if_got Failed some none = none

-- The datagrams of so many polls at most, up to the first that gives none.
unfoldable pub heard : ℕ → List Polling → List Datagram
heard zero polls = []
heard (suc n) polls = if_got (next_poll polls) (λ datagram. datagram ∷ heard n (later_polls polls)) []

-- The polls that are still to come then.
unfoldable pub unheard : ℕ → List Polling → List Polling
unheard zero polls = polls
unheard (suc n) polls = if_got (next_poll polls) (λ datagram. unheard n (later_polls polls)) (later_polls polls)

-- A cycle: the datagrams that are heard, and then the moment of the tick.
pub record LiveCycle : Type 0 where
  pub datagrams : List Datagram
  pub moment : ℤ

-- The datagrams of so many cycles of these polls, cycle by cycle.
unfoldable pub heard_in : ℕ → List Polling → List (List Datagram)
heard_in zero polls = []
heard_in (suc n) polls = heard most_polls polls ∷ heard_in n (unheard most_polls polls)

-- The moments of so many ticks.
unfoldable pub tick_moments : ℕ → Moments → List ℤ
tick_moments zero moments = []
tick_moments (suc n) moments = next_moment moments ∷ tick_moments n (later_moments moments)

-- So many cycles of these polls and moments.
unfoldable pub live_cycles : List Polling → Moments → ℕ → List LiveCycle
live_cycles polls moments zero = []
live_cycles polls moments (suc n) =
    record { datagrams = heard most_polls polls; moment = next_moment moments }
    ∷ live_cycles (unheard most_polls polls) (later_moments moments) n

-- How many polls a cycle has: one for each datagram, and then one that gives none, unless it had 16 before.
abbrev pub polls_of : LiveCycle → ℕ
polls_of cycle = min (length cycle.datagrams + 1) most_polls

-- How many polls had been made when each datagram and each tick of these cycles was come to, where so many had been
-- made before them: each datagram comes right behind its own poll, and the tick behind the last one of its cycle.
unfoldable pub polls_at : ℕ → List LiveCycle → List ℕ
polls_at polled [] = []
polls_at polled (cycle ∷ cycles) =
    counts_behind polled (length cycle.datagrams)
    ++ counted (polled + polls_of cycle) ∷ polls_at (polled + polls_of cycle) cycles

-- The moment to which a program sleeps once so many cycles are done: so many periods of milliseconds behind the moment
-- of the first tick, or the last moment that there is.
abbrev pub wake_moment : ℤ → ℕ → ℕ → ℤ
wake_moment first done period = saturate_signed w64 (first +ℤ pos (done * period * 1000000))

-- The sleeps of so many cycles, one behind each, where the clock had given so many moments before the first tick: one
-- moment for each tick, and then the sleep.
unfoldable pub sleeps_in : ℤ → ℕ → ℕ → ℕ → List Sleep
sleeps_in first period given zero = []
sleeps_in first period given (suc n) =
    sleeps_in first period given n
    ++ record { moment = wake_moment first (suc n) period; given = counted (given + suc n) } ∷ []

-- A datagram was heard, of so many polls that were left, where these were to come; and what is left, and to come, then.
pub record Hears (left : ℕ) (polls : List Polling) (peer : Addr) (bytes : List ℕ)
    (left' : ℕ) (polls' : List Polling) : Type 0 where
  pub next : heard left polls ≡ record { peer = peer; bytes = bytes } ∷ heard left' polls'
  pub rest : unheard left polls ≡ unheard left' polls'

-- None was heard, and the round has ended.
pub record HearsNone (left : ℕ) (polls polls' : List Polling) : Type 0 where
  pub none : heard left polls ≡ []
  pub rest : unheard left polls ≡ polls'

-- The same, where nothing may be told of the polls, of what a poll gave and the bytes into which it was put. Whether
-- they are told stays.
abbrev pub HearsWhereTold : ℕ → Option (List Polling) → Option (Addr × ℕ) → List ℕ → ℕ → Option (List Polling) → Type 0
HearsWhereTold left None came bytes left' None = Unit {0}
HearsWhereTold left (Some polls) None bytes left' (Some polls') = HearsNone left polls polls'
HearsWhereTold left (Some polls) (Some came) bytes left' (Some polls') =
    Hears left polls came.0 (take came.1 bytes) left' polls'
HearsWhereTold left (Some polls) came bytes left' None = ⊥
HearsWhereTold left None came bytes left' (Some polls') = ⊥
