-- What a link means, and what each of its calls does to that.
use Rattle.std.specs.Prelude.{◌≡◌, ◌≤◌, ℕ, Bool, List, [], ◌∷◌, length, take, Option, Some, None}
use Rattle.std.specs.Prelude.{if◌then◌else◌, nat_le}
use Rattle.sed_outside.specs.declared.polling.Polling.{Polling}
use Rattle.sed_outside.specs.declared.polling.Polling.TheVariants as to_come
use Rattle.sed_outside.specs.declared.link.Polled.{Polled}
use Rattle.sed_outside.specs.declared.link.Polled.TheVariants.{Got, Nothing, Failed}
use Rattle.sed_outside.specs.Counts.{one_more}

-- The longest datagram, in bytes.
abbrev pub longest_datagram : ℕ
longest_datagram = 512

-- A poll to come as it is given: a datagram that is too long is none.
abbrev pub given : Polling → Polling
given (to_come.Got peer bytes) = if nat_le (length bytes) longest_datagram
    then to_come.Got peer bytes else to_come.Nothing
given to_come.Nothing = to_come.Nothing
given to_come.Failed = to_come.Failed

-- The next poll, and the polls behind it. After the last one each gives nothing.
abbrev pub next_poll : List Polling → Polling
next_poll [] = to_come.Nothing
next_poll (poll ∷ polls) = given poll

abbrev pub later_polls : List Polling → List Polling
later_polls [] = []
later_polls (poll ∷ polls) = polls

-- What an answer is, with the bytes that it was put into.
abbrev pub answered : Polled → List ℕ → Polling
answered (Got peer len) bytes = to_come.Got peer (take len bytes)
answered Nothing bytes = to_come.Nothing
answered Failed bytes = to_come.Failed

-- A datagram that came is not too long.
abbrev pub IsShort : Polled → Type 0
IsShort (Got peer len) = len ≤ longest_datagram
IsShort Nothing = Unit {0}
IsShort Failed = Unit {0}

-- Where no datagram came, the bytes stay.
abbrev pub KeepsUnlessGot : Polled → List ℕ → List ℕ → Type 0
KeepsUnlessGot (Got peer len) before after = Unit {0}
KeepsUnlessGot Nothing before after = after ≡ before
KeepsUnlessGot Failed before after = after ≡ before

-- How often a port was asked for, the last one, and whether that was taken.
pub record Bound : Type 0 where
  pub count : ℕ
  pub port : ℕ
  pub taken : Bool

-- A port was asked for once more, and it is the last one. The count stands still at its end.
abbrev pub Binds : Option Bound → Option Bound → ℕ → Type 0
Binds None None port = Unit {0}
Binds (Some old) (Some new) port = (new.count ≡ one_more old.count) × (new.port ≡ port)
Binds (Some old) None port = ⊥
Binds None (Some new) port = ⊥
