-- Entries in bytes.
use Rattle.std.specs.Prelude.{◌≡◌, ℕ, ◌≤◌, ℤ, List, ◌∷◌, ◌++◌, length}
use Rattle.std.specs.Int.{w64}
use Rattle.sed_outside.specs.declared.addr.Addr.{Addr}
use Rattle.sed_wire.specs.Number.{SpellsNumber, SpellsSigned}

-- an entry without where its bytes lie in memory: a datagram with its sender, or a tick at a moment in nanoseconds
pub data Entry : Type 0 where
  datagram : Addr → List ℕ → Entry
  tick : ℤ → Entry

-- `d`, the four bytes and the port of the sender, how many bytes the datagram has, at most 512, and these bytes
pub record SpellsDatagram (sender : Addr) (bytes text : List ℕ) : Type 0 where
  pub port : List ℕ
  pub count : List ℕ
  pub port_spelled : SpellsNumber 2 sender.port port
  pub count_spelled : SpellsNumber 2 (length bytes) count
  pub four : length sender.ip ≡ 4
  pub few : length bytes ≤ 512
  pub whole : text ≡ 100 ∷ (sender.ip ++ (port ++ (count ++ bytes)))

-- `t`, and the moment
pub record SpellsTick (moment : ℤ) (text : List ℕ) : Type 0 where
  pub number : List ℕ
  pub spelled : SpellsSigned w64 moment number
  pub whole : text ≡ 116 ∷ number

abbrev pub SpellsEntry : Entry → List ℕ → Type 0
SpellsEntry (datagram sender bytes) text = SpellsDatagram sender bytes text
SpellsEntry (tick moment) text = SpellsTick moment text
