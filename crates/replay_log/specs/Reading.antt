-- Reading entries from left to right.
use Rattle.std.specs.Prelude.{ℕ, zero, suc, ℤ, ◌&&◌, ◌==◌, nat_le, if◌then◌else◌, Option, Some, None, List, [], ◌∷◌}
use Rattle.std.specs.Prelude.{length, take, drop}
use Rattle.std.specs.Int.{w64, cast_signed}
use Rattle.std.specs.List.{list_all}
use Rattle.std.specs.Option.{option_and_then, option_map_or}
use Rattle.sed_wire.specs.Number.{is_byte, number_of}
use Rattle.replay_log.specs.Entry.{Entry, datagram, tick}

-- a number of so many bytes, and what is behind it
unfoldable pub number_at : ℕ → List ℕ → Option (ℕ × List ℕ)
number_at width bytes =
    if nat_le width (length bytes) && list_all is_byte (take width bytes)
    then Some (number_of (take width bytes), drop width bytes) else None

-- a moment, and what is behind it
unfoldable pub moment_at : List ℕ → Option (ℤ × List ℕ)
moment_at bytes = option_and_then (λ read. Some (cast_signed w64 read.0, read.1)) (number_at 8 bytes)

-- so many bytes of a datagram, and what is behind them
unfoldable pub bytes_at : ℕ → List ℕ → Option (List ℕ × List ℕ)
bytes_at count bytes =
    if nat_le count 512 && nat_le count (length bytes) then Some (take count bytes, drop count bytes) else None

-- a datagram behind its `d`
unfoldable pub datagram_at : List ℕ → Option (Entry × List ℕ)
datagram_at (a ∷ b ∷ c ∷ d ∷ rest) =
    option_and_then (λ port. option_and_then (λ count. option_and_then (λ read.
    Some (datagram (record { ip = a ∷ b ∷ c ∷ d ∷ []; port = port.0 }) read.0, read.1)) (bytes_at count.0 count.1))
    (number_at 2 port.1)) (number_at 2 rest)
datagram_at bytes = None

-- a tick behind its `t`
unfoldable pub tick_at : List ℕ → Option (Entry × List ℕ)
tick_at bytes = option_and_then (λ read. Some (tick read.0, read.1)) (moment_at bytes)

-- an entry, and what is behind it
unfoldable pub entry_at : List ℕ → Option (Entry × List ℕ)
entry_at [] = None
entry_at (letter ∷ rest) =
    if letter == 100 then datagram_at rest else if letter == 116 then tick_at rest else None

-- the entries that the bytes begin with, at most so many
abbrev pub entries_in : ℕ → List ℕ → List Entry
entries_in zero bytes = []
entries_in (suc most) bytes = option_map_or (λ read. read.0 ∷ entries_in most read.1) (entry_at bytes) []

-- all entries that the bytes begin with: no entry takes no byte
unfoldable pub entries_of : List ℕ → List Entry
entries_of bytes = entries_in (length bytes) bytes

-- how far into what is behind whole entries the cause stands for which bytes are no record
unfoldable pub distance_at : List ℕ → Option ℕ
distance_at [] = Some 0
distance_at (first ∷ []) = if first == 122 then None else Some 0
distance_at (first ∷ next ∷ others) = if first == 122 then Some 1 else Some 0
