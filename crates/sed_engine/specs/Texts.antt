-- Strs and Bufs: what their calls answer, and what they leave.
use Rattle.std.specs.Prelude.{ℕ, ◌-◌, ◌==◌, ℤ, pos, negsuc, nat_lt, not, if◌then◌else◌, List, [], ◌∷◌, ◌++◌, length}
use Rattle.std.specs.Prelude.{take, take_while, replicate, slice_set, Result, Ok, Err}
use Rattle.std.specs.Int.{w8}
use Rattle.sed_value.specs.Wrap.{low_bits}
use Rattle.sed_typed.specs.declared.operators.Width.TheVariants as width
use Rattle.sed_engine.specs.declared.trap.Trap.TheVariants.{OutOfRange}
use Rattle.sed_engine.specs.Stops.{Stop, Traps, and_then}
use Rattle.sed_engine.specs.Values.{Val, whole}

-- an index, where it is at least 0 and below a length
abbrev pub index_within : ℕ → ℤ → Result ℕ Stop
index_within len (pos i) = if nat_lt i len then Ok i else Err (Traps OutOfRange)
index_within len (negsuc i) = Err (Traps OutOfRange)

abbrev pub index_of : ℕ → Val → Result ℕ Stop
index_of len v = and_then (whole width.Int v) (λ n. index_within len n)

-- the characters of a Str: its bytes before the first 0
abbrev pub characters : List ℕ → List ℕ
characters bytes = take_while (λ b. not (b == 0)) bytes

-- a text literal reads as a Str of its characters and a 0
abbrev pub literal_bytes : List ℕ → List ℕ
literal_bytes text = text ++ 0 ∷ []

-- a Str with the low 8 bits of a number at an index; its last byte stays 0
abbrev pub with_character : List ℕ → ℕ → ℤ → List ℕ
with_character bytes i c = slice_set bytes i (low_bits w8 c)

-- a Str of a size that holds at most one character less than its size, and then zeros
abbrev pub filled : ℕ → List ℕ → List ℕ
filled size text = take (size - 1) text ++ replicate (size - length (take (size - 1) text)) 0
