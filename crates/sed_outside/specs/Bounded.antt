-- Text with a room.
use Rattle.std.specs.Prelude.{ℕ, ◌-◌, List, length}

-- The text, and how many bytes it may have.
pub record Bounded : Type 0 where
  pub text : List ℕ
  pub room : ℕ

-- How many more bytes fit.
abbrev pub room_left : Bounded → ℕ
room_left bounded = bounded.room - length bounded.text
