-- Bytes in a room.
use Rattle.std.specs.Prelude.{ℕ, List}

pub record Held : Type 0 where
  pub bytes : List ℕ
  pub room : ℕ
