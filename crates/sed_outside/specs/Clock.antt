-- What a clock means.
use Rattle.std.specs.Prelude.{ℤ, pos, List, [], ◌∷◌}

-- The moments still to come, and the one before them: the last that was given, 0 where none was.
pub record Moments : Type 0 where
  pub last : ℤ
  pub to_come : List ℤ

-- No moment was given yet.
abbrev pub all_to_come : List ℤ → Moments
all_to_come moments = record { last = pos 0; to_come = moments }

-- The moment that is given next. After the last one it is that one again.
abbrev pub next_moment : Moments → ℤ
next_moment moments = first_or moments.last moments.to_come where
  first_or : ℤ → List ℤ → ℤ
  first_or last [] = last
  first_or last (moment ∷ later) = moment

-- The moments once it was given.
abbrev pub later_moments : Moments → Moments
later_moments moments = record { last = next_moment moments; to_come = behind moments.to_come } where
  behind : List ℤ → List ℤ
  behind [] = []
  behind (moment ∷ later) = later
