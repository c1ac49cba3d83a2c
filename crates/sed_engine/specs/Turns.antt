-- More turns.
use Rattle.std.specs.Prelude.{ℕ, ◌+◌}
use Rattle.sed_engine.specs.declared.call.CallEnd.{CallEnd}
use Rattle.sed_engine.specs.declared.call.CallEnd.TheVariants.{Done, Trap}

-- a call that ended normally with so many more turns left
abbrev pub with_more : ℕ → CallEnd → CallEnd
with_more k (Done left) = Done (left + k)
with_more k (Trap number) = Trap number

-- a call ended normally
abbrev pub IsDone : CallEnd → Type 0
IsDone (Done left) = Unit {0}
IsDone (Trap number) = ⊥
