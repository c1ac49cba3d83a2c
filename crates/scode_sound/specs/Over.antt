-- How a call of an image runs that never goes wrong.
use Rattle.std.specs.Prelude.{◌≡◌, ℕ, Result, Ok, Err}
use Rattle.sed_engine.specs.Code.{Question}
use Rattle.sed_engine.specs.Expressions.{Called}
use Rattle.sed_engine.specs.State.{Shared}
use Rattle.sed_engine.specs.Stops.{Stop, Traps, Untyped}
use Rattle.sed_engine.specs.Values.{Val}
use Rattle.scode_image.specs.declared.image.Image.{Image}
use Rattle.scode_code.specs.Fields.{Setting}
use Rattle.scode_code.specs.Machine.{Point, At, Over}
use Rattle.scode_code.specs.Steps.{steps}

-- it ended by a value or by a trap
abbrev pub IsTyped : Result Val Stop → Type 0
IsTyped (Ok v) = Unit {0}
IsTyped (Err (Traps trap)) = Unit {0}
IsTyped (Err Untyped) = ⊥

-- it is at work, or over by a value or a trap
abbrev pub IsNotStuck : Point → Type 0
IsNotStuck (At machine) = Unit {0}
IsNotStuck (Over called) = IsTyped called.result

-- from this point on it is over after at most so many steps, by a value or a trap, and no point on the way is stuck
pub record IsOverWithin (w : Setting) (most : ℕ) (start : Point) : Type 0 where
  pub called : Called
  pub over : steps w most start ≡ Over called
  pub typed : IsTyped called.result
  pub never_stuck : (n : ℕ) → IsNotStuck (steps w n start)

-- what a question is asked of: an image with the class of the component, and what the frames share
abbrev pub setting_of : Image → Question → Setting
setting_of image q = record { image = image; class = q.class }

abbrev pub shared_of : Question → Shared
shared_of q = record { contents = q.contents; statics = q.statics; turns = q.turns; moment = q.moment }
