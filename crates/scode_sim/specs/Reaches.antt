-- What a machine reaches.
use Rattle.std.specs.Prelude.{ℕ, ◌≡◌}
use Rattle.sed_engine.specs.Code.{Question}
use Rattle.sed_engine.specs.Expressions.{Called}
use Rattle.sed_engine.specs.State.{Shared}
use Rattle.scode_image.specs.declared.image.Image.{Image}
use Rattle.scode_code.specs.Fields.{Setting}
use Rattle.scode_code.specs.Machine.{Point, Over}
use Rattle.scode_code.specs.Steps.{steps}

-- after so many steps the machine is over, by what a call comes to: its result, and the contents, statics, turns and
-- moment that it leaves
pub record Reaches (w : Setting) (p : Point) (c : Called) : Type 0 where
  pub count : ℕ
  pub is : steps w count p ≡ Over c

-- what a root call begins with
abbrev pub begun_with : Question → Shared
begun_with q = record { contents = q.contents; statics = q.statics; turns = q.turns; moment = q.moment }

abbrev pub setting_of : Image → Question → Setting
setting_of image q = record { image = image; class = q.class }

-- a machine that is over
pub record IsOver (p : Point) : Type 0 where
  pub comes_to : Called
  pub is : p ≡ Over comes_to
