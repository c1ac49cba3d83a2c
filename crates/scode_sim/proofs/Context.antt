-- Where code is followed: a typed program, the image that is made of it, and a frame of one of its methods.
use Rattle.std.proofs.Common.{◌≡◌, ℕ, List, length, Some, slice_get}
use Rattle.sed_typed.specs.declared.kind.Kind.{Kind}
use Rattle.sed_typed.specs.declared.program.Program.{Program}
use Rattle.sed_typed.specs.Typed.{Typed}
use Rattle.sed_engine.specs.Expressions.{Calls}
use Rattle.sed_engine.specs.Expressions as language
use Rattle.sed_engine.specs.State.{State}
use Rattle.sed_engine.proofs.Ready as typing
use Rattle.sed_engine.proofs.Ready.{Ready}
use Rattle.sed_engine.proofs.Spots.{Concrete}
use Rattle.scode_image.specs.declared.image.Image.{Image}
use Rattle.scode_code.specs.Fields.{Setting}
use Rattle.scode_code.specs.Machine.{Frame}
use Rattle.scode_emit.specs.Site.{Site, Layout}
use Rattle.scode_sim.specs.Made.{IsMade}
use Rattle.scode_sim.proofs.Frames.{Running, IsSolid}

-- what a root call on a component of this class runs in
pub record Known (program : Program) (layout : Layout) (image : Image) (class : ℕ) : Type 0 where
  pub typed : Typed program
  pub made : IsMade program layout image
  pub component : Concrete program class

-- a frame of a method: the method as its typed steps see it, its number, and the frames below. No local is void.
pub record Body : Type 0 where
  pub frame : typing.Frame
  pub number : ℕ
  pub below : List Frame
  pub solid : (i : ℕ) (k : Kind) → slice_get frame.locals i ≡ Some k → IsSolid k

abbrev pub running : Body → Running
running b = record { method = b.number; static = b.frame.static; kinds = b.frame.locals; below = b.below }

abbrev pub site : Program → Layout → Body → Site
site program layout b = record { program = program; layout = layout; class = b.frame.own.0; locals = length b.frame.locals }

abbrev pub machine : Image → ℕ → Setting
machine image class = record { image = image; class = class }

abbrev pub source : Program → ℕ → Calls → language.Setting
source program class calls = record { program = program; class = class; calls = calls }

-- the states in which its steps run
abbrev pub runs : Program → ℕ → Body → State → Type 0
runs program class b s = Ready program class b.frame.own b.frame.static b.frame.locals s
