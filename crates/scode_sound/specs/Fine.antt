-- Points that a machine comes to which never goes wrong.
use Rattle.std.specs.Prelude.{◌≡◌, ◌≤◌, ℕ, true, List, [], ◌∷◌, ◌++◌, length, map, slice_get, Some}
use Rattle.std.specs.Int.{w64}
use Rattle.std.specs.Option.{option_map_or}
use Rattle.sed_value.specs.Value.{is_signed}
use Rattle.sed_engine.specs.Expressions.{Called}
use Rattle.sed_engine.specs.Fits.{Fits}
use Rattle.sed_engine.specs.State.{Shared}
use Rattle.scode_image.specs.declared.image.ImageKind.{ImageKind}
use Rattle.scode_image.specs.declared.image.ImageMethod.{ImageMethod}
use Rattle.scode_code.specs.CodeRules.{is_start}
use Rattle.scode_code.specs.Contents.{initial, initial_statics}
use Rattle.scode_code.specs.Fields.{Setting}
use Rattle.scode_code.specs.Kinds.{Shape, all_go, void}
use Rattle.scode_code.specs.Machine.{Frame, Machine, Point, At, Over}
use Rattle.scode_code.specs.Tables.{shape_of}
use Rattle.scode_code.specs.Verified.{Shapes}
use Rattle.scode_code.specs.Wants.{result_cells}
use Rattle.scode_sound.specs.Cells.{Fit, shapes_of}
use Rattle.scode_sound.specs.Over.{IsTyped}

-- contents and statics fit, the moment is a long, and no more turns are left than were given
pub record Fitting (w : Setting) (given : ℕ) (s : Shared) : Type 0 where
  pub contents : Fits (shapes_of w.image) (shapes_of w.image w.class) (initial w.image w.class) s.contents
  pub statics : Fits (shapes_of w.image) (map shape_of w.image.static_fields) (initial_statics w.image) s.statics
  pub moment : is_signed w64 s.moment ≡ true
  pub turns : s.turns ≤ given

-- a shape stands at a place of a method, which is a start, and says a kind of each local
pub record AtPlace (w : Setting) (shapes : Shapes) (method place : ℕ) (shape : Shape) : Type 0 where
  pub m : ImageMethod
  pub known : slice_get w.image.methods method ≡ Some m
  pub stands : shapes method place shape
  pub start : is_start m.code place ≡ true
  pub many : length shape.locals ≡ length m.locals

-- a frame waits for a result of this kind
pub record Waits (w : Setting) (shapes : Shapes) (k : ImageKind) (f : Frame) : Type 0 where
  pub shape : Shape
  pub at : AtPlace w shapes f.method f.place shape
  pub fit_locals : Fit w shape.locals f.locals
  pub kinds : List ImageKind
  pub leads : all_go w.image (result_cells k ++ kinds) shape.stack ≡ true
  pub fit_rest : Fit w kinds f.stack

abbrev pub result_of : Setting → ℕ → ImageKind
result_of w method = option_map_or (λ (x : ImageMethod). x.result) (slice_get w.image.methods method) void

-- each frame for the one above it
abbrev pub AllWait : Setting → Shapes → ImageKind → List Frame → Type 0
AllWait w shapes k [] = Unit {0}
AllWait w shapes k (f ∷ fs) = Waits w shapes k f × AllWait w shapes (result_of w f.method) fs

-- the locals and the stack of a machine fit the shape that stands at its place
pub record FineAt (w : Setting) (given : ℕ) (shapes : Shapes) (x : Machine) : Type 0 where
  pub shape : Shape
  pub at : AtPlace w shapes x.top.method x.top.place shape
  pub fit_locals : Fit w shape.locals x.top.locals
  pub fit_stack : Fit w shape.stack x.top.stack
  pub fitting : Fitting w given x.shared
  pub waits : AllWait w shapes (result_of w x.top.method) x.below

-- it ended by a value or a trap, and left what fits
pub record FineOver (w : Setting) (given : ℕ) (c : Called) : Type 0 where
  pub typed : IsTyped c.result
  pub fitting : Fitting w given c.shared

abbrev pub Fine : Setting → ℕ → Shapes → Point → Type 0
Fine w given shapes (At x) = FineAt w given shapes x
Fine w given shapes (Over c) = FineOver w given c
