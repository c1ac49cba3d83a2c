-- What code that keeps the rules is, for who proves of it: shapes at places, each of which an instruction leads on to
-- others.
use Rattle.std.specs.Prelude.{◌≡◌, ◌⊎◌, ℕ, ◌+◌, ◌<◌, true, false, IsTrue, IfSome, IsSome, length, slice_get, Some}
use Rattle.scode_ops.specs.declared.op.Op.{Op}
use Rattle.scode_ops.specs.declared.op.Op.TheVariants.{Turn}
use Rattle.scode_ops.specs.Decoding.{op_at, size_of}
use Rattle.scode_image.specs.declared.image.Image.{Image}
use Rattle.scode_image.specs.declared.image.ImageEntry.{ImageEntry}
use Rattle.scode_image.specs.declared.image.ImageMethod.{ImageMethod}
use Rattle.scode_code.specs.Kinds.{Shape, shape_goes}
use Rattle.scode_code.specs.CodeRules.{after, entry_at, field_missing, first_shape, is_abstract, is_end, jumps_to}
use Rattle.scode_code.specs.CodeRules.{kind_differs, misses_start, number_missing, result_differs, stack_breaks}
use Rattle.scode_code.specs.Breaks.{IsReached, IsStart, KindsAt, StartsAt}
use Rattle.scode_code.specs.TableRules.{tables_agree}

-- which shapes stand at which places of which methods
abbrev pub Shapes : Type 1
Shapes = ℕ → ℕ → Shape → Type 0

-- a shape goes to one that stands at a place
pub record Leads (image : Image) (shapes : Shapes) (method place : ℕ) (shape : Shape) : Type 0 where
  pub reached : Shape
  pub stands : shapes method place reached
  pub goes : IsTrue (shape_goes image shape reached)

-- a jump goes forward, or back to a `turn`
abbrev pub MayJump : ImageMethod → ℕ → ℕ → Type 0
MayJump m from to = (from < to) ⊎ (op_at m.code to ≡ Some Turn)

-- an instruction with this shape: it has what it needs, and leads to shapes that stand
pub record IsFine (image : Image) (shapes : Shapes) (method : ℕ) (m : ImageMethod) (place : ℕ) (shape : Shape) (i : Op)
    : Type 0 where
  -- a jump goes to the start of an instruction, those counted from the start of the method on
  pub start : misses_start m i ≡ false
  pub numbers : number_missing image m i ≡ false
  pub stack : stack_breaks image m shape i ≡ false
  pub kinds : kind_differs image shape i ≡ false
  pub fields : field_missing image shape.stack i ≡ false
  pub result : result_differs image m shape i ≡ false
  pub may_jump : IfSome (jumps_to i) (λ to. MayJump m place to)
  pub jumps : IfSome (jumps_to i) (λ to. Leads image shapes method to (after image shape i))
  pub goes_on : is_end i ≡ false → Leads image shapes method (place + size_of i) (after image shape i)

-- an instruction stands wherever a shape does
pub record Stands (image : Image) (shapes : Shapes) (method place : ℕ) (shape : Shape) : Type 0 where
  pub m : ImageMethod
  pub i : Op
  pub there : slice_get image.methods method ≡ Some m
  pub instruction : op_at m.code place ≡ Some i
  pub fine : IsFine image shapes method m place shape i

-- the tables agree, each method that is not abstract begins with a shape that stands, and each shape is fine
pub record IsVerifiedBy (image : Image) (shapes : Shapes) : Type 0 where
  pub tables : tables_agree image ≡ true
  pub starts : (method : ℕ)
      → IfSome (slice_get image.methods method)
      (λ m. is_abstract m ≡ false → Leads image shapes method 0 (first_shape m))
  pub each : (method place : ℕ) (shape : Shape) → shapes method place shape → Stands image shapes method place shape

-- ---- the kinds of the rules, as shapes

-- in methods that are not abstract
pub record KindsIn (image : Image) (method place : ℕ) (shape : Shape) : Type 0 where
  pub m : ImageMethod
  pub there : slice_get image.methods method ≡ Some m
  pub concrete : is_abstract m ≡ false
  pub kinds : KindsAt image m place shape

-- What the rules ask beyond that the kinds of a method are fine: also of code that is never run, and of entries that
-- nothing leads to.
pub record IsCovered (image : Image) (m : ImageMethod) : Type 0 where
  -- instructions stand one behind the other to the end of the code
  pub decoded : (place : ℕ) → IsReached m place → place < length m.code → IsStart m place
  -- kinds stand at each
  pub shaped : (place : ℕ) → IsStart m place → (shape : Shape) × KindsAt image m place shape
  -- a jump goes to an entry
  pub entered : (place to : ℕ) (i : Op) → StartsAt m place i → jumps_to i ≡ Some to → IsSome (entry_at m to)
  -- an entry stands at the start of an instruction
  pub placed : (n : ℕ) (e : ImageEntry) → slice_get m.entries n ≡ Some e → IsStart m e.place

abbrev pub AreCovered : Image → Type 0
AreCovered image = (method : ℕ) (m : ImageMethod) → slice_get image.methods method ≡ Some m → is_abstract m ≡ false
    → IsCovered image m
