-- Which rules an image breaks, and where: the cases of each rule. Nothing here walks along the code.
use Rattle.std.specs.Prelude.{◌≡◌, ◌⊎◌, ◌<◌, ◌≤◌, ◌+◌, ◌≢◌, ℕ, true, false, IsTrue, length, slice_get, Some, None}
use Rattle.scode_ops.specs.declared.op.Op.{Op}
use Rattle.scode_ops.specs.declared.op.Op.TheVariants.{Turn}
use Rattle.scode_ops.specs.Decoding.{op_at, size_of}
use Rattle.scode_image.specs.declared.image.Image.{Image}
use Rattle.scode_image.specs.declared.image.ImageEntry.{ImageEntry}
use Rattle.scode_image.specs.declared.image.ImageMethod.{ImageMethod}
use Rattle.scode_code.specs.Kinds.{Shape, shape_goes}
use Rattle.scode_code.specs.TableRules.{tables_agree}
use Rattle.scode_code.specs.Wants.{needs}
use Rattle.scode_code.specs.CodeRules.{after, entry_at, entry_shape, field_missing, first_shape, is_abstract, is_end}
use Rattle.scode_code.specs.CodeRules.{jumps_to, kind_differs, number_missing, result_differs}
use Rattle.scode_code.specs.Faults.{Broken}

-- ---- where instructions stand

-- a place at which an instruction is looked for: the first one, and the one behind each instruction
pub data IsReached (m : ImageMethod) : ℕ → Type 0 where
  first : IsReached m 0
  behind : (place : ℕ) (i : Op) → IsReached m place → op_at m.code place ≡ Some i → IsReached m (place + size_of i)

-- an instruction that starts there, counted from the start of the method on
pub record StartsAt (m : ImageMethod) (place : ℕ) (i : Op) : Type 0 where
  pub reached : IsReached m place
  pub stands : op_at m.code place ≡ Some i

abbrev pub IsStart : ImageMethod → ℕ → Type 0
IsStart m place = (i : Op) × StartsAt m place i

-- ---- the kinds at a place

-- those of an entry; without one at place 0 those that the method begins with, and elsewhere those that the instruction
-- before leaves
pub data KindsAt (image : Image) (m : ImageMethod) : ℕ → Shape → Type 0 where
  entered : (place : ℕ) (e : ImageEntry) → IsStart m place → entry_at m place ≡ Some e
      → KindsAt image m place (entry_shape e)
  begun : entry_at m 0 ≡ None → KindsAt image m 0 (first_shape m)
  left : (place : ℕ) (shape : Shape) (i : Op) → KindsAt image m place shape → StartsAt m place i → is_end i ≡ false
      → entry_at m (place + size_of i) ≡ None → KindsAt image m (place + size_of i) (after image shape i)

-- kinds that come to a place otherwise than by a jump: from the start of the method, and from the instruction before
pub data Arrives (image : Image) (m : ImageMethod) : ℕ → Shape → Type 0 where
  at_first : Arrives image m 0 (first_shape m)
  from_before : (place : ℕ) (shape : Shape) (i : Op) → KindsAt image m place shape → StartsAt m place i
      → is_end i ≡ false → Arrives image m (place + size_of i) (after image shape i)

-- ---- the rules on code

-- an instruction at a place, with the kinds there
pub record Runs (image : Image) (m : ImageMethod) (place : ℕ) (shape : Shape) (i : Op) : Type 0 where
  pub starts : StartsAt m place i
  pub kinds : KindsAt image m place shape

pub data CodeBreaks (image : Image) (m : ImageMethod) : ℕ → ℕ → Type 0 where
  -- 2: no instruction stands there, or code runs past its end
  no_code : length m.code ≡ 0 → CodeBreaks image m 0 2
  nothing_stands : (place : ℕ) → IsReached m place → place < length m.code → op_at m.code place ≡ None
      → CodeBreaks image m place 2
  runs_past : (place : ℕ) (i : Op) → StartsAt m place i → is_end i ≡ false → length m.code ≤ place + size_of i
      → CodeBreaks image m place 2
  -- 3: a jump goes to no start of an instruction
  misses_start : (place to : ℕ) (i : Op) → StartsAt m place i → jumps_to i ≡ Some to → (IsStart m to → ⊥)
      → CodeBreaks image m place 3
  -- 4: a jump goes back to another instruction than `turn`
  goes_back : (place to : ℕ) (i j : Op) → StartsAt m place i → jumps_to i ≡ Some to → to ≤ place → StartsAt m to j
      → j ≢ Turn → CodeBreaks image m place 4
  -- 5: a local, class, method, text or table number is not there, or `call` names an abstract method
  lacks_number : (place : ℕ) (i : Op) → StartsAt m place i → IsTrue (number_missing image m i)
      → CodeBreaks image m place 5
  -- 6: an entry has more cells than the maximum; the stack lacks a cell, or would pass its maximum
  enters_above : (place : ℕ) (e : ImageEntry) → IsStart m place → entry_at m place ≡ Some e
      → m.stack < length e.stack → CodeBreaks image m place 6
  lacks_cell : (place : ℕ) (shape : Shape) (i : Op) → Runs image m place shape i
      → length shape.stack < length (needs image shape i) → CodeBreaks image m place 6
  goes_above : (place : ℕ) (shape : Shape) (i : Op) → Runs image m place shape i
      → m.stack < length (after image shape i).stack → CodeBreaks image m place 6
  -- 7: a cell has a kind that does not go to the one needed
  differs : (place : ℕ) (shape : Shape) (i : Op) → Runs image m place shape i → IsTrue (kind_differs image shape i)
      → CodeBreaks image m place 7
  -- 8: no field of that form, offset and n in the class
  lacks_field : (place : ℕ) (shape : Shape) (i : Op) → Runs image m place shape i
      → IsTrue (field_missing image shape.stack i) → CodeBreaks image m place 8
  -- 9: a jump's target has no entry, or the kinds that it brings do not go to the entry's
  no_entry : (place to : ℕ) (i : Op) → StartsAt m place i → jumps_to i ≡ Some to → entry_at m to ≡ None
      → CodeBreaks image m place 9
  brings_other : (place to : ℕ) (shape : Shape) (i : Op) (e : ImageEntry) → Runs image m place shape i
      → jumps_to i ≡ Some to → entry_at m to ≡ Some e → shape_goes image (after image shape i) (entry_shape e) ≡ false
      → CodeBreaks image m place 9
  -- and at an entry: the kinds that arrive there otherwise do not go to its own
  arrives_other : (place : ℕ) (shape : Shape) (e : ImageEntry) → IsStart m place → Arrives image m place shape
      → entry_at m place ≡ Some e → shape_goes image shape (entry_shape e) ≡ false → CodeBreaks image m place 9
  -- and at an instruction without an entry directly behind one that does not go on
  nothing_arrives : (place : ℕ) (i : Op) → StartsAt m place i → is_end i ≡ true → IsStart m (place + size_of i)
      → entry_at m (place + size_of i) ≡ None → CodeBreaks image m (place + size_of i) 9
  -- and at an entry whose place is no start
  enters_no_start : (n : ℕ) (e : ImageEntry) → slice_get m.entries n ≡ Some e → (IsStart m e.place → ⊥)
      → CodeBreaks image m e.place 9
  -- 10: `ret` or `retv` against the method's result
  returns_other : (place : ℕ) (shape : Shape) (i : Op) → Runs image m place shape i
      → IsTrue (result_differs image m shape i) → CodeBreaks image m place 10

-- ---- the rules on an image

-- Where the tables do not agree that is all that is said. It is told by method 65,535, place 0 and rule 1.
pub data Breaks (image : Image) : ℕ → ℕ → ℕ → Type 0 where
  tables : tables_agree image ≡ false → Breaks image 65535 0 1
  code : (method place rule : ℕ) (m : ImageMethod) → tables_agree image ≡ true
      → slice_get image.methods method ≡ Some m → is_abstract m ≡ false → CodeBreaks image m place rule
      → Breaks image method place rule

abbrev pub BreaksNone : Image → Type 0
BreaksNone image = (method place rule : ℕ) → Breaks image method place rule → ⊥

-- ---- the first broken rule

-- `at` does not come before `b`, by the method, then the place, then the rule
abbrev pub IsNotBefore : ℕ × ℕ × ℕ → Broken → Type 0
IsNotBefore at b =
    (b.method < at.0)
    ⊎ ((b.method ≡ at.0) × ((b.at < at.1) ⊎ ((b.at ≡ at.1) × (b.rule ≤ at.2))))

-- it is broken, and none is broken before it
pub record IsFirstBroken (image : Image) (b : Broken) : Type 0 where
  pub broken : Breaks image b.method b.at b.rule
  pub first : (method place rule : ℕ) → Breaks image method place rule → IsNotBefore (method, place, rule) b
