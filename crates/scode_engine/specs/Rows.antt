-- Code that is decoded once: for each place of a method's code, the instruction that stands there.
use Rattle.std.specs.Prelude.{ℕ, ◌≡◌, ◌+◌, ◌≤◌, List, length, slice_get, Some}
use Rattle.scode_ops.specs.declared.op.Op.{Op}
use Rattle.scode_ops.specs.Decoding.{op_at, size_of}
use Rattle.scode_image.specs.declared.image.ImageMethod.{ImageMethod}

-- Where an instruction stands at a place it is this one, and the place behind it has 16 bits. Where none stands, this
-- is any.
pub record IsDecoded (code : List ℕ) (at : ℕ) (decoded : Op) : Type 0 where
  pub op : (i : Op) → op_at code at ≡ Some i → decoded ≡ i
  pub fits : (i : Op) → op_at code at ≡ Some i → at + size_of i ≤ 65535

-- as many as the code has bytes, each of its place
pub record IsRow (code : List ℕ) (row : List Op) : Type 0 where
  pub count : length row ≡ length code
  pub each : (at : ℕ) (decoded : Op) → slice_get row at ≡ Some decoded → IsDecoded code at decoded

-- a row for each method, of its code
pub record AreRows (methods : List ImageMethod) (rows : List (List Op)) : Type 0 where
  pub count : length rows ≡ length methods
  pub each : (n : ℕ) (m : ImageMethod) (row : List Op) → slice_get methods n ≡ Some m
      → slice_get rows n ≡ Some row → IsRow m.code row
