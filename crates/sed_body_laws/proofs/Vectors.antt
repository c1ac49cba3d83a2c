-- A box and a vector of given contents, wherever they lie.
use Rattle.std.proofs.Common.{◌<◌, ◌^◌, List, length, Vec, Global, refl, arith}
use Rattle.std.specs.Global.{Box}
use denote.RawPtr.{null_ptr}

abbrev heap : Global
heap = record { memory = record { seal = tt } }

abbrev pub box_of : {X : Type 0} → X → Box X
box_of x = record { ptr = null_ptr; alloc = heap; value = x }

abbrev pub vec_of : {X : Type 0} (xs : List X) → length xs < 2 ^ 63 → Vec X Global
vec_of xs small = record {
  ptr = null_ptr;
  len = length xs;
  cap = length xs;
  alloc = heap;
  items = xs;
  ok = (refl, omega arith);
  small = small;
}
