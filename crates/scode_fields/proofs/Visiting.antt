-- What the walk leaves, part by part.
use Rattle.std.proofs.Common.{◌≡◌, ℕ, ◌<◌, Bool, true, false, List, [], ◌∷◌, ◌++◌, length, set, subst, arith, Some, slice_get}
use Rattle.scode_image.specs.declared.image.Image.{Image}
use Rattle.scode_image.specs.declared.image.ImageClass.{ImageClass}
use Rattle.scode_fields.specs.Walking.{AreDone, GoesOn, IsCircle, IsDone, IsWalk, is_told}
use Rattle.scode_fields.specs.Visits.{Through, Went}
use Rattle.scode_fields.specs.declared.holders.Walk.{Walk}
use Rattle.scode_fields.proofs.Walks.{all_done, done_goes_on, done_walk, goes_further, is_done_now, still_open}

pub went_well : (image : Image) (old new : Walk) (Left : Type 0) (b : Bool) → b ≡ true → Went image old new Left b
    → Through image old new Left
went_well image old new Left b is went = subst (λ (b : Bool). Went image old new Left b) is went

pub went_badly : (image : Image) (old new : Walk) (Left : Type 0) (b : Bool) → b ≡ false → Went image old new Left b
    → IsCircle image
went_badly image old new Left b is went = subst (λ (b : Bool). Went image old new Left b) is went

-- a class is put behind what it leads to
pub record Entered (image : Image) (b0 d0 b3 d3 : List Bool) (order3 : List ℕ) (class : ℕ) : Type 0 where
  pub sound : IsWalk image b3 d3 order3
  pub grows : GoesOn b0 d0 b3 d3
  pub left : IsDone image d3 class

pub entered : (image : Image) (b0 d0 b1 d1 b2 d2 : List Bool) (order2 : List ℕ) (class : ℕ) (c : ImageClass)
    → slice_get image.classes class ≡ Some c → class < length image.classes
    → length b0 ≡ length image.classes → is_told b0 class ≡ false → is_told d0 class ≡ false
    → GoesOn (set b0 class true) d0 b1 d1 → AreDone image d1 c.fields → GoesOn b1 d1 b2 d2 → IsDone image d2 c.base
    → IsWalk image b2 d2 order2
    → Entered image b0 d0 b2 (set d2 class true) (order2 ++ class ∷ []) class
entered image b0 d0 b1 d1 b2 d2 order2 class c is there long unseen_is left first fields then base walk =
    let on = goes_further (set b0 class true) d0 b1 d1 b2 d2 first then in
    let d_long = walk.done_long in
    record {
      sound = done_walk image b2 d2 order2 class walk there (still_open b0 d0 b2 d2 class (omega arith) left on)
          (all_done image d2 class c is (λ i d within object here. then.done _ (fields i d within object here)) base);
      grows = done_goes_on b0 d0 b2 d2 class (omega arith) (omega arith) unseen_is on;
      left = λ here. is_done_now d2 class (omega arith);
    }
