use Rattle.std.proofs.Common.{◌≡◌, ℕ, ◌<◌, true}
use Rattle.scode_fields.specs.Visits as visits
use Rattle.scode_fields.specs.Walking as walking
use Rattle.scode_fields.proofs.holders.order_of.Given as goal

-- the classes so far are done, and none is within the walk
abbrev pub invariant-loop-class : goal.invariant-loop-class
invariant-loop-class l = record {
  sound : visits.IsSound l.image l.walk;
  done : (k : ℕ) → k < l.class → walking.IsDone l.image l.walk.done.items k;
  none : (k : ℕ) → walking.is_told l.walk.begun.items k ≡ true → walking.is_told l.walk.done.items k ≡ true;
}
