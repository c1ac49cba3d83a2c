use Rattle.std.proofs.Common.{ℕ, ◌+◌, ◌*◌, ◌<◌, get_or}
use Rattle.scode_image.specs.declared.image.ImageField.{ImageField}
use Rattle.scode_fields.specs.Visits as visits
use Rattle.scode_fields.specs.Walking as walking
use Rattle.scode_fields.proofs.holders.+walking.Given as goal

-- each class that is entered is unseen before; from its fields to one of them, and to the class of that
abbrev pub decreases-go_to_fields : goal.decreases-go_to_fields
decreases-go_to_fields l = 4 * walking.unseen l.walk.now.begun.items + 3

abbrev pub decreases-go_to_field : goal.decreases-go_to_field
decreases-go_to_field l = 4 * walking.unseen l.walk.now.begun.items + 2

abbrev pub decreases-go : goal.decreases-go
decreases-go l = 4 * walking.unseen l.walk.now.begun.items + 1

abbrev pub decreases-enter : goal.decreases-enter
decreases-enter l = 4 * walking.unseen l.walk.now.begun.items

-- the walk goes on, and the fields so far are done
abbrev pub invariant-go_to_fields-loop-field : goal.invariant-go_to_fields-loop-field
invariant-go_to_fields-loop-field l = record {
  sound : visits.IsSound l.image l.walk;
  grows : visits.Grows l.initial.walk l.walk;
  done : (i : ℕ) (d : ImageField) → i < l.field-index → walking.IsFieldDone l.image l.walk.done.items
      (get_or l.fields i d);
}
