use Rattle.std.proofs.Common.{◌≡◌, drop}
use Rattle.disk_model.specs.Left.{alike, image_left}
use Rattle.disk_model.specs.Recorded.{calls_of}
use Rattle.disk_model.proofs.left.image_of.Given as goal

abbrev pub invariant-loop-entry : goal.invariant-loop-entry
invariant-loop-entry l = image_left l.fill l.replayed (calls_of l.log (drop l.entry-index l.entries)) l.left ≡ image_left l.fill (alike l.first) (calls_of l.initial.log l.entries) l.initial.left
