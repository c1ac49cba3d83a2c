use Rattle.std.proofs.Common.{◌*◌, ◌+◌}
use Rattle.scode_gen.proofs.class_fields.+fields.Given as goal

abbrev pub decreases-push_inherited : goal.decreases-push_inherited
decreases-push_inherited l = 2 * l.class

abbrev pub decreases-push_fields : goal.decreases-push_fields
decreases-push_fields l = 2 * l.class + 1
