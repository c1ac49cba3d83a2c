use Rattle.std.proofs.Common.{◌≡◌, ◌*◌, ◌+◌, ◌++◌, drop}
use Rattle.scode_gen.specs.FirstBytes.{fields_bytes, object_bytes}
use Rattle.scode_gen.proofs.first_bytes.+objects.Given as goal

abbrev pub decreases-push_object : goal.decreases-push_object
decreases-push_object l = 3 * l.depth

abbrev pub decreases-push_field : goal.decreases-push_field
decreases-push_field l = 3 * l.depth + 1

abbrev pub decreases-push_fields : goal.decreases-push_fields
decreases-push_fields l = 3 * l.depth + 2

abbrev pub invariant-push_fields-loop-field : goal.invariant-push_fields-loop-field
invariant-push_fields-loop-field l =
    l.bytes.items ++ fields_bytes (object_bytes l.program l.depth) (drop l.field-index l.all)
    ≡ l.fn.bytes.items ++ fields_bytes (object_bytes l.program l.depth) l.all
