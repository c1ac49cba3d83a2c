use Rattle.std.proofs.Common.{◌≡◌, ◌==◌}
use Rattle.std.proofs.Common.{◌+◌, drop}
use Rattle.std.specs.Prelude.{not}
use Rattle.std.specs.List.{position_or_len}
use Rattle.sed_layout.proofs.offsets.count_of_class.Given as goal

abbrev pub invariant-loop-field : goal.invariant-loop-field
invariant-loop-field l =
    (l.count ≡ l.field-index)
    × (l.count + position_or_len (λ f. not (f.class.0 == l.class)) (drop l.field-index l.fields) ≡ position_or_len (λ f. not (f.class.0 == l.class)) l.fields)
