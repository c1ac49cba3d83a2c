use Rattle.std.proofs.Common.{◌≡◌, ◌+◌, ◌++◌, map, take}
use Rattle.std.specs.List.{range_with_len, sum_by}
use Rattle.sed_layout.specs.Offsets.{field_width, width_before}
use Rattle.sed_layout.proofs.offsets.push_offsets.Given as goal

abbrev pub invariant-loop-field : goal.invariant-loop-field
invariant-loop-field l =
    (l.at ≡ l.fn.start + sum_by (field_width l.program) (take l.field-index l.own))
    × (l.offsets.items ≡ l.fn.offsets.items ++ map (λ number. l.fn.start + width_before l.program l.own number) (range_with_len 0 l.field-index))
