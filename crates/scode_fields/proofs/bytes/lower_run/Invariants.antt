use Rattle.std.proofs.Common.{drop, take}
use Rattle.std.specs.Prelude.{replicate}
use Rattle.scode_fields.specs.Rows as meaning
use Rattle.scode_fields.proofs.bytes.lower_run.Given as goal

-- the first ones are lowered
abbrev pub invariant-loop-i : goal.invariant-loop-i
invariant-loop-i l =
    meaning.Lowers l.initial.row.items l.row.items (λ bytes. meaning.below (take l.i (replicate l.count l.most))
    (drop l.from bytes))
