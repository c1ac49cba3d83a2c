use Rattle.std.proofs.Common.{length, map}
use Rattle.rows.proofs.Joining.{SoFar, Only}
use Rattle.rows.proofs.row.Row.read.Given as goal

abbrev pub invariant-loop-rest : goal.invariant-loop-rest
invariant-loop-rest l = record {
  so_far : SoFar l.line l.rest (map (λ v. v.items) l.inputs.items) l.field.items;
  only : Only l.line l.rest (map (λ v. v.items) l.inputs.items) l.field.items;
}

abbrev pub decreases-loop-rest : goal.decreases-loop-rest
decreases-loop-rest l = length l.rest
