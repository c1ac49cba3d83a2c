-- Instructions that loops run most.
use Rattle.scode_ops.specs.declared.op.Op.{Op}
use Rattle.scode_ops.specs.declared.op.Op.TheVariants as op

abbrev pub IsFrequentLocal : Op → Type 0
IsFrequentLocal (op.Int n) = Unit {0}
IsFrequentLocal (op.Load i) = Unit {0}
IsFrequentLocal (op.Store i) = Unit {0}
IsFrequentLocal i = ⊥

abbrev pub IsFrequentField : Op → Type 0
IsFrequentField (op.GetInt at) = Unit {0}
IsFrequentField (op.PutInt at) = Unit {0}
IsFrequentField i = ⊥
