use Rattle.std.proofs.Common.{arith}
use Rattle.dasp_msg.proofs.ReaderLemmas.{field-none, field-read, none_where_err}
use Rattle.dasp_msg.proofs.field.read_field.Goals as goal

pub returns-in_err-value : goal.returns-in_err-value
returns-in_err-value c =
    none_where_err _ _ _ _ _ c.from_residual-in_err-value.ensures.0
    (field-none _ _ _ c.in_ok-byte.ensures.found c.in_err-value.ensures)

pub returns : goal.returns
returns c = field-read _ _ _ _ _ (omega arith) c.in_ok-byte.ensures.found c.in_ok-value.ensures
