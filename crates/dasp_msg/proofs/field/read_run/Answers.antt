use Rattle.std.proofs.Common.{refl, ◌∙◌, arith}
use Rattle.dasp_msg.proofs.ReaderLemmas.{none_where_err, run-cut, run-read}
use Rattle.dasp_msg.proofs.field.read_run.Goals as goal

pub returns-in_err-take : goal.returns-in_err-take
returns-in_err-take c =
    let short = c.in_err-take.ensures.short.0 refl in
    none_where_err _ _ _ _ _ c.from_residual-in_err-take.ensures.0
    (run-cut _ _ _ c.in_ok-count.ensures.found (omega (arith, short, c.from.ensures)))

pub returns : goal.returns
returns c =
    let taken = c.in_ok-take.ensures.found in
    run-read _ _ _ _ _ (omega arith) c.in_ok-count.ensures.found (taken.0 ∙ c.from.ensures) taken.1
