use Rattle.std.proofs.Common.{ℕ, List, ◌++◌, ap, ◌∙◌}
use Rattle.scode_image.proofs.Putting.{run_puts}
use Rattle.scode_image.proofs.put.put_run.Goals as goal

pub returns : goal.returns
returns c = λ n.
    run_puts n c.args.bytes.now _ _ (c.in_ok-extend_from_slice.ensures.items ∙ ap (λ (s : List ℕ). c.args.into.now.items ++ s) c.as_slice.ensures)
