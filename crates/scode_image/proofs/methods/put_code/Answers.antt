use Rattle.sed_wire.specs.Leaves.{u2}
use Rattle.scode_image.proofs.Putting.{on_ok}
use Rattle.scode_image.proofs.PutParts.{counted_run_puts}
use Rattle.scode_image.proofs.methods.put_code.Goals as goal

pub returns : goal.returns
returns c = on_ok c.put_run.result _ _ (λ last. counted_run_puts u2 c.args.code.now _ _ _ _ c.len.ensures c.in_ok-put_count.ensures last) c.put_run.ensures
