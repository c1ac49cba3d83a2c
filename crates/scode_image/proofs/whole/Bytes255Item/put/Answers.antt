use Rattle.std.proofs.Common.{ℕ, List, ◌++◌, length, ap, ◌∙◌}
use Rattle.sed_wire.specs.Leaves.{u1}
use Rattle.scode_image.proofs.Putting.{puts_same, run_puts}
use Rattle.scode_image.proofs.PutParts.{literal_puts}
use Rattle.scode_image.proofs.whole.Bytes255Item.put.Goals as goal

pub returns : goal.returns
returns c =
    literal_puts c.args.self.now _ _ _ (puts_same u1 _ _ _ _ (ap (λ (s : List ℕ). length s) c.as_bytes.ensures.same) c.in_ok-put_small_count.ensures)
    (λ n. run_puts n c.args.self.now _ _ (c.in_ok-extend_from_slice.ensures.items ∙ ap (λ (s : List ℕ). c.put_small_count.new.into.items ++ s) c.as_bytes-2.ensures.same))
