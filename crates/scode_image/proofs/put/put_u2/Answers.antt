use Rattle.std.proofs.Common.{ℕ, List, ◌++◌, ap, ◌∙◌}
use Rattle.scode_image.proofs.Putting.{u2_puts}
use Rattle.scode_image.proofs.put.put_u2.Goals as goal

pub returns : goal.returns
returns c = u2_puts c.args.number _ _ (c.in_ok-extend_from_slice.ensures.items ∙ ap (λ (s : List ℕ). c.args.into.now.items ++ s) c.to_be_bytes.ensures)
