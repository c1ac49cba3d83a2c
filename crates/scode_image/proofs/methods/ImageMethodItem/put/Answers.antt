use Rattle.scode_image.proofs.Putting.{on_ok}
use Rattle.scode_image.proofs.PutParts.{method_puts}
use Rattle.scode_image.proofs.methods.ImageMethodItem.put.Goals as goal

pub returns : goal.returns
returns c = on_ok c.put_entries.result _ _ (λ last. method_puts c.args.self.now _ _ _ _ _ _ _ _ _ c.in_ok-put_u2.ensures c.in_ok-put_u1.ensures c.in_ok-put_few.ensures c.in_ok-put.ensures c.in_ok-put_few-2.ensures c.in_ok-put_u2-2.ensures c.in_ok-put_code.ensures last) c.put_entries.ensures
