use Rattle.scode_image.proofs.Putting.{on_ok}
use Rattle.scode_image.proofs.PutParts.{slot_puts}
use Rattle.scode_image.proofs.classes.ImageSlotItem.put.Goals as goal

pub returns : goal.returns
returns c = on_ok c.put_u1-2.result _ _ (λ last. slot_puts c.args.self.now _ _ _ _ _ _ c.in_ok-put_text.ensures c.in_ok-put_u1.ensures c.in_ok-put_u2.ensures c.in_ok-put_u2-2.ensures last) c.put_u1-2.ensures
