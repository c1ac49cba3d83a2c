use Rattle.scode_image.proofs.Putting.{on_ok}
use Rattle.scode_image.proofs.PutParts.{image_puts}
use Rattle.scode_image.proofs.whole.put_image.Goals as goal

pub returns : goal.returns
returns c = on_ok c.put_end.result _ _ (λ last. image_puts c.args.image.now _ _ _ _ _ _ _ _ _ c.in_ok-put_head.ensures c.in_ok-put_version.ensures c.in_ok-put_few.ensures c.in_ok-put_many.ensures c.in_ok-put_statics.ensures c.in_ok-put_many-2.ensures c.in_ok-put_many-3.ensures last) c.put_end.ensures
