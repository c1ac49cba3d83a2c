use Rattle.sed_wire.specs.Leaves.{u2}
use Rattle.scode_image.proofs.Putting.{on_ok, puts_same}
use Rattle.scode_image.proofs.PutParts.{class_puts}
use Rattle.scode_image.proofs.classes.ImageClassItem.put.Goals as goal

pub returns : goal.returns
returns c = on_ok c.put_run.result _ _ (λ last. class_puts c.args.self.now _ _ _ _ _ _ _ _ _ _ _ c.in_ok-put_u1.ensures c.in_ok-put_u1-2.ensures c.in_ok-put_text.ensures c.in_ok-put_u2.ensures c.in_ok-put_u1-3.ensures (puts_same u2 _ _ _ _ c.len.ensures c.in_ok-put_count.ensures) c.in_ok-put_many.ensures c.in_ok-put_few.ensures c.in_ok-put_few-2.ensures last) c.put_run.ensures
