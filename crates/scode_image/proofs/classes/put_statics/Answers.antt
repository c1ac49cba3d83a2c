use Rattle.sed_wire.specs.Leaves.{u2}
use Rattle.scode_image.proofs.Putting.{on_ok, puts_same}
use Rattle.scode_image.proofs.PutParts.{statics_put}
use Rattle.scode_image.proofs.classes.put_statics.Goals as goal

pub returns : goal.returns
returns c = on_ok c.put_run.result _ _ (λ last. statics_put c.args.fields.now c.args.bytes.now _ _ _ _ (puts_same u2 _ _ _ _ c.len.ensures c.in_ok-put_count.ensures) c.in_ok-put_many.ensures last) c.put_run.ensures
