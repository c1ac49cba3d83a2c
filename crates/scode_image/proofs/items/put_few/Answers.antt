use Rattle.sed_wire.specs.Leaves.{u1}
use Rattle.scode_image.proofs.Putting.{on_ok}
use Rattle.scode_image.proofs.PutParts.{counted_puts}
use Rattle.scode_image.proofs.items.put_few.Goals as goal

pub returns : goal.returns
returns g c =
    on_ok c.put_all.result _ _ (λ last. counted_puts u1 g.T.Item.form c.args.items.now _ _ _ _ _ c.len.ensures c.as_slice.ensures c.in_ok-put_small_count.ensures last) c.put_all.ensures
