use Rattle.scode_image.proofs.Putting.{on_ok, signed_through}
use Rattle.scode_image.proofs.PutParts.{kit_puts}
use Rattle.scode_image.proofs.classes.ImageKitItem.put.Goals as goal

pub returns : goal.returns
returns c =
    on_ok c.put_i4.result _ _ (λ last. kit_puts c.args.self.now _ _ _ c.in_ok-put_text.ensures (signed_through c.args.self.now.checksum _ _ last)) c.put_i4.ensures
