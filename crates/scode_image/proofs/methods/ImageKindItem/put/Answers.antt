use Rattle.scode_image.proofs.Putting.{on_ok}
use Rattle.scode_image.proofs.PutParts.{kind_puts_object, kind_puts_plain}
use Rattle.scode_image.proofs.methods.ImageKindItem.put.Goals as goal

pub returns-then-self-eq6 : goal.returns-then-self-eq6
returns-then-self-eq6 c = on_ok c.put_u2.result _ _ (λ last. kind_puts_object c.args.self.now _ _ _ c.if-self-eq6.true c.in_ok-put_u1.ensures last) c.put_u2.ensures

pub returns : goal.returns
returns c = kind_puts_plain c.args.self.now _ _ c.if-self-eq6.false c.in_ok-put_u1.ensures
