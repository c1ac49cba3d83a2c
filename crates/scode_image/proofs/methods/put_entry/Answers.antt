use Rattle.scode_image.specs.Grammar.{kind}
use Rattle.sed_wire.specs.Row.{times}
use Rattle.scode_image.proofs.Putting.{on_ok, puts_same}
use Rattle.scode_image.proofs.PutParts.{entry_puts}
use Rattle.scode_image.proofs.methods.put_entry.Goals as goal

pub returns : goal.returns
returns c = on_ok c.put_many.result _ _ (λ last. entry_puts c.args.entry.now _ _ _ _ c.in_ok-put_u2.ensures (λ n. puts_same (times n kind) _ _ _ _ c.as_slice.ensures (c.in_ok-put_all.ensures n)) last) c.put_many.ensures
