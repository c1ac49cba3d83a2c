use Rattle.sed_wire.specs.Leaves.{u2}
use Rattle.scode_image.specs.Grammar.{entries}
use Rattle.scode_image.proofs.Putting.{on_ok, puts_same}
use Rattle.scode_image.proofs.PutParts.{entries_put}
use Rattle.scode_image.proofs.methods.put_entries.Goals as goal

pub returns : goal.returns
returns c = on_ok c.put_all_entries.result _ _ (λ last. entries_put c.args.entries.now _ _ _ (puts_same u2 _ _ _ _ c.len.ensures c.in_ok-put_count.ensures) (λ locals count. puts_same (entries locals count) _ _ _ _ c.as_slice.ensures (last locals count))) c.put_all_entries.ensures
