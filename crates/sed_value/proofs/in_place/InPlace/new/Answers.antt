use Rattle.sed_value.proofs.InPlaceLemmas.{IsPadded-text}
use Rattle.sed_value.proofs.in_place.InPlace.new.Goals as goal

pub invariant_of-result : goal.invariant_of-result
invariant_of-result g c = rw c.copy_from_slice.ensures.after (IsPadded-text g.row.N c.args.text.now c.requires)
