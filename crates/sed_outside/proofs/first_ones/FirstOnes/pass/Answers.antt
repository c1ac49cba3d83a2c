use Rattle.sed_outside.proofs.ToldLemmas.{adds_more}
use Rattle.sed_outside.proofs.first_ones.FirstOnes.pass.Goals as goal

pub returns-clause-adds : goal.returns-clause-adds
returns-clause-adds g c = rw (← c.self.view_is) (λ item. adds_more (record {
  told = record { first = c.self.inside.first.items; more = c.self.inside.more };
  room = c.self.inside.room;
}) item)
