use Rattle.std.proofs.Common.{◌∙◌}
use Rattle.sub_table.proofs.TableLemmas.{mask_is}
use Rattle.sub_table.proofs.table.SubTable.mask.Goals as goal

pub returns-clause-parts : goal.returns-clause-parts
returns-clause-parts c = λ part.
    c.mask_of.ensures.parts part
    ∙ mask_is c.args.self.now c.args.place c.args.id.0 c.number_of-number.result c.requires.place c.requires.id c.number_of-number.ensures.same
    c.contains.result c.contains-2.result c.contains-3.result c.contains-4.result c.contains.ensures c.contains-2.ensures c.contains-3.ensures c.contains-4.ensures part
