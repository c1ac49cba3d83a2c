use Rattle.sub_table.proofs.TableLemmas.{word_is}
use Rattle.sub_table.proofs.table.SubTable.word.Goals as goal

pub returns : goal.returns
returns c = λ number same.
    word_is c.args.self.now c.args.at number c.word.result c.word-2.result c.word-3.result c.word-4.result same c.word.ensures c.word-2.ensures c.word-3.ensures c.word-4.ensures
