use Rattle.std.proofs.Common.{arith}
use Rattle.std.proofs.lemmas.Str.Pattern.{split_once_first}
use Rattle.sedona_words.proofs.Commas.{cut_some, cut_less, cut_none}
use Rattle.sedona_words.proofs.words.cut.Goals as goal

pub returns-clause-some : goal.returns-clause-some
returns-clause-some c = cut_some c.args.word.now c.split_once.result (split_once_first 44 c.args.word.now c.split_once.result c.split_once.ensures.cases (omega arith))

pub returns-clause-less : goal.returns-clause-less
returns-clause-less c = cut_less c.args.word.now c.split_once.result (split_once_first 44 c.args.word.now c.split_once.result c.split_once.ensures.cases (omega arith))

pub returns-clause-none : goal.returns-clause-none
returns-clause-none c = cut_none c.args.word.now c.split_once.result (split_once_first 44 c.args.word.now c.split_once.result c.split_once.ensures.cases (omega arith))
