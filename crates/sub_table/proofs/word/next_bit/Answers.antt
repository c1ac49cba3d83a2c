use Rattle.std.proofs.Common.{arith}
use Rattle.std.proofs.lemmas.Nat.{and_le_l}
use Rattle.sub_table.proofs.WordLemmas.{no_bit, next_is}
use Rattle.sub_table.proofs.word.next_bit.Goals as goal

pub returns-then-rest-eq0 : goal.returns-then-rest-eq0
returns-then-rest-eq0 c = no_bit c.args.word c.args.from c.requires c.if-rest-eq0.true

pub returns : goal.returns
returns c = next_is c.args.word c.args.from c.requires c.if-rest-eq0.false (let fits = c.ranges.word.fits in omega (arith, and_le_l))
