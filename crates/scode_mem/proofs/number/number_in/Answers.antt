use Rattle.std.proofs.Common.{◌∙◌, rules}
use Rattle.byteorder.specs.Numbers.{big_from-lt}
use Rattle.sed_wire.proofs.NumberLemmas.{big_from-all}
use Rattle.scode_mem.proofs.number.number_in.Goals as goal

pub returns-clause-number : goal.returns-clause-number
returns-clause-number c = c.read_uint.ensures ∙ big_from-all c.args.width c.args.bytes.now c.requires.all

pub returns-clause-fits : goal.returns-clause-fits
returns-clause-fits c =
    rw c.read_uint.ensures (big_from-lt 0 c.args.width c.args.bytes.now (λ i. search rules))
