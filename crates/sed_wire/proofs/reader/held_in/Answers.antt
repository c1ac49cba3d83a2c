use Rattle.std.proofs.Common.{arith}
use Rattle.std.proofs.lemmas.Bool.Decides.{nat_tests}
use Rattle.sed_wire.proofs.NumberLemmas.{are_bytes-each}
use Rattle.sed_wire.proofs.reader.held_in.Goals as goal

pub returns-clause-of_type : goal.returns-clause-of_type
returns-clause-of_type c =
    let bytes = are_bytes-each c.args.contents.now (λ k. (c.type_inv.contents k).fits) in
    rw c.new.ensures (grind (arith, nat_tests, bytes, c.requires.few))
