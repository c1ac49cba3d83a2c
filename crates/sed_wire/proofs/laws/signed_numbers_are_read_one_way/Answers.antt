use Rattle.sed_wire.proofs.FrontLemmas.{one_signed, read_signed}
use Rattle.sed_wire.proofs.NumberLemmas.{written_spells_signed}
use Rattle.sed_wire.proofs.laws.signed_numbers_are_read_one_way.Goals as goal

pub returns : goal.returns
returns c = record {
  one = one_signed;
  some = λ width number fits. (_, written_spells_signed width number fits);
  read = read_signed;
}
