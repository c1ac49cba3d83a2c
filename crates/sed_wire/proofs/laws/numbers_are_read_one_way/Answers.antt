use Rattle.sed_wire.proofs.FrontLemmas.{one_number, read_number}
use Rattle.sed_wire.proofs.NumberLemmas.{written_spells}
use Rattle.sed_wire.proofs.laws.numbers_are_read_one_way.Goals as goal

pub returns : goal.returns
returns c = record {
  one = one_number;
  some = λ width number below. (_, written_spells width number below);
  read = read_number;
}
